use Rattle.std.proofs.Common.{◌*◌, ◌^◌, ◌<◌, ◌≤◌, ℕ}
use Rattle.slub_object_layout.specs.Layout.{Fits}
use Rattle.slub_object_layout.proofs.layout.least_fit.Given as goal

-- no lesser order fits, and this one holds the objects
abbrev pub invariant-loop-order : goal.invariant-loop-order
invariant-loop-order l = record {
  holds : l.objects * l.size ≤ 4096 * 2 ^ l.order;
  none_below : (o : ℕ) → o < l.order → ¬ Fits l.size l.objects l.fraction o;
}
