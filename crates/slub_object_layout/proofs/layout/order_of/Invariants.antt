use Rattle.std.proofs.Common.{◌≤◌}
use Rattle.slub_object_layout.specs.Layout.{most_objects}
use Rattle.slub_object_layout.proofs.Orders.{NoneAbove}
use Rattle.slub_object_layout.proofs.layout.order_of.Given as goal

-- no greater number of objects has an order
abbrev pub invariant-loop-objects : goal.invariant-loop-objects
invariant-loop-objects l = record {
  within : l.objects ≤ most_objects l.size l.cpus;
  none_above : NoneAbove l.size (most_objects l.size l.cpus) l.objects;
}

abbrev pub decreases-loop-objects : goal.decreases-loop-objects
decreases-loop-objects l = l.objects
