use Rattle.std.proofs.Common.{ℕ, ◌≡◌, ◌<◌, ◌≤◌, false, nat_eq}
use Rattle.std.specs.List.{list_any}
use Rattle.slub_trace_reader.proofs.numbers.has_none.Given as goal

abbrev pub invariant-loop-object : goal.invariant-loop-object
invariant-loop-object l = record {
  low : l.fn.first ≤ l.object;
  each : (n : ℕ) → l.fn.first ≤ n → n < l.object → list_any (nat_eq n) l.fn.objects.keys ≡ false;
}
