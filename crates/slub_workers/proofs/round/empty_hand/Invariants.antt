use Rattle.std.proofs.Common.{◌≡◌, replicate, vec_capacity, ◌≤◌}
use Rattle.slub_core.specs.declared.guarded.Guarded.TheVariants.{Nothing}
use Rattle.slub_workers.proofs.round.empty_hand.Given as goal

abbrev pub invariant-loop : goal.invariant-loop
invariant-loop l = record {
  items : l.values.items ≡ replicate l.counter Nothing;
  room : 33 ≤ vec_capacity l.values;
}
