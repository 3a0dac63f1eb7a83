use Rattle.std.proofs.Common.{◌≡◌, ◌≤◌, length, replicate, All, vec_capacity}
use Rattle.slub_core.specs.declared.guarded.Guarded.TheVariants.{Nothing}
use Rattle.slub_workers.proofs.round.empty_hands.Given as goal

abbrev pub invariant-loop : goal.invariant-loop
invariant-loop l = record {
  count : length l.hands.items ≡ l.counter;
  empty : All (λ hand. hand.items ≡ replicate 33 Nothing) l.hands.items;
  room : l.count ≤ vec_capacity l.hands;
}
