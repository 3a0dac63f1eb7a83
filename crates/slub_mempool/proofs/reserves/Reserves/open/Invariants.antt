use Rattle.std.proofs.Common.{◌≡◌, ◌≤◌, [], All, length}
use Rattle.std.specs.Prelude.{vec_capacity}
use Rattle.slub_mempool.proofs.reserves.Reserves.open.Given as goal

-- so many rooms are there
abbrev pub invariant-loop : goal.invariant-loop
invariant-loop l = record {
  count : length l.spare.items ≡ l.counter;
  rooms : All (λ room. (room.items ≡ []) × (64 ≤ vec_capacity room)) l.spare.items;
}
