use Rattle.std.proofs.Common.{◌≡◌, ◌≤◌, take}
use Rattle.std.specs.Prelude.{vec_capacity}
use Rattle.slub_mempool.proofs.reserves.Reserves.make.Given as goal

abbrev pub invariant-loop-number : goal.invariant-loop-number
invariant-loop-number l = record {
  items : l.room.items ≡ take l.number-index l.numbers;
  room : 64 ≤ vec_capacity l.room;
}
