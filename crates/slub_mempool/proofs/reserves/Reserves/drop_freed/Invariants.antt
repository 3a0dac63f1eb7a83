use Rattle.std.proofs.Common.{◌≡◌, take, drop, map}
use Rattle.slub_rounds.specs.Reserves.{kept_of}
use Rattle.slub_mempool.proofs.reserves.Reserves.drop_freed.Given as goal

-- the reserves below the index have what is on the board, and the others are as they were
abbrev pub invariant-loop-reserve : goal.invariant-loop-reserve
invariant-loop-reserve l = record {
  down : take l.reserve-index l.reserve-items ≡ map (kept_of l.lists) (take l.reserve-index l.initial.reserve-items);
  rest : drop l.reserve-index l.reserve-items ≡ drop l.reserve-index l.initial.reserve-items;
}
