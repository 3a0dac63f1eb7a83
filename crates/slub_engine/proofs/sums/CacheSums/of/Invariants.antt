use Rattle.std.proofs.Common.{◌*◌, ◌^◌, take}
use Rattle.slub_engine.specs.Sums.{AreAtMost, AreSums}
use Rattle.slub_engine.proofs.sums.CacheSums.of.Given as goal

abbrev pub invariant-loop-cache : goal.invariant-loop-cache
invariant-loop-cache l = record {
  sums : AreSums l.lists (take l.cache-index l.lists.table.ages) l.sums;
  small : AreAtMost (l.cache-index * 2 ^ 32) l.sums;
}
