use Rattle.std.proofs.Common.{take}
use Rattle.slub_recorded.specs.Members.{AreFramed}
use Rattle.slub_recorded.proofs.groups.framed.Given as goal

abbrev pub invariant-loop-cache : goal.invariant-loop-cache
invariant-loop-cache l = AreFramed l.cpus (take l.cache-index l.caches) l.chosen.items
