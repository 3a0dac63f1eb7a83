use Rattle.slub_open_close.proofs.Looking.{AreFound}
use Rattle.slub_open_close.proofs.growth.current_of.Given as goal

-- the first CPUs were looked up
abbrev pub invariant-loop-cpu : goal.invariant-loop-cpu
invariant-loop-cpu l = AreFound l.lists l.cache l.current l.cpu
