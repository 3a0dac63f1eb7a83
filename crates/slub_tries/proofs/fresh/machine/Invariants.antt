use Rattle.slub_tries.specs.Fresh.{IsFresh}
use Rattle.slub_tries.proofs.fresh.machine.Given as goal

-- whatever caches there are, it is fresh
abbrev pub invariant-loop-item : goal.invariant-loop-item
invariant-loop-item l = IsFresh l.trace l.lists
