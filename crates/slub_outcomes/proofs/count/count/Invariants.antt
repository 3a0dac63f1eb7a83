use Rattle.slub_outcomes.proofs.Replaying.{SoFar}
use Rattle.slub_outcomes.proofs.count.count.Given as goal

abbrev pub invariant-loop-k : goal.invariant-loop-k
invariant-loop-k g l = SoFar l.trace l.span l.from l.k l.tally l.is_spent
