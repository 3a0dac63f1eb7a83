use Rattle.slub_outcomes.proofs.Reached.{Reached}
use Rattle.slub_outcomes.proofs.replay.do_items.Given as goal

abbrev pub invariant-loop-number : goal.invariant-loop-number
invariant-loop-number g l = Reached l.seed l.trace l.span l.number l.machine l.text.items
