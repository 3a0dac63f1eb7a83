use Rattle.std.proofs.Common.{inr, refl}
use Rattle.slub_rounds.proofs.heap.by_steps.Goals as goal

pub returns-in-Ok-clause-does : goal.returns-in-Ok-clause-does
returns-in-Ok-clause-does c = (c.in-Ok.ended.ids, inr (c.requires.spent, c.in-Ok.ensures.does), refl)
