use Rattle.slub_law_opening.proofs.Turns.{turn-bounded}
use Rattle.slub_law_opening.proofs.bound_laws.turns_keep_bounds.Goals as goal

pub returns : goal.returns
returns c = turn-bounded
