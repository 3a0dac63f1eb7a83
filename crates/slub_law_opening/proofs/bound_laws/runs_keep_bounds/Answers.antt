use Rattle.slub_law_opening.proofs.Turns.{run-bounded}
use Rattle.slub_law_opening.proofs.bound_laws.runs_keep_bounds.Goals as goal

pub returns : goal.returns
returns c = run-bounded
