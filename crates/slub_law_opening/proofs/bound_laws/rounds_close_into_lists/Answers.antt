use Rattle.slub_law_opening.proofs.BoundCloses.{rounds-close}
use Rattle.slub_law_opening.proofs.bound_laws.rounds_close_into_lists.Goals as goal

pub returns : goal.returns
returns c = rounds-close
