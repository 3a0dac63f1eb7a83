use Rattle.slub_law_opening.proofs.Opens.{begins-bounded}
use Rattle.slub_law_opening.proofs.bound_laws.rounds_begin_bounded.Goals as goal

pub returns : goal.returns
returns c = begins-bounded
