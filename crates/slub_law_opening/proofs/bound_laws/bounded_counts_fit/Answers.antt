use Rattle.slub_law_opening.proofs.BoundRooms.{counts-fit}
use Rattle.slub_law_opening.proofs.bound_laws.bounded_counts_fit.Goals as goal

pub returns : goal.returns
returns c = counts-fit
