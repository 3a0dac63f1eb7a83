use Rattle.slub_law_alone.proofs.Allocations.{allocations_one}
use Rattle.slub_law_alone.proofs.outcome_laws.allocations_have_one_outcome.Goals as goal

pub returns : goal.returns
returns c = allocations_one
