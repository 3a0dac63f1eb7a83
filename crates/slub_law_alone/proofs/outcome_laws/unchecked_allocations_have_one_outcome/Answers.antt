use Rattle.slub_law_alone.proofs.Allocations.{unchecked_allocations_one}
use Rattle.slub_law_alone.proofs.outcome_laws.unchecked_allocations_have_one_outcome.Goals as goal

pub returns : goal.returns
returns c = unchecked_allocations_one
