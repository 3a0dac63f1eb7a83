use Rattle.slub_law_alone.proofs.OutcomeFrees.{frees_one}
use Rattle.slub_law_alone.proofs.outcome_laws.frees_have_one_outcome.Goals as goal

pub returns : goal.returns
returns c = frees_one
