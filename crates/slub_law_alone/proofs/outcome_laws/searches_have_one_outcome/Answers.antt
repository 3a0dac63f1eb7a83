use Rattle.slub_law_alone.proofs.Pool.{searches_one}
use Rattle.slub_law_alone.proofs.outcome_laws.searches_have_one_outcome.Goals as goal

pub returns : goal.returns
returns c = searches_one
