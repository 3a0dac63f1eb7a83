use Rattle.slub_law_alone.proofs.Between.{destructions_one}
use Rattle.slub_law_alone.proofs.outcome_laws.destructions_have_one_outcome.Goals as goal

pub returns : goal.returns
returns c = destructions_one
