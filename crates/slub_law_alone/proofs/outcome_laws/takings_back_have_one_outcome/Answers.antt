use Rattle.slub_law_alone.proofs.CheckedSlabs.{taken_back_one}
use Rattle.slub_law_alone.proofs.outcome_laws.takings_back_have_one_outcome.Goals as goal

pub returns : goal.returns
returns c = taken_back_one
