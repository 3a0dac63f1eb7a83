use Rattle.slub_law_alone.proofs.Between.{shrinks_one}
use Rattle.slub_law_alone.proofs.outcome_laws.shrinks_have_one_outcome.Goals as goal

pub returns : goal.returns
returns c = shrinks_one
