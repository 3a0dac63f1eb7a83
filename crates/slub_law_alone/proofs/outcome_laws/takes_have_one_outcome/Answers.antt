use Rattle.slub_law_alone.proofs.Pool.{takes_one}
use Rattle.slub_law_alone.proofs.outcome_laws.takes_have_one_outcome.Goals as goal

pub returns : goal.returns
returns c = takes_one
