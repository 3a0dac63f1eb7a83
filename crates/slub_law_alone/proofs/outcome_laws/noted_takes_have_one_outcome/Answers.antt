use Rattle.slub_law_alone.proofs.Pool.{noted_one}
use Rattle.slub_law_alone.proofs.outcome_laws.noted_takes_have_one_outcome.Goals as goal

pub returns : goal.returns
returns c = noted_one
