use Rattle.slub_law_alone.proofs.Words.{writes_one}
use Rattle.slub_law_alone.proofs.outcome_laws.writes_have_one_outcome.Goals as goal

pub returns : goal.returns
returns c = writes_one
