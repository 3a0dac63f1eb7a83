use Rattle.slub_law_alone.proofs.Rounds.{unchecked_rounds_one}
use Rattle.slub_law_alone.proofs.outcome_laws.unchecked_rounds_have_one_outcome.Goals as goal

pub returns : goal.returns
returns c = unchecked_rounds_one
