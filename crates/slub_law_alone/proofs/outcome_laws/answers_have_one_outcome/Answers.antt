use Rattle.slub_law_alone.proofs.Events.{answers_one}
use Rattle.slub_law_alone.proofs.outcome_laws.answers_have_one_outcome.Goals as goal

pub returns : goal.returns
returns c = answers_one
