use Rattle.slub_law_alone.proofs.Rounds.{rounds_one}
use Rattle.slub_law_alone.proofs.outcome_laws.rounds_have_one_outcome.Goals as goal

pub returns : goal.returns
returns c = rounds_one
