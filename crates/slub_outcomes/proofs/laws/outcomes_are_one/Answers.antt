use Rattle.slub_outcomes.proofs.OneOutcome.{outcomes-one}
use Rattle.slub_outcomes.proofs.laws.outcomes_are_one.Goals as goal

pub returns : goal.returns
returns c = outcomes-one
