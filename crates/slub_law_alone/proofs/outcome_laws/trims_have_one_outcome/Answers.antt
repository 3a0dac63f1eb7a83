use Rattle.slub_law_alone.proofs.Shrinks.{trims_one}
use Rattle.slub_law_alone.proofs.outcome_laws.trims_have_one_outcome.Goals as goal

pub returns : goal.returns
returns c = trims_one
