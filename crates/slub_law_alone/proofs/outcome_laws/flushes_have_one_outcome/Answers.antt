use Rattle.slub_law_alone.proofs.Shrinks.{flushes_one}
use Rattle.slub_law_alone.proofs.outcome_laws.flushes_have_one_outcome.Goals as goal

pub returns : goal.returns
returns c = flushes_one
