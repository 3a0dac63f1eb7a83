use Rattle.slub_law_alone.proofs.Creations.{creations_one}
use Rattle.slub_law_alone.proofs.outcome_laws.creations_have_one_outcome.Goals as goal

pub returns : goal.returns
returns c = creations_one
