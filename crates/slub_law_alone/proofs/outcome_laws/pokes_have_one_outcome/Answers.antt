use Rattle.slub_law_alone.proofs.Words.{pokes_one}
use Rattle.slub_law_alone.proofs.outcome_laws.pokes_have_one_outcome.Goals as goal

pub returns : goal.returns
returns c = pokes_one
