use Rattle.slub_law_alone.proofs.Items.{journals_one}
use Rattle.slub_law_alone.proofs.outcome_laws.journals_have_one_outcome.Goals as goal

pub returns : goal.returns
returns c = journals_one
