use Rattle.slub_law_alone.proofs.Items.{plain_items_one}
use Rattle.slub_law_alone.proofs.outcome_laws.plain_items_have_one_outcome.Goals as goal

pub returns : goal.returns
returns c = plain_items_one
