use Rattle.slub_law_replay.proofs.Items.{journals-one}
use Rattle.slub_law_replay.proofs.one_text_laws.journals_are_one.Goals as goal

pub returns : goal.returns
returns c = journals-one
