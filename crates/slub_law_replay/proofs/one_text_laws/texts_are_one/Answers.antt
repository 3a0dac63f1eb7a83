use Rattle.slub_law_replay.proofs.Items.{journal-texts-one}
use Rattle.slub_law_replay.proofs.one_text_laws.texts_are_one.Goals as goal

pub returns : goal.returns
returns c = journal-texts-one
