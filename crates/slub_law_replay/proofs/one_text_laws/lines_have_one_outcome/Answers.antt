use Rattle.slub_law_replay.proofs.Items.{lines-one}
use Rattle.slub_law_replay.proofs.one_text_laws.lines_have_one_outcome.Goals as goal

pub returns : goal.returns
returns c = lines-one
