use Rattle.slub_law_opening.proofs.Telling.{words-tell}
use Rattle.slub_law_opening.proofs.laws.words_tell_lists.Goals as goal

pub returns : goal.returns
returns c = words-tell
