use Rattle.slub_law_words.proofs.Opened.{rounds_keep_words}
use Rattle.slub_law_words.proofs.laws.rounds_keep_words.Goals as goal

pub returns : goal.returns
returns c = rounds_keep_words
