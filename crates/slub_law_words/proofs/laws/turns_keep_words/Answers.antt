use Rattle.slub_law_words.proofs.Turns.{turns_keep_words}
use Rattle.slub_law_words.proofs.laws.turns_keep_words.Goals as goal

pub returns : goal.returns
returns c = turns_keep_words
