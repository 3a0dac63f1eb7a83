use Rattle.slub_law_words.proofs.Opened.{opened_words_are_packed}
use Rattle.slub_law_words.proofs.laws.opened_words_are_packed.Goals as goal

pub returns : goal.returns
returns c = opened_words_are_packed
