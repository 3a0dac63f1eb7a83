use Rattle.slub_law_words.proofs.Turns.{runs_keep_words}
use Rattle.slub_law_words.proofs.laws.runs_keep_words.Goals as goal

pub returns : goal.returns
returns c = runs_keep_words
