use Rattle.slub_law_words.proofs.Changes.{changes_end}
use Rattle.slub_law_words.proofs.laws.changes_end.Goals as goal

pub returns : goal.returns
returns c = changes_end
