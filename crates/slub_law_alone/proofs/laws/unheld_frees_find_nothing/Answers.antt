use Rattle.slub_law_alone.proofs.Unheld.{finds_nothing}
use Rattle.slub_law_alone.proofs.laws.unheld_frees_find_nothing.Goals as goal

pub returns : goal.returns
returns c = finds_nothing
