use Rattle.slub_law_alone.proofs.AnyChecked.{checked_freed}
use Rattle.slub_law_alone.proofs.checked_all.checked_frees_are_those_of_lists.Goals as goal

pub returns : goal.returns
returns c = checked_freed
