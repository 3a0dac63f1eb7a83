use Rattle.slub_law_alone.proofs.AnyFree.{any_freed}
use Rattle.slub_law_alone.proofs.frees.frees_are_those_of_lists.Goals as goal

pub returns : goal.returns
returns c = any_freed
