use Rattle.slub_law_alone.proofs.AnyCall.{all_freed}
use Rattle.slub_law_alone.proofs.calls.all_frees_are_those_of_lists.Goals as goal

pub returns : goal.returns
returns c = all_freed
