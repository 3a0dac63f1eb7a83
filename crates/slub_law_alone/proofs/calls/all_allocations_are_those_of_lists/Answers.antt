use Rattle.slub_law_alone.proofs.AnyCall.{all_allocated}
use Rattle.slub_law_alone.proofs.calls.all_allocations_are_those_of_lists.Goals as goal

pub returns : goal.returns
returns c = all_allocated
