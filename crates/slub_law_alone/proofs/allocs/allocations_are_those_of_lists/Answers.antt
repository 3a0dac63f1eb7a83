use Rattle.slub_law_alone.proofs.AnyAlloc.{any_allocated}
use Rattle.slub_law_alone.proofs.allocs.allocations_are_those_of_lists.Goals as goal

pub returns : goal.returns
returns c = any_allocated
