use Rattle.slub_law_alone.proofs.FastAlloc.{fast_pops}
use Rattle.slub_law_alone.proofs.laws.fast_allocations_are_pops.Goals as goal

pub returns : goal.returns
returns c = fast_pops
