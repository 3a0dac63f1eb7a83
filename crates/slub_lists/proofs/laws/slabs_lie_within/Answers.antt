use Rattle.slub_lists.proofs.Kept.{consistent-of}
use Rattle.slub_lists.proofs.Places.{slab-within}
use Rattle.slub_lists.proofs.laws.slabs_lie_within.Goals as goal

pub returns : goal.returns
returns c = λ s frame slab coherent is. slab-within s frame slab (consistent-of s coherent) is
