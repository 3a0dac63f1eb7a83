use Rattle.slub_lists.proofs.Kept.{consistent-of}
use Rattle.slub_lists.proofs.Places.{checked-off}
use Rattle.slub_lists.proofs.laws.checked_slabs_are_off.Goals as goal

pub returns : goal.returns
returns c = λ s frame slab coherent is some. checked-off s frame slab (consistent-of s coherent) is some
