use Rattle.slub_lists.proofs.Kept.{consistent-of}
use Rattle.slub_lists.proofs.Places.{one-object-a-byte}
use Rattle.slub_lists.proofs.laws.objects_are_apart.Goals as goal

pub returns : goal.returns
returns c = λ s f i g j byte coherent one other. one-object-a-byte s f i g j byte (consistent-of s coherent) one other
