use Rattle.slub_law_alone.proofs.FastFree.{fast_pushes}
use Rattle.slub_law_alone.proofs.laws.fast_frees_are_pushes.Goals as goal

pub returns : goal.returns
returns c = fast_pushes
