use Rattle.slub_lists.proofs.Apart.{held-apart}
use Rattle.slub_lists.proofs.laws.held_objects_are_apart.Goals as goal

pub returns : goal.returns
returns c = λ s one other byte coherent has also. held-apart s one other byte coherent has also
