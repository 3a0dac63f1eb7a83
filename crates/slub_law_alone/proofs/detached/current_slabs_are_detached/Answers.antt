use Rattle.slub_law_alone.proofs.DetachFirst.{detached_first}
use Rattle.slub_law_alone.proofs.detached.current_slabs_are_detached.Goals as goal

pub returns : goal.returns
returns c = detached_first
