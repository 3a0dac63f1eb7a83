use Rattle.slub_law_alone.proofs.CheckedFreed.{damage_told}
use Rattle.slub_law_alone.proofs.checked.damaged_frees_are_told.Goals as goal

pub returns : goal.returns
returns c = damage_told
