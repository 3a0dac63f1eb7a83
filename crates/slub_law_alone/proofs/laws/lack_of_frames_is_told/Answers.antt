use Rattle.slub_law_alone.proofs.NewSlabDry.{lack_told}
use Rattle.slub_law_alone.proofs.laws.lack_of_frames_is_told.Goals as goal

pub returns : goal.returns
returns c = lack_told
