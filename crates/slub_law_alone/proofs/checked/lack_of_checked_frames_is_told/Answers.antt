use Rattle.slub_law_alone.proofs.CheckedDry.{checked_dry}
use Rattle.slub_law_alone.proofs.checked.lack_of_checked_frames_is_told.Goals as goal

pub returns : goal.returns
returns c = checked_dry
