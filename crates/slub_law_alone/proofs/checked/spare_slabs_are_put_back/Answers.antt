use Rattle.slub_law_alone.proofs.CheckedSpare.{spare_goes}
use Rattle.slub_law_alone.proofs.checked.spare_slabs_are_put_back.Goals as goal

pub returns : goal.returns
returns c = spare_goes
