use Rattle.slub_law_alone.proofs.SpentSlab.{taken_off}
use Rattle.slub_law_alone.proofs.spent.spent_slabs_are_taken_off.Goals as goal

pub returns : goal.returns
returns c = taken_off
