use Rattle.slub_law_alone.proofs.FromPartial.{first_kept}
use Rattle.slub_law_alone.proofs.laws.first_partial_slabs_are_taken.Goals as goal

pub returns : goal.returns
returns c = first_kept
