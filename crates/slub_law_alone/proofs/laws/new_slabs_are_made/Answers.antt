use Rattle.slub_law_alone.proofs.NewSlabMade.{slabs_made}
use Rattle.slub_law_alone.proofs.laws.new_slabs_are_made.Goals as goal

pub returns : goal.returns
returns c = slabs_made
