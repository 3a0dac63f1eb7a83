use Rattle.slub_law_alone.proofs.CheckedMade.{checked_made}
use Rattle.slub_law_alone.proofs.checked.checked_slabs_are_made.Goals as goal

pub returns : goal.returns
returns c = checked_made
