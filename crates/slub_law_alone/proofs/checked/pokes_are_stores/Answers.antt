use Rattle.slub_law_alone.proofs.CheckedPokes.{pokes_done}
use Rattle.slub_law_alone.proofs.checked.pokes_are_stores.Goals as goal

pub returns : goal.returns
returns c = pokes_done
