use Rattle.slub_law_opening.proofs.BoundCloses.{machines-may_close}
use Rattle.slub_law_opening.proofs.bound_laws.machines_may_close.Goals as goal

pub returns : goal.returns
returns c = machines-may_close
