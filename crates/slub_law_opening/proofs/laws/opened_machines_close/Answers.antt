use Rattle.slub_law_opening.proofs.Systems.{opened-close}
use Rattle.slub_law_opening.proofs.laws.opened_machines_close.Goals as goal

pub returns : goal.returns
returns c = opened-close
