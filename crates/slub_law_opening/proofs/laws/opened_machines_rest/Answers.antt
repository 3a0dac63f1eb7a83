use Rattle.slub_law_opening.proofs.Systems.{opened-rest}
use Rattle.slub_law_opening.proofs.laws.opened_machines_rest.Goals as goal

pub returns : goal.returns
returns c = opened-rest
