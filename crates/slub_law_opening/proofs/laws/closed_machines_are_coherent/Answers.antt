use Rattle.slub_law_opening.proofs.Systems.{closed-are_coherent}
use Rattle.slub_law_opening.proofs.laws.closed_machines_are_coherent.Goals as goal

pub returns : goal.returns
returns c = closed-are_coherent
