use Rattle.slub_law_opening.proofs.Systems.{lists-stand}
use Rattle.slub_law_opening.proofs.laws.coherent_lists_stand.Goals as goal

pub returns : goal.returns
returns c = lists-stand
