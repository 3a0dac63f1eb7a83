use Rattle.slub_law_opening.proofs.Systems.{rounds-keep}
use Rattle.slub_law_opening.proofs.laws.rounds_keep_lists.Goals as goal

pub returns : goal.returns
returns c = rounds-keep
