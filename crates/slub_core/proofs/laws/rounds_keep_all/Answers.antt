use Rattle.slub_core.proofs.Opens.{rounds_keep}
use Rattle.slub_core.proofs.laws.rounds_keep_all.Goals as goal

pub returns : goal.returns
returns c = rounds_keep
