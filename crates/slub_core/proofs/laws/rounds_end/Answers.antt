use Rattle.slub_core.proofs.RoundEnds.{rounds_end}
use Rattle.slub_core.proofs.laws.rounds_end.Goals as goal

pub returns : goal.returns
returns c = rounds_end
