use Rattle.slub_core.proofs.Turns.{turn_keeps}
use Rattle.slub_core.proofs.laws.turns_keep_all.Goals as goal

pub returns : goal.returns
returns c = turn_keeps
