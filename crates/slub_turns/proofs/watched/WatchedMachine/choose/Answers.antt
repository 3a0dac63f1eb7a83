use Rattle.std.proofs.Common.{refl}
use Rattle.slub_turns.proofs.Chosen.{ok_beside, err_beside}
use Rattle.slub_turns.proofs.watched.WatchedMachine.choose.Goals as goal

pub returns-clause-chooses : goal.returns-clause-chooses
returns-clause-chooses g c = ok_beside c.choose.result _ _ refl c.choose.ensures.chosen

pub returns-clause-halts : goal.returns-clause-halts
returns-clause-halts g c = err_beside c.choose.result _ _ refl c.choose.ensures.halted
