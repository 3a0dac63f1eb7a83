use Rattle.std.proofs.Common.{refl}
use Rattle.slub_turns.proofs.Chosen.{both_beside}
use Rattle.slub_turns.proofs.watched.WatchedMachine.end.Goals as goal

pub returns-clause-ends : goal.returns-clause-ends
returns-clause-ends g c = both_beside c.end.result _ _ _ refl c.end.ensures
