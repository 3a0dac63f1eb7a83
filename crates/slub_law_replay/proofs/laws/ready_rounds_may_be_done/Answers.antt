use Rattle.slub_law_replay.proofs.Ready.{may-be-done}
use Rattle.slub_law_replay.proofs.laws.ready_rounds_may_be_done.Goals as goal

pub returns : goal.returns
returns c = may-be-done
