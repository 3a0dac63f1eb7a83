use Rattle.slub_turns.proofs.Ready.{begins_ready}
use Rattle.slub_turns.proofs.laws.rounds_begin_ready.Goals as goal

pub returns : goal.returns
returns c = begins_ready c.rounds_begin_bounded.ensures
