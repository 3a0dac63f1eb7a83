use Rattle.slub_turns.proofs.Ready.{keeps_ready}
use Rattle.slub_turns.proofs.laws.turns_keep_ready.Goals as goal

pub returns : goal.returns
returns c = keeps_ready c.turns_keep_bounds.ensures
