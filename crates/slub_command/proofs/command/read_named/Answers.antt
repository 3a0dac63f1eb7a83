use Rattle.slub_command.proofs.Commands.{no_layout, no_load, no_replay}
use Rattle.slub_command.proofs.command.read_named.Goals as goal

pub returns-in-replay-clause-none : goal.returns-in-replay-clause-none
returns-in-replay-clause-none c = λ is. no_replay _ _ c.in-replay.is (c.read_replay.ensures.none is)

pub returns-in-layout-clause-none : goal.returns-in-layout-clause-none
returns-in-layout-clause-none c = λ is. no_layout _ _ c.in-layout.is (c.read_layout.ensures.none is)

pub returns-in-load-clause-none : goal.returns-in-load-clause-none
returns-in-load-clause-none c = λ is. no_load _ _ c.in-load.is (c.read_load.ensures.none is)
