use Rattle.slub_law_replay.proofs.Ready.{opened_machine_ready}
use Rattle.slub_law_replay.proofs.journal_laws.opening_is_ready.Goals as goal

pub returns : goal.returns
returns c = opened_machine_ready c.args.trace.now c.requires.sound c.requires.coherent
