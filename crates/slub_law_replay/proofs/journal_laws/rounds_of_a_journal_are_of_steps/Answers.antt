use Rattle.slub_law_replay.proofs.Along.{lead-along}
use Rattle.slub_law_replay.proofs.journal_laws.rounds_of_a_journal_are_of_steps.Goals as goal

pub returns : goal.returns
returns c = lead-along c.args.way c.args.trace.now c.args.journal.now c.requires.sound
