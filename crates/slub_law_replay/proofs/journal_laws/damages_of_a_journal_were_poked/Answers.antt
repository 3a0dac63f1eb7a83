use Rattle.slub_law_replay.proofs.Pokes.{poked-damages}
use Rattle.slub_law_replay.proofs.journal_laws.damages_of_a_journal_were_poked.Goals as goal

pub returns : goal.returns
returns c = poked-damages c.args.way c.args.trace.now c.args.journal.now c.requires.sound c.requires.lawful
