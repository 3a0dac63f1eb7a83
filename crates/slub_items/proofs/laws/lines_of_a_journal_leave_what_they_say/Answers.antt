use Rattle.slub_items.proofs.Lines.{leave-along}
use Rattle.slub_items.proofs.laws.lines_of_a_journal_leave_what_they_say.Goals as goal

pub returns : goal.returns
returns c = leave-along c.args.way c.args.trace.now c.args.journal.now c.requires.sound
