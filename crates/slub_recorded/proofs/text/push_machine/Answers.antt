use Rattle.std.proofs.Common.{append_assoc}
use Rattle.slub_recorded.proofs.text.push_machine.Goals as goal

pub returns : goal.returns
returns c = rw (c.in_ok-push_rows.ensures, c.in_ok-push_words.ensures, c.in_ok-push_numbered.ensures, c.from.ensures) (simp append_assoc)
