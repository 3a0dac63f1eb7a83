use Rattle.std.proofs.Common.{refl}
use Rattle.slub_checked_paths.proofs.checked.do_write.Goals as goal

pub returns-clause-change : goal.returns-clause-change
returns-clause-change c = λ means. rw (c.at.ensures, c.set_word_in.ensures.after, c.slot_of.ensures, ← c.call.ensures, c.in-Write.is, c.cache.ensures) refl
