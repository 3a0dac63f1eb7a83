use Rattle.std.proofs.Common.{refl}
use Rattle.slub_alloc_paths.proofs.install.again_loaded.Goals as goal

pub returns-in-Word : goal.returns-in-Word
returns-in-Word c = λ means. rw (c.in-Word.is, c.at.ensures, c.set_cpu_word.ensures, c.way_of_again.ensures means, c.told_of_word.ensures means, c.hand-hand.ensures, c.cpu_in-word.ensures) refl
