-- The two ways on whose answer the machine's layout decides, at each machine of these facts.
use Rattle.slub_free_paths.proofs.free.free_advance.Goals as goal

pub returns-in-FreeSlab-Won : goal.returns-in-FreeSlab-Won
returns-in-FreeSlab-Won c = λ means. rw (c.in-FreeSlab-Won.is-0, c.in-FreeSlab-Won.is-1) (c.slab_freed.ensures means)

pub returns-in-LoadCount-Word : goal.returns-in-LoadCount-Word
returns-in-LoadCount-Word c = λ means. rw (c.in-LoadCount-Word.is-0, c.in-LoadCount-Word.is-1, ← c.list_in.ensures) (c.count_loaded.ensures means)
