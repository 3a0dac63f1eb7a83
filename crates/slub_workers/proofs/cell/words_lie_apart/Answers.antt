use Rattle.slub_workers.proofs.Cells.{locks-lie-apart, cpu-words-lie-apart, list-words-lie-apart, slabs-lie-apart}
use Rattle.slub_workers.proofs.cell.words_lie_apart.Goals as goal

pub returns-clause-locks : goal.returns-clause-locks
returns-clause-locks c = locks-lie-apart

pub returns-clause-cpu_words : goal.returns-clause-cpu_words
returns-clause-cpu_words c = cpu-words-lie-apart

pub returns-clause-list_words : goal.returns-clause-list_words
returns-clause-list_words c = list-words-lie-apart

pub returns-clause-slab_words : goal.returns-clause-slab_words
returns-clause-slab_words c = slabs-lie-apart
