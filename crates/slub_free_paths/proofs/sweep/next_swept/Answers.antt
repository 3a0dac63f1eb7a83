-- The CPUs and the caches of each machine of these facts.
use Rattle.slub_free_paths.proofs.sweep.next_swept.Goals as goal

pub returns-in-Trimming : goal.returns-in-Trimming
returns-in-Trimming c = λ means. rw c.in-Trimming.is (c.trimmed_cpu.ensures means)

pub returns-in-Flushing : goal.returns-in-Flushing
returns-in-Flushing c = λ means. rw c.in-Flushing.is (c.flushed_cache.ensures means)
