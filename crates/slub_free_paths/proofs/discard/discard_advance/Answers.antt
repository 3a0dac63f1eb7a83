-- The run of a slab that is unmade, by the layout of each machine of these facts.
use Rattle.slub_free_paths.proofs.discard.discard_advance.Goals as goal

pub returns-in-Unmake-Done : goal.returns-in-Unmake-Done
returns-in-Unmake-Done c = λ means. rw (c.in-Unmake-Done.is-0, c.in-Unmake-Done.is-1) (c.unmade.ensures means)
