use Rattle.slub_checked_paths.proofs.checked.checked_at_once.Goals as goal

pub returns-in-AddSlab-clause-change : goal.returns-in-AddSlab-clause-change
returns-in-AddSlab-clause-change c = λ means. rw c.in-AddSlab.is (c.add_slab.ensures.change means)
