use Rattle.slub_offline.proofs.trim.trim_at_once.Goals as goal

pub returns-in-DropScanned-clause-change : goal.returns-in-DropScanned-clause-change
returns-in-DropScanned-clause-change c = λ means. rw c.in-DropScanned.is (c.slab_dropped.ensures.change means)
