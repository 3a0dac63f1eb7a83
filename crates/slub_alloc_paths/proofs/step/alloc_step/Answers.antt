use Rattle.slub_alloc_paths.proofs.step.alloc_step.Goals as goal

pub returns-in-LinkNew : goal.returns-in-LinkNew
returns-in-LinkNew c = λ means. rw c.in-LinkNew.is (c.link_new.ensures means)
