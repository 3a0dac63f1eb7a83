use Rattle.slub_checked_paths.proofs.checked.do_checked.Goals as goal

pub returns-in-Write-clause-change : goal.returns-in-Write-clause-change
returns-in-Write-clause-change c = λ means. rw c.in-Write.is (c.do_write.ensures.change means)

pub returns-in-Read-clause-change : goal.returns-in-Read-clause-change
returns-in-Read-clause-change c = λ means. rw c.in-Read.is (c.do_read.ensures.change means)

pub returns-in-Poke-clause-change : goal.returns-in-Poke-clause-change
returns-in-Poke-clause-change c = λ means. rw c.in-Poke.is (c.do_poke.ensures.change means)
