use Rattle.slub_turns.proofs.quick.quick_step.Goals as goal

pub returns-in-LoadNext : goal.returns-in-LoadNext
returns-in-LoadNext c = λ means value. rw c.in-LoadNext.is (c.next_step.ensures means value)
