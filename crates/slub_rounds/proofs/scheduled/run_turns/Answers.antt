use Rattle.slub_schedule.proofs.Drawn.{ends_drawn}
use Rattle.slub_rounds.proofs.Seeding.{unended_drawn}
use Rattle.slub_rounds.proofs.scheduled.run_turns.Goals as goal

pub returns-in-Ok-clause-ends : goal.returns-in-Ok-clause-ends
returns-in-Ok-clause-ends c = ends_drawn _ _ _ _ (λ d. d.draws) (λ a w b is. is) (λ a p b is. is) _ _ _ c.in-Ok.ensures.ends

pub returns-in-Err-TurnsSpent-clause-spent : goal.returns-in-Err-TurnsSpent-clause-spent
returns-in-Err-TurnsSpent-clause-spent c = unended_drawn _ _ _ _ (λ d. d.draws) (λ a w b is. is) (λ a p b is. is) _ _ _ _ c.in-Err-TurnsSpent.field-0-is c.in-Err-TurnsSpent.ensures.ends
