use Rattle.std.proofs.Common.{inl, inr}
use Rattle.slub_steps.proofs.run.run.Goals as goal

pub returns-in-Ok-clause-run : goal.returns-in-Ok-clause-run
returns-in-Ok-clause-run g c = inr (record { asked = c.in-Ok.asked; is_asked = c.in-Ok.ensures.asked; log = c.write_log.ensures })

pub returns-in-Err-clause-run : goal.returns-in-Err-clause-run
returns-in-Err-clause-run g c = inl (record { stop = c.in-Err.stop; why = c.in-Err.ensures.asked; ends = c.end-status.ensures })
