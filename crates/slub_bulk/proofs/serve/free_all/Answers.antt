use Rattle.slub_rounds.proofs.Stopping.{none-stopped}
use Rattle.slub_bulk.proofs.serve.free_all.Goals as goal

pub returns-in_err-push-clause-stopped : goal.returns-in_err-push-clause-stopped
returns-in_err-push-clause-stopped c = none-stopped _ c.from_residual-in_err-push.result c.from_residual-in_err-push.ensures.1
