use Rattle.slub_calls.proofs.Fitting.{numbered}
use Rattle.slub_calls.proofs.laws.workers_are_numbered.Goals as goal

pub returns : goal.returns
returns c = numbered
