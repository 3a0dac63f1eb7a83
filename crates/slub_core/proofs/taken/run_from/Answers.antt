use Rattle.slub_core.proofs.Runs.{found_run-first}
use Rattle.slub_core.proofs.taken.run_from.Goals as goal

pub returns-in-Some-clause-found : goal.returns-in-Some-clause-found
returns-in-Some-clause-found c = λ m. found_run-first m _ _ _ _ c.frames-frames.ensures.pool c.requires c.in-Some.ensures.takes
