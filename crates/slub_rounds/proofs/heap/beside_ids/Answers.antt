use Rattle.std.proofs.Common.{arith}
use Rattle.slub_rounds.proofs.Standing.{step-few}
use Rattle.slub_rounds.proofs.heap.beside_ids.Goals as goal

pub ids_last-requires-clause-step : goal.ids_last-requires-clause-step
ids_last-requires-clause-step c = omega (arith, c.step_of-step.ensures, step-few c.cpus.result)
