use Rattle.std.proofs.Common.{◌≡◌}
use Rattle.slub_workers.specs.Workers.{MayWorkAt, worker_in}
use Rattle.slub_workers.proofs.worker.Worker.work.Given as goal

abbrev pub invariant-loop : goal.invariant-loop
invariant-loop g l = MayWorkAt l.shared.words.shared.key l.shared.words.shared.table_id l.self × (worker_in l.self ≡ worker_in l.fn.self)
