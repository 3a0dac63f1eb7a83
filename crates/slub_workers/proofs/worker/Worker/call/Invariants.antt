use Rattle.std.proofs.Common.{◌≡◌, length}
use Rattle.slub_workers.specs.Workers.{MayTurnAt, worker_in}
use Rattle.slub_workers.specs.Tables.{begun_at, table_of}
use Rattle.slub_workers.specs.Rule.{setup_in}
use Rattle.slub_workers.proofs.CallTurns.{Leaves}
use Rattle.slub_workers.proofs.worker.Worker.call.Given as goal

abbrev pub invariant-loop : goal.invariant-loop
invariant-loop g l = record {
  seat : MayTurnAt (begun_at l.shared) (table_of l.shared) l.self;
  number : worker_in l.self ≡ worker_in l.fn.self;
  told : l.told ≡ length l.fn.self.1.local.done;
  leaves : Leaves (setup_in (begun_at l.shared)) l.told l.fn.self.1 l.self.1;
}
