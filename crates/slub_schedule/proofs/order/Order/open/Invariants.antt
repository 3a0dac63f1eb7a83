use Rattle.std.proofs.Common.{◌≡◌, ◌++◌, drop}
use Rattle.slub_schedule.specs.Schedule.{places_from, places_of}
use Rattle.slub_schedule.proofs.order.Order.open.Given as goal

abbrev pub invariant-loop-worker : goal.invariant-loop-worker
invariant-loop-worker l = l.workers.items ++ places_from l.worker (drop l.worker l.marks) ≡ places_of l.fn.marks
