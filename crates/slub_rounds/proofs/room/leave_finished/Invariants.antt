use Rattle.std.proofs.Common.{◌≡◌, ◌-◌, length}
use Rattle.slub_schedule.specs.Schedule.{marks_of, places_of}
use Rattle.slub_rounds.proofs.Orders.{marks_from}
use Rattle.slub_rounds.proofs.room.leave_finished.Given as goal

abbrev pub invariant-loop-done : goal.invariant-loop-done
invariant-loop-done l = l.order ≡ places_of (marks_from (length l.locals - l.done) (marks_of l.locals))
