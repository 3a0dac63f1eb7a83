use Rattle.std.proofs.Common.{length, take}
use Rattle.slub_engine.specs.Running.{HasRun}
use Rattle.slub_engine.proofs.item.serial.Given as goal

abbrev pub invariant-loop-event : goal.invariant-loop-event
invariant-loop-event l = HasRun l.initial.lists l.round.workers (length l.events) (take l.event-index l.events) l.running l.lists
