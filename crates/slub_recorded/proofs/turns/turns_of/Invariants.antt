use Rattle.std.proofs.Common.{◌≡◌, take}
use Rattle.slub_recorded.specs.Turns.{turns_of}
use Rattle.slub_recorded.proofs.turns.turns_of.Given as goal

abbrev pub invariant-loop-step : goal.invariant-loop-step
invariant-loop-step l = l.turns.items ≡ turns_of l.fn.places l.cpus (take l.step-index l.moves)
