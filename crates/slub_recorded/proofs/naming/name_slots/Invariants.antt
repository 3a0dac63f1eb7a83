use Rattle.std.proofs.Common.{◌≡◌, take, replicate, None}
use Rattle.std.specs.Prelude.{fold}
use Rattle.slub_recorded.specs.Naming.{slots_after}
use Rattle.slub_recorded.proofs.naming.name_slots.Given as goal

abbrev pub invariant-loop-step : goal.invariant-loop-step
invariant-loop-step l = l.slots.items ≡ fold (slots_after l.objects) (replicate l.names None) (take l.step-index l.moves)
