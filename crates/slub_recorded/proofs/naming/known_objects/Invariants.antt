use Rattle.std.proofs.Common.{◌≡◌, take, map}
use Rattle.std.specs.Prelude.{fold}
use Rattle.slub_recorded.specs.Naming.{own_after, unnamed}
use Rattle.slub_recorded.proofs.naming.known_objects.Given as goal

abbrev pub invariant-loop-step : goal.invariant-loop-step
invariant-loop-step l = l.known.items ≡ fold (own_after l.slots) (map unnamed l.objects) (take l.step-index l.moves)
