use Rattle.std.proofs.Common.{◌≡◌, take}
use Rattle.slub_recorded.specs.Caches.{caches_of}
use Rattle.slub_recorded.proofs.groups.caches_of.Given as goal

abbrev pub invariant-loop-step : goal.invariant-loop-step
invariant-loop-step l = l.caches.items ≡ caches_of l.titles l.objects (take l.step-index l.moves)
