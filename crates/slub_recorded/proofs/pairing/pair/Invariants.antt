use Rattle.std.proofs.Common.{◌≡◌, take}
use Rattle.std.specs.Prelude.{fold}
use Rattle.slub_recorded.specs.Pairing.{after, nothing}
use Rattle.slub_recorded.specs.Paired.{view}
use Rattle.slub_recorded.proofs.pairing.pair.Given as goal

abbrev pub invariant-loop-event : goal.invariant-loop-event
invariant-loop-event l = view l.pairing ≡ fold after nothing (take l.event-index l.events)
