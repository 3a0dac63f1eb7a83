use Rattle.slub_schedule.proofs.Places.{places_apart}
use Rattle.slub_schedule.proofs.laws.places_are_apart.Goals as goal

pub returns : goal.returns
returns c = places_apart
