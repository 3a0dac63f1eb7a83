use Rattle.slub_law_alone.proofs.InPlace.{in_place}
use Rattle.slub_law_alone.proofs.laws.frees_in_place_are_puts.Goals as goal

pub returns : goal.returns
returns c = in_place
