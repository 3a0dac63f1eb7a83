use Rattle.slub_law_alone.proofs.InPlace.{last_kept}
use Rattle.slub_law_alone.proofs.laws.last_of_listed_are_kept.Goals as goal

pub returns : goal.returns
returns c = last_kept
