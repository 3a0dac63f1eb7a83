use Rattle.slub_law_alone.proofs.LastDiscarded.{last_discarded}
use Rattle.slub_law_alone.proofs.discards.last_of_listed_are_discarded.Goals as goal

pub returns : goal.returns
returns c = last_discarded
