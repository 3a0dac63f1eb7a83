use Rattle.slub_law_alone.proofs.ListSwept.{list_moved}
use Rattle.slub_law_alone.proofs.away.partial_lists_are_moved.Goals as goal

pub returns : goal.returns
returns c = list_moved
