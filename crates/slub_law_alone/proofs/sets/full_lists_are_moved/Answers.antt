use Rattle.slub_law_alone.proofs.Moved.{lists_moved}
use Rattle.slub_law_alone.proofs.sets.full_lists_are_moved.Goals as goal

pub returns : goal.returns
returns c = lists_moved
