use Rattle.slub_core.proofs.Updates.{rooms_of-set}
use Rattle.slub_core.proofs.values.pop_node.Goals as goal

pub returns-then-lock-values-clause-rooms : goal.returns-then-lock-values-clause-rooms
returns-then-lock-values-clause-rooms c = rooms_of-set _ _ _ _ c.pop.ensures.room
