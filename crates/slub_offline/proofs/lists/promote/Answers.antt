use Rattle.slub_core.proofs.Updates.{rooms_of-set}
use Rattle.slub_offline.proofs.lists.promote.Goals as goal

pub returns-clause-rooms : goal.returns-clause-rooms
returns-clause-rooms c = rooms_of-set _ _ _ _ c.put_in_order.ensures.room
