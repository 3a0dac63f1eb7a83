use Rattle.slub_core.proofs.Updates.{rooms_of-set}
use Rattle.slub_free_paths.proofs.lists.take_off.Goals as goal

pub returns-clause-rooms : goal.returns-clause-rooms
returns-clause-rooms c = rooms_of-set _ _ _ _ c.remove.ensures.room
