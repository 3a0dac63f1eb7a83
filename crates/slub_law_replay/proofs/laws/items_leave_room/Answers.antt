use Rattle.slub_law_replay.proofs.Ready.{item-leaves}
use Rattle.slub_law_replay.proofs.laws.items_leave_room.Goals as goal

pub returns : goal.returns
returns c = λ way m trace number done after sound ready does coherent. (item-leaves way m trace number done after sound ready does coherent).lists.dry
