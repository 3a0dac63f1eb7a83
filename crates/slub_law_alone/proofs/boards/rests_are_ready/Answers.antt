use Rattle.slub_law_alone.proofs.Ready.{rests_ready}
use Rattle.slub_law_alone.proofs.boards.rests_are_ready.Goals as goal

pub returns : goal.returns
returns c = rests_ready
