use Rattle.slub_red_zone.proofs.Telling.{tells-of-slabs}
use Rattle.slub_red_zone.proofs.laws.giving_tells_of_slabs.Goals as goal

pub returns : goal.returns
returns c = λ s answer after sound gives. tells-of-slabs s answer after sound gives
