use Rattle.slub_lists.proofs.Spared.{writes-spare}
use Rattle.slub_lists.proofs.laws.writes_spare_other_objects.Goals as goal

pub returns : goal.returns
returns c = λ s worker object word value reply after coherent writes. writes-spare s worker object word value reply after coherent writes
