use Rattle.std.proofs.Common.{refl}
use Rattle.slub_law_rounds.proofs.Sparing.{spares-by}
use Rattle.slub_law_rounds.proofs.laws.events_spare_other_objects.Goals as goal

pub returns : goal.returns
returns c = λ s event reply after coherent answers. spares-by s event reply after coherent answers event.act refl
