use Rattle.slub_law_alone.proofs.Uses.{loads}
use Rattle.slub_law_alone.proofs.laws.reads_are_loads.Goals as goal

pub returns : goal.returns
returns c = loads
