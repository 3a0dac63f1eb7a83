use Rattle.slub_law_alone.proofs.CheckedUses.{checked_loads}
use Rattle.slub_law_alone.proofs.checked.checked_reads_are_loads.Goals as goal

pub returns : goal.returns
returns c = checked_loads
