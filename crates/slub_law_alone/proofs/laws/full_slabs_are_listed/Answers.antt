use Rattle.slub_law_alone.proofs.FullFreed.{full_listed}
use Rattle.slub_law_alone.proofs.laws.full_slabs_are_listed.Goals as goal

pub returns : goal.returns
returns c = full_listed
