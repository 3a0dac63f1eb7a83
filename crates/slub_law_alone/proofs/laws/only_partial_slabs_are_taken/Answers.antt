use Rattle.slub_law_alone.proofs.FromPartial.{only_kept}
use Rattle.slub_law_alone.proofs.laws.only_partial_slabs_are_taken.Goals as goal

pub returns : goal.returns
returns c = only_kept
