use Rattle.slub_law_alone.proofs.CheckedFreed.{taken_alone}
use Rattle.slub_law_alone.proofs.checked.checked_frees_are_taken.Goals as goal

pub returns : goal.returns
returns c = taken_alone
