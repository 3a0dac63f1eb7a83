use Rattle.slub_law_alone.proofs.CheckedGiven.{objects_given}
use Rattle.slub_law_alone.proofs.checked.checked_objects_are_given.Goals as goal

pub returns : goal.returns
returns c = objects_given
