use Rattle.slub_law_alone.proofs.TurnsOfOne.{turns_of_one}
use Rattle.slub_law_alone.proofs.busy.turns_are_of_one_call.Goals as goal

pub returns : goal.returns
returns c = turns_of_one
