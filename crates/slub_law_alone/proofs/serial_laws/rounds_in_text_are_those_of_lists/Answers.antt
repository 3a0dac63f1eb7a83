use Rattle.slub_law_alone.proofs.SerialRounds.{rounds}
use Rattle.slub_law_alone.proofs.serial_laws.rounds_in_text_are_those_of_lists.Goals as goal

pub returns : goal.returns
returns c = rounds
