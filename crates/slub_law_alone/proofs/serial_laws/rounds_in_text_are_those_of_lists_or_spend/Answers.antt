use Rattle.slub_law_alone.proofs.SerialRounds.{rounds_or_spent}
use Rattle.slub_law_alone.proofs.serial_laws.rounds_in_text_are_those_of_lists_or_spend.Goals as goal

pub returns : goal.returns
returns c = rounds_or_spent
