use Rattle.slub_law_alone.proofs.SerialRounds.{all_rounds}
use Rattle.slub_law_alone.proofs.serial_laws.runs_of_lists_are_rounds.Goals as goal

pub returns : goal.returns
returns c = all_rounds
