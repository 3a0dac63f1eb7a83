use Rattle.slub_law_rounds.proofs.WholeRan.{rounds-lawful}
use Rattle.slub_law_rounds.proofs.cause_laws.rounds_are_lawful.Goals as goal

pub returns : goal.returns
returns c = rounds-lawful
