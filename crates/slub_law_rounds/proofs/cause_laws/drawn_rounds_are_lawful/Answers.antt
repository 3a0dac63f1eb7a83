use Rattle.slub_law_rounds.proofs.WholeRan.{drawn-lawful}
use Rattle.slub_law_rounds.proofs.cause_laws.drawn_rounds_are_lawful.Goals as goal

pub returns : goal.returns
returns c = drawn-lawful
