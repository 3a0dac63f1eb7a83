use Rattle.slub_law_rounds.proofs.Whole.{lawful}
use Rattle.slub_law_rounds.proofs.laws.rounds_are_lawful.Goals as goal

pub returns : goal.returns
returns c = λ before round result after coherent rest fits does. lawful before round result after coherent rest fits does
