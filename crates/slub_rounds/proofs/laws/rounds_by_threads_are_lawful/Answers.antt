use Rattle.slub_rounds.proofs.Lawful.{threads-lawful}
use Rattle.slub_rounds.proofs.laws.rounds_by_threads_are_lawful.Goals as goal

pub returns : goal.returns
returns c = threads-lawful c.rounds_are_lawful.ensures
