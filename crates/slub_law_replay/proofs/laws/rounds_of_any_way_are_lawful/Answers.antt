use Rattle.slub_law_replay.proofs.Fitting.{lawful-by}
use Rattle.slub_law_replay.proofs.laws.rounds_of_any_way_are_lawful.Goals as goal

pub returns : goal.returns
returns c = lawful-by
