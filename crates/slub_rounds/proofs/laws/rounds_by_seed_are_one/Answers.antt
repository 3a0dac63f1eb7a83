use Rattle.slub_rounds.proofs.One.{are-one}
use Rattle.slub_rounds.proofs.laws.rounds_by_seed_are_one.Goals as goal

pub returns : goal.returns
returns c = are-one
