use Rattle.slub_schedule.proofs.Picks.{rounds_unique}
use Rattle.slub_schedule.proofs.laws.rounds_are_unique.Goals as goal

pub returns : goal.returns
returns c = rounds_unique
