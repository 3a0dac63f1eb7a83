use Rattle.slub_schedule.proofs.Picks.{rounds_end}
use Rattle.slub_schedule.proofs.laws.rounds_end_or_are_spent.Goals as goal

pub returns : goal.returns
returns c = rounds_end
