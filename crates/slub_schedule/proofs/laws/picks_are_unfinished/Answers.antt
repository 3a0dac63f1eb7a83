use Rattle.slub_schedule.proofs.Picks.{picks_unfinished}
use Rattle.slub_schedule.proofs.laws.picks_are_unfinished.Goals as goal

pub returns : goal.returns
returns c = picks_unfinished
