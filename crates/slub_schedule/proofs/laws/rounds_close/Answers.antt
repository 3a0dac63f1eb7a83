use Rattle.slub_schedule.proofs.Closing.{close_well}
use Rattle.slub_schedule.proofs.laws.rounds_close.Goals as goal

pub returns : goal.returns
returns c = close_well
