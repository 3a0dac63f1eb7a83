use Rattle.slub_schedule.proofs.Closing.{end_well}
use Rattle.slub_schedule.proofs.laws.rounds_end_well.Goals as goal

pub returns : goal.returns
returns c = end_well
