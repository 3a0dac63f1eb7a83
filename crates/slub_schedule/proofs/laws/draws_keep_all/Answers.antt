use Rattle.slub_core.proofs.Opens.{rounds_keep}
use Rattle.slub_schedule.proofs.laws.draws_keep_all.Goals as goal

pub returns : goal.returns
returns c m s seed picks new drawn = rounds_keep m s picks new
