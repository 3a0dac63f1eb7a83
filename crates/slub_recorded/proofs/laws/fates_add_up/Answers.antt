use Rattle.slub_recorded.proofs.Counts.{add_up}
use Rattle.slub_recorded.proofs.laws.fates_add_up.Goals as goal

pub returns : goal.returns
returns c = add_up c.args.events.now
