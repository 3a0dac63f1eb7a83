use Rattle.slub_rounds.proofs.Lawful.{orders-lawful}
use Rattle.slub_rounds.proofs.laws.rounds_in_order_are_lawful.Goals as goal

pub returns : goal.returns
returns c = orders-lawful c.rounds_are_lawful.ensures
