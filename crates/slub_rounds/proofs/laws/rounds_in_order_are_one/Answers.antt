use Rattle.slub_rounds.proofs.OneInOrder.{orders-one}
use Rattle.slub_rounds.proofs.laws.rounds_in_order_are_one.Goals as goal

pub returns : goal.returns
returns c = orders-one
