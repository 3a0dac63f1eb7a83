use Rattle.std.proofs.Common.{rules}
use Rattle.slub_object_layout.proofs.Orders.{least_order, least_order_small}
use Rattle.slub_object_layout.proofs.layout.get_order.Goals as goal

pub returns-clause-least : goal.returns-clause-least
returns-clause-least c = least_order _ _ c.requires (search rules)

pub returns-clause-small : goal.returns-clause-small
returns-clause-small c = least_order_small c.args.bytes _ c.requires (least_order _ _ c.requires (search rules))
