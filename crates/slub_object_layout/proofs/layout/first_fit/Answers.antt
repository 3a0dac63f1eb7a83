use Rattle.slub_object_layout.proofs.Orders.{last_fit}
use Rattle.slub_object_layout.proofs.layout.first_fit.Goals as goal

pub returns : goal.returns
returns c =
    last_fit c.args.size c.args.objects c.least_fit-3.result c.in_default.ensures c.in_default-least_fit.ensures c.least_fit-3.ensures
