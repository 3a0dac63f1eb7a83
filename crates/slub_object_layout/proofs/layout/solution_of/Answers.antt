use Rattle.std.proofs.Common.{refl, arith, rules}
use Rattle.slub_object_layout.proofs.Bounds.{bounds_of, count_is}
use Rattle.slub_object_layout.proofs.Orders.{order_is}
use Rattle.slub_object_layout.proofs.layout.solution_of.Goals as goal

pub cpu_partial_slabs-requires : goal.cpu_partial_slabs-requires
cpu_partial_slabs-requires c =
    let size = c.slot_of-size.result in
    let room = order_is size c.args.cpus c.order_of-order.result (omega arith) c.slot_of-size.ensures.to_six_frames c.requires.few_cpus c.order_of-order.ensures.solved in
    rw c.bytes_of.ensures (count_is size c.order_of-order.result _ (omega arith) room.holds refl).some

pub returns-clause-bounds : goal.returns-clause-bounds
returns-clause-bounds c = bounds_of _ c.args.cpus _ c.requires.accepted c.requires.few_cpus (search rules)
