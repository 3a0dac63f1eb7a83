use Rattle.std.proofs.Common.{◌-◌, length, arith, length-take, ap, drop}
use Rattle.slub_node_partial.proofs.NodeList.len.Goals as goal

-- it has no more than its room, which is a number of this type
pub overflow_cast-result : goal.overflow_cast-result
overflow_cast-result c =
    let window = c.self.inside.window in
    omega (arith, c.self.invariant, ap length c.frames.ensures, length-take (window.end - window.start) (drop window.start window.slots.items))
