use Rattle.std.proofs.Common.{◌≡◌, ◌-◌, ◌<◌, arith, length, drop, length-take}
use Rattle.slub_node_partial.proofs.Gaps.{closed}
use Rattle.slub_node_partial.proofs.window.Window.close_gap.Goals as goal

-- what stands behind the gap moves up
pub returns-clause-frames : goal.returns-clause-frames
returns-clause-frames c =
    let window = c.args.self.now in
    let there : c.args.place < window.end - window.start = omega (arith, length-take (window.end - window.start) (drop window.start window.slots.items), c.requires.there) in
    let long : length c.copy_within.new.self.items ≡ length window.slots.items = omega arith in
    closed window.slots.items c.copy_within.new.self.items window.start window.end c.args.place c.requires.window.forward c.requires.window.inside long there
    c.copy_within.ensures.by_index.0 c.copy_within.ensures.by_index.1
