-- The one that stands there once goes, and the others stay.
use Rattle.std.proofs.Common.{◌≡◌, ℕ, List, ap, arith, Contains}
use Rattle.slub_common.specs.Times.{times}
use Rattle.slub_common.proofs.Times.{Contains-times}
use Rattle.slub_red_zone.proofs.Comings.{taken-out}
use Rattle.slub_core.specs.World.{Node}
use Rattle.slub_free_paths.proofs.lists.remove.Goals as goal

pub returns-clause-after : goal.returns-clause-after
returns-clause-after c =
    let once : times c.args.frame c.in-Node.list.frames ≡ 1 = rw c.in-Node.is at c.requires in
    let found : Contains c.in-Node.list.frames c.args.frame = Contains-times c.args.frame c.in-Node.list.frames (omega (arith, once)) in
    let after = taken-out c.in-Node.list.frames c.args.frame c.remove-found.new.self.frames once (c.remove-found.ensures.taken (c.remove-found.ensures.there.1 found)) in
    rw c.in-Node.is (ap (λ (frames : List ℕ). Node frames) after)
