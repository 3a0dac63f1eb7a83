-- Each slab was loaded, so there are as many counts as slabs.
use Rattle.std.proofs.Common.{◌≡◌, ℕ, List, length, ap, arith, ◌∙◌}
use Rattle.slub_core.specs.Setup.{node_lock}
use Rattle.slub_core.specs.World.{frames_in}
use Rattle.slub_core.specs.Alloc.{node_of}
use Rattle.slub_core.specs.Facts.{setup_of}
use Rattle.slub_core.specs.Values.{values_of}
use Rattle.slub_offline.proofs.Scans.{scanned-all}
use Rattle.slub_offline.proofs.trim.node_scanned.Goals as goal

pub returns-else-scanned-node-clause-change : goal.returns-else-scanned-node-clause-change
returns-else-scanned-node-clause-change c = λ means.
    let counts = ap (λ (xs : List ℕ). length xs) c.scanned.ensures in
    let frames = ap (λ (xs : List ℕ). length xs) (c.node.ensures ∙ ap (λ (k : ℕ). frames_in (values_of c.args.values.now (node_lock k))) c.cache.ensures) in
    let as_many : length c.args.local.now.scanned ≡ length (node_of (values_of c.args.values.now) c.args.local.now) = omega (arith, counts, frames, c.if-scanned-node.false, c.requires.1) in
    scanned-all (setup_of c.args.setup.now means) (values_of c.args.values.now) (values_of c.promote.new.values) c.args.local.now c.at-else-scanned-node.new.self c.cache-else-scanned-node.result c.scanned-else-scanned-node.result.now c.cache-else-scanned-node.ensures c.scanned-else-scanned-node.ensures as_many c.promote.ensures.after c.promote.ensures.promoted c.at-else-scanned-node.ensures
