-- The slab that the scan has come to stands on the list once, so that its place is empty after.
use Rattle.std.proofs.Common.{◌∙◌, ap}
use Rattle.slub_core.specs.declared.local.Hand.{Hand}
use Rattle.slub_core.specs.declared.spot.Spot.TheVariants.{InDiscard}
use Rattle.slub_core.specs.declared.spot.DiscardSpot.TheVariants.{Unmake}
use Rattle.slub_core.specs.declared.spot.Discard.TheVariants.{FromTrim}
use Rattle.slub_core.specs.Local.{Local, at, with_hand}
use Rattle.slub_core.specs.Facts.{setup_of}
use Rattle.slub_core.specs.Values.{values_of}
use Rattle.slub_offline.proofs.Scans.{dropped}
use Rattle.slub_offline.proofs.trim.slab_dropped.Goals as goal

pub returns-clause-change : goal.returns-clause-change
returns-clause-change c = λ means.
    let hands = c.at.ensures ∙ ap (λ (l : Local). at l (InDiscard Unmake FromTrim)) (c.with_hand.ensures ∙ ap (λ (h : Hand). with_hand c.args.local.now h) c.bare_hand.ensures) in
    dropped (setup_of c.args.setup.now means) (values_of c.args.values.now) (values_of c.take_off.new.values) c.args.local.now c.at.new.self c.cache.result c.scanned_slab-frame.result c.cache.ensures c.scanned_slab-frame.ensures c.requires.0 c.requires.1 c.take_off.ensures.after hands
