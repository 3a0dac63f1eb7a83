use Rattle.slub_state_text.specs.Slabs.{slab_row}
use Rattle.slub_state_text.proofs.Takes.{text_next}
use Rattle.slub_state_text.proofs.slabs.push_slabs.Goals as goal

pub loop-frame-preserved : goal.loop-frame-preserved
loop-frame-preserved c =
    text_next (slab_row c.args.lists.now c.args.cache) c.loop-frame.frame c.args.text.now.items c.loop-frame.text.items c.push_slab.new.text.items c.loop-frame.invariant c.in_ok-push_slab.ensures
