use Rattle.std.proofs.Common.{◌≡◌, Some}
use Rattle.std.specs.List.{slice_get}
use Rattle.slub_state_text.proofs.Takes.{take_next}
use Rattle.slub_state_text.proofs.cpus.items_of.Goals as goal

pub loop-at-preserved : goal.loop-at-preserved
loop-at-preserved g c =
    let here : slice_get c.args.list.now c.loop-at.at ≡ Some c.in-Some.item = cc in
    rw c.in_ok-push-in-Some.ensures.items (take_next c.args.list.now c.loop-at.items.items c.loop-at.at c.in-Some.item here c.loop-at.invariant)
