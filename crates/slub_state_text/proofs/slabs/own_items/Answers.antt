use Rattle.std.proofs.Common.{◌≡◌, ◌∙◌, Some, [], get_or}
use Rattle.std.specs.List.{slice_get}
use Rattle.slub_state_text.proofs.Takes.{take_next}
use Rattle.slub_state_text.proofs.slabs.own_items.Goals as goal

pub loop-at-preserved : goal.loop-at-preserved
loop-at-preserved c =
    let own = get_or c.args.frees.now c.args.frame [] in
    let here : slice_get own c.loop-at.at ≡ Some c.in-Some.item = cc in
    c.in_ok-push-in-Some.ensures.items
    ∙ take_next own c.loop-at.items.items c.loop-at.at c.in-Some.item here c.loop-at.invariant
