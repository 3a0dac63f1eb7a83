use Rattle.std.proofs.Common.{append_assoc}
use Rattle.slub_turn_text.proofs.Lanes.{digit-more}
use Rattle.slub_turn_text.proofs.columns.push_all_lanes.Goals as goal

pub loop-place-preserved : goal.loop-place-preserved
loop-place-preserved c =
    let e = digit-more c.loop-place.place in
    rw (e, ← append_assoc) (cc c.in_ok-push.ensures.items)
