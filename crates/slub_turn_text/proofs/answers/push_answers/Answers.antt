use Rattle.std.proofs.Common.{append_assoc}
use Rattle.slub_turn_text.proofs.Lanes.{quiet-more}
use Rattle.slub_turn_text.proofs.answers.push_answers.Goals as goal

pub loop-more-preserved : goal.loop-more-preserved
loop-more-preserved c =
    let e = quiet-more c.args.labels.now c.args.local.now c.args.from c.loop-more.more in
    rw (e, ← append_assoc) (cc c.in_ok-push_quiet_at.ensures)
