use Rattle.slub_recording.proofs.Splits.{last_same, last_other, last_none}
use Rattle.slub_recording.proofs.words.before_last.Goals as goal

pub returns-in_err-last : goal.returns-in_err-last
returns-in_err-last c = rw c.from_residual.ensures (last_none c.args.mark c.args.bytes.now c.in_err-last.ensures.cases)

pub returns-then-last-mark : goal.returns-then-last-mark
returns-then-last-mark c =
    last_same c.args.mark c.in_ok-last.last.now c.args.bytes.now c.in_ok-last.init.now c.in_ok-last.ensures.cases.0 c.if-last-mark.true

pub returns-else-last-mark : goal.returns-else-last-mark
returns-else-last-mark c =
    last_other c.args.mark c.in_ok-last.last.now c.args.bytes.now c.in_ok-last.init.now c.in_ok-last.ensures.cases.0 c.if-last-mark.false
