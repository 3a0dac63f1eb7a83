use Rattle.std.proofs.Common.{◌∙◌}
use Rattle.slub_recording.proofs.Fronts.{strip_more, strip_apart, strip_short, strip_all}
use Rattle.slub_recording.proofs.words.after.Goals as goal

pub returns-in_default-split_first : goal.returns-in_default-split_first
returns-in_default-split_first c = c.loop-t.invariant ∙ strip_short c.loop-t.ahead.now c.in-Some.more.now c.loop-t.rest.now c.in-Some.t.now c.in-Some.ensures.cases.0 c.in_default-split_first.ensures.cases

pub returns-then-b-t : goal.returns-then-b-t
returns-then-b-t c =
    c.loop-t.invariant ∙ strip_apart c.loop-t.ahead.now c.in-Some.more.now c.loop-t.rest.now c.in-Some-split_first.behind.now c.in-Some.t.now c.in-Some-split_first.b.now c.in-Some.ensures.cases.0 c.in-Some-split_first.ensures.cases.0 c.if-b-t.true

pub loop-t-preserved : goal.loop-t-preserved
loop-t-preserved c =
    c.loop-t.invariant ∙ strip_more c.loop-t.ahead.now c.in-Some.more.now c.loop-t.rest.now c.in-Some-split_first.behind.now c.in-Some.t.now c.in-Some-split_first.b.now c.in-Some.ensures.cases.0 c.in-Some-split_first.ensures.cases.0 c.if-b-t.false

pub returns : goal.returns
returns c = c.loop-t.invariant ∙ strip_all c.loop-t.ahead.now c.loop-t.rest.now c.in_default.ensures.cases
