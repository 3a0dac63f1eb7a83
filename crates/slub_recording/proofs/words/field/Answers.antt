use Rattle.std.proofs.Common.{◌∙◌}
use Rattle.slub_recording.specs.Words.{words}
use Rattle.slub_recording.proofs.Splits.{field_here, field_on, field_none}
use Rattle.slub_recording.proofs.words.field.Goals as goal

pub returns-in-Some-value : goal.returns-in-Some-value
returns-in-Some-value c =
    c.loop-word.invariant ∙ field_here c.args.key.now c.in-Some-value.found.now (words c.loop-word.rest.now) (words c.in-Some.behind.now) c.in-Some.word.now c.in-Some.ensures.found c.in-Some-value.ensures

pub loop-word-preserved : goal.loop-word-preserved
loop-word-preserved c =
    c.loop-word.invariant ∙ field_on c.args.key.now (words c.loop-word.rest.now) (words c.in-Some.behind.now) c.in-Some.word.now c.in-Some.ensures.found c.in_default-value.ensures

pub returns : goal.returns
returns c = c.loop-word.invariant ∙ field_none c.args.key.now (words c.loop-word.rest.now) c.in_default.ensures.none
