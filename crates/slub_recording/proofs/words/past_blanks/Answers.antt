use Rattle.std.proofs.Common.{◌∙◌, sym, arith}
use Rattle.slub_recording.proofs.Splits.{words_blank}
use Rattle.slub_recording.proofs.words.past_blanks.Goals as goal

pub loop-c-preserved : goal.loop-c-preserved
loop-c-preserved c = (
  sym (words_blank c.loop-c.rest.now c.in-Some.behind.now c.in-Some.c.now c.in-Some.ensures.cases.0 (sym c.if-not-is_blank_byte.ensures)) ∙ c.loop-c.invariant.0,
  omega (arith, c.in-Some.ensures.cases.1, c.loop-c.invariant.1),
)
