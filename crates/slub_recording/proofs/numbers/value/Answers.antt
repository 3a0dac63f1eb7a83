use Rattle.std.proofs.Common.{◌+◌, ◌*◌, ◌∙◌, sym, ap, get_or}
use Rattle.std.proofs.lemmas.Int.Digits.{digits_value_more}
use Rattle.std.specs.Char.{digit_value}
use Rattle.slub_recording.proofs.Values.{too_great, value_whole}
use Rattle.slub_recording.proofs.numbers.value.Goals as goal

pub returns-in_err-n : goal.returns-in_err-n
returns-in_err-n c =
    c.from_residual.ensures ∙ sym (too_great c.args.radix c.args.word.now c.loop-c.c-index c.loop-c.n c.requires.radix c.loop-c-test.true c.loop-c.invariant.0 c.in_err-n.ensures)

pub loop-c-preserved : goal.loop-c-preserved
loop-c-preserved c = (
  c.in_ok-n.ensures.0 ∙ (ap (λ n. n * c.args.radix + digit_value (get_or c.args.word.now c.loop-c.c-index 0)) c.loop-c.invariant.0 ∙ sym (digits_value_more c.args.radix c.args.word.now c.loop-c.c-index c.loop-c-test.true)),
  c.in_ok-n.ensures.1,
)

pub returns : goal.returns
returns c = value_whole c.args.radix c.args.word.now c.loop-c.c-index c.loop-c.n c.loop-c-test.false c.loop-c.invariant.0 c.loop-c.invariant.1
