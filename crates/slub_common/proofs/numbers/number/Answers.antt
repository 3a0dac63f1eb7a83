use Rattle.std.proofs.Common.{sym}
use Rattle.slub_common.proofs.Digits.{number_utf8, great}
use Rattle.slub_common.proofs.numbers.number.Goals as goal

pub returns-in_default : goal.returns-in_default
returns-in_default c = absurd (c.in_default.ensures.cases.0 (number_utf8 c.args.word.now (sym c.if-not-is_numeral.ensures)))

pub returns-in-Err : goal.returns-in-Err
returns-in-Err c = great c.args.word.now c.in-Ok.text.now c.in-Ok.ensures.cases.0 (sym c.if-not-is_numeral.ensures) c.in-Err.ensures.value.0
