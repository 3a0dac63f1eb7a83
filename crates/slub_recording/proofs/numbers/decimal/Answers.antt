use Rattle.std.proofs.Common.{sym}
use Rattle.slub_recording.proofs.Values.{hex_digits}
use Rattle.slub_recording.proofs.numbers.decimal.Goals as goal

pub value-requires-clause-digits : goal.value-requires-clause-digits
value-requires-clause-digits c = hex_digits c.args.word.now (sym c.if-not-are_decimal.ensures)
