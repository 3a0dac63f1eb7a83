use Rattle.slub_common.proofs.Digits.{written_decimal, decimal_written}
use Rattle.slub_common.proofs.laws.written_is_decimal.Goals as goal

pub returns : goal.returns
returns c = (
  λ is. written_decimal c.args.word.now c.args.n is c.ranges.n.fits,
  λ is. decimal_written c.args.word.now c.args.n is c.ranges.n.fits,
)
