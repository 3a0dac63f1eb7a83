use Rattle.slub_common.proofs.Digits.{none_spelled, small_spelled, great_spelled}
use Rattle.slub_common.proofs.numbers.small_number.Goals as goal

pub returns-in_default : goal.returns-in_default
returns-in_default c = λ n is low. none_spelled c.args.word.now n c.in_default.ensures is

pub returns-then-n-lt-GREAT : goal.returns-then-n-lt-GREAT
returns-then-n-lt-GREAT c = small_spelled c.args.word.now c.in-Some.n c.in-Some.ensures c.if-n-lt-GREAT.true

pub returns-else-n-lt-GREAT : goal.returns-else-n-lt-GREAT
returns-else-n-lt-GREAT c = λ n is low. great_spelled c.args.word.now c.in-Some.n n c.in-Some.ensures c.if-n-lt-GREAT.false is low
