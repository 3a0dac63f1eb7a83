use Rattle.std.proofs.Common.{arith}
use Rattle.slub_recorded.proofs.Notes.{count_is}
use Rattle.slub_recorded.proofs.told.push_count.Goals as goal

pub returns-clause-comment : goal.returns-clause-comment
returns-clause-comment c = count_is c.args.word.now c.args.number (omega arith)
