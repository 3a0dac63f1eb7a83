use Rattle.std.proofs.Common.{arith}
use Rattle.slub_recorded.proofs.Notes.{of_is}
use Rattle.slub_recorded.proofs.told.push_of.Goals as goal

pub returns-clause-comment : goal.returns-clause-comment
returns-clause-comment c = of_is c.args.about.now c.args.name.now c.args.number c.as_bytes.ensures.named (omega arith)
