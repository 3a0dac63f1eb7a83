use Rattle.slub_rounds.proofs.Going.{known}
use Rattle.slub_rounds.proofs.heap.without_ids.Goals as goal

pub serial-requires-clause-known : goal.serial-requires-clause-known
serial-requires-clause-known c = let (trace, may) = c.requires.may_do in known c.args.lists trace c.args.round.now may
