use Rattle.std.proofs.Common.{arith}
use Rattle.slub_items.proofs.Standing.{first_few, opening_given}
use Rattle.slub_items.proofs.machine.open_ids.Goals as goal

pub first-requires : goal.first-requires
first-requires c = record { few = first_few c.args.trace.now c.requires }

pub returns : goal.returns
returns c = opening_given c.args.trace.now _ (omega arith) c.in_ok-first.ensures
