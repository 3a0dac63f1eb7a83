use Rattle.std.proofs.Common.{arith}
use Rattle.slub_turn_text.proofs.Named.{shares-named, shares-length}
use Rattle.slub_turn_text.proofs.labels.Labels.open.Goals as goal

pub invariant_of-result : goal.invariant_of-result
invariant_of-result c =
    simp (c.in_ok-shares_of.ensures, c.in_ok-copy_of.ensures)
    (shares-named c.args.names.now c.args.events.now c.args.workers c.requires.named, omega (arith, shares-length c.args.events.now c.args.workers, c.requires.few))
