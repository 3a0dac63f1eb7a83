use Rattle.std.proofs.Common.{is_none, arith}
use Rattle.std.proofs.lemmas.Grind.{common_steps}
use Rattle.slub_lists.specs.Coherent.{held_under}
use Rattle.slub_bulk.proofs.Bulking.{first_passes}
use Rattle.slub_bulk.proofs.serve.first_unheld.Goals as goal

pub returns-then-is_none : goal.returns-then-is_none
returns-then-is_none c =
    first_passes (λ number. is_none (held_under c.args.heap.now.lists number)) c.args.numbers.now c.loop-number.number-index (omega arith) c.loop-number.invariant (grind (arith, common_steps))
