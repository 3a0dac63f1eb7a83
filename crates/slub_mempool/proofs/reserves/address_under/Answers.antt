use Rattle.std.proofs.Common.{◌≡◌, Some, arith}
use Rattle.std.proofs.lemmas.Grind.{common_steps}
use Rattle.slub_lists.specs.Coherent.{held_under}
use Rattle.slub_mempool.proofs.Spots.{index-below}
use Rattle.slub_mempool.proofs.reserves.address_under.Goals as goal

pub address-requires-clause-index : goal.address-requires-clause-index
address-requires-clause-index c =
    let here : held_under c.args.lists.now c.args.object ≡ Some c.in-Some.held = grind (arith, common_steps) in
    let below = index-below c.args.lists.now c.args.object c.in-Some.held c.layout.result.now c.requires.coherent here (rw (← c.caches.ensures) c.layout.ensures.value) in
    omega (arith, below, c.from-in-Some.ensures)
