use Rattle.std.proofs.Common.{◌≡◌, sym, Some}
use Rattle.slub_lists.specs.Alloc.{named}
use Rattle.slub_engine.proofs.Orders.{named_live, order_is, order_small}
use Rattle.slub_engine.proofs.item.least_order.Goals as goal

pub layout-requires : goal.layout-requires
layout-requires c =
    let is : named c.args.lists.now c.in-Alloc.cache ≡ Some c.in_ok-number.number = rw (← c.caches.ensures) (sym c.in_ok-number.ensures.named) in
    rw c.caches-2.ensures (record { live = named_live c.args.lists.now.table _ c.in_ok-number.number c.requires.coherent.shaped.table is })

pub returns-clause-order : goal.returns-clause-order
returns-clause-order c =
    let is : named c.args.lists.now c.in-Alloc.cache ≡ Some c.in_ok-number.number = rw (← c.caches.ensures) (sym c.in_ok-number.ensures.named) in
    let live = named_live c.args.lists.now.table _ c.in_ok-number.number c.requires.coherent.shaped.table is in
    rw c.in-Alloc.is (order_is c.args.lists.now c.in-Alloc.cache c.in_ok-number.number c.layout.result.now is live (rw c.caches-2.ensures at c.layout.ensures.value))

pub returns-clause-small : goal.returns-clause-small
returns-clause-small c =
    let is : named c.args.lists.now c.in-Alloc.cache ≡ Some c.in_ok-number.number = rw (← c.caches.ensures) (sym c.in_ok-number.ensures.named) in
    let live = named_live c.args.lists.now.table _ c.in_ok-number.number c.requires.coherent.shaped.table is in
    order_small c.args.lists.now.table c.in_ok-number.number c.layout.result.now c.requires.coherent.shaped.table live (rw c.caches-2.ensures at c.layout.ensures.value)
