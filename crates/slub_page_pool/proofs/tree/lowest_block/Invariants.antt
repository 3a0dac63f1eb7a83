-- No run of order 10 so far has a block of the order.
use Rattle.std.proofs.Common.{ℕ, ◌<◌, ◌≡◌}
use Rattle.std.specs.Int.{bit_at}
use Rattle.slub_page_pool.specs.Orders.{orders_in}
use Rattle.slub_page_pool.proofs.tree.lowest_block.Given as goal

abbrev pub invariant-loop-top : goal.invariant-loop-top
invariant-loop-top l = (t : ℕ) → t < l.top → bit_at (orders_in l.marks 10 t) l.order ≡ 1 → ⊥
