-- The rows below are right, and of this row the runs before the place.
use Rattle.std.proofs.Common.{◌+◌}
use Rattle.slub_page_pool.proofs.Refreshes.{Refreshed}
use Rattle.slub_page_pool.proofs.tree.refresh.Given as goal

abbrev pub invariant-loop-order : goal.invariant-loop-order
invariant-loop-order l = Refreshed l.marks l.orders l.first l.last (l.order + 1) 0

abbrev pub invariant-loop-place : goal.invariant-loop-place
invariant-loop-place l = Refreshed l.marks l.orders l.first l.last (l.order + 1) l.place
