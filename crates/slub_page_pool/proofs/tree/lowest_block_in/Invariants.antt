-- The way down the tree.
use Rattle.slub_page_pool.proofs.Descents.{Descent}
use Rattle.slub_page_pool.proofs.tree.lowest_block_in.Given as goal

abbrev pub invariant-loop-level : goal.invariant-loop-level
invariant-loop-level l = Descent l.marks l.order l.level l.place

abbrev pub decreases-loop-level : goal.decreases-loop-level
decreases-loop-level l = l.level
