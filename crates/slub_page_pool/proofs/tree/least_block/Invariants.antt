use Rattle.std.proofs.Common.{ℕ, ◌≤◌, ◌<◌}
use Rattle.slub_page_pool.specs.Block.{IsBlock}
use Rattle.slub_page_pool.specs.Marks.{free_of}
use Rattle.slub_page_pool.proofs.tree.least_block.Given as goal

abbrev pub invariant-loop-greater : goal.invariant-loop-greater
invariant-loop-greater l = (q e : ℕ) → l.order ≤ q → q < l.greater → ¬ IsBlock (free_of l.marks) e q
