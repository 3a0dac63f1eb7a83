use Rattle.std.proofs.Common.{◌≡◌, ◌-◌, ◌++◌, length}
use Rattle.slub_open_close.specs.Reads.{walked, chain_in, next_in}
use Rattle.slub_open_close.proofs.walks.walk_chain.Given as goal

-- what was come by, and what the walk comes by from here on, are the whole
abbrev pub invariant-loop-next : goal.invariant-loop-next
invariant-loop-next l = chain_in l.setup l.memory l.cache l.frame l.fn.head ≡ l.free ++ walked (λ head. head - 1) (next_in l.setup l.memory l.cache l.frame) (512 - length l.free) l.next

abbrev pub decreases-loop-next : goal.decreases-loop-next
decreases-loop-next l = 512 - length l.free
