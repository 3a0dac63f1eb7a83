use Rattle.std.proofs.Common.{◌-◌, [], length, get_or}
use Rattle.slub_open_close.specs.Reads.{chain_in, next_in}
use Rattle.slub_open_close.proofs.OwnWalks.{IsUnderWay}
use Rattle.slub_open_close.proofs.walks.walk_own.Given as goal

abbrev pub invariant-loop-next : goal.invariant-loop-next
invariant-loop-next l = IsUnderWay (λ head. head - 1) (next_in l.setup l.memory l.cache l.frame) l.fn.frees l.frees l.frame l.next (chain_in l.setup l.memory l.cache l.frame l.fn.head)

abbrev pub decreases-loop-next : goal.decreases-loop-next
decreases-loop-next l = 512 - length (get_or l.frees l.frame [])
