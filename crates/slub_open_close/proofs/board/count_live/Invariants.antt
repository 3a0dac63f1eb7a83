use Rattle.std.proofs.Common.{◌≡◌, ℕ, ◌<◌, get_or, length, take, sum_by}
use Rattle.slub_lists.specs.Coherent.{held_of}
use Rattle.slub_open_close.proofs.board.count_live.Given as goal

-- the first numbers are counted
abbrev pub invariant-loop-held : goal.invariant-loop-held
invariant-loop-held l = (cache : ℕ) → cache < length l.live → get_or l.live cache 0 ≡ sum_by (held_of cache) (take l.held-index l.board)
