use Rattle.std.proofs.Common.{◌≡◌, ℕ, ◌<◌, get_or, None}
use Rattle.slub_open_close.specs.Reads.{on_board}
use Rattle.slub_open_close.proofs.board.lay_down.Given as goal

abbrev pub invariant-loop-object : goal.invariant-loop-object
invariant-loop-object l = (k : ℕ) → k < l.object → get_or l.board k None ≡ on_board l.table.words l.base k
