use Rattle.std.proofs.Common.{◌≡◌, ℕ, ◌<◌, get_or, length, take, All, None}
use Rattle.std.specs.Option.{option_or}
use Rattle.slub_core.specs.Accounted.{AreDistinct}
use Rattle.slub_core.specs.Local.{Local}
use Rattle.slub_core.specs.declared.local.Known.{Known}
use Rattle.slub_law_opening.specs.Rests.{held_among}
use Rattle.slub_open_close.specs.Reads.{on_board}
use Rattle.slub_open_close.proofs.board.close_board.Given as goal

-- what the first workers hold stands beside what is on the board
abbrev pub invariant-loop-local : goal.invariant-loop-local
invariant-loop-local l =
    All (λ (x : Local). AreDistinct x.known × All (λ (k : Known). k.object < length l.fn.board) x.known) l.locals
    → (object : ℕ) → object < length l.fn.board → get_or l.board object None ≡ option_or (on_board l.table.words l.base object) (held_among (take l.local-index l.locals) object)
