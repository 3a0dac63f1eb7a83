use Rattle.std.proofs.Common.{◌≡◌, ◌<◌, ℕ, take, get_or, length}
use Rattle.std.specs.Prelude.{◌||◌, nat_lt, false}
use Rattle.slub_common.specs.Times.{times}
use Rattle.slub_open_close.proofs.classes.mark_all.Given as goal

-- the first frames are marked
abbrev pub invariant-loop-frame : goal.invariant-loop-frame
invariant-loop-frame l =
    (frame : ℕ) → frame < length l.fn.marks → get_or l.marks frame false ≡ get_or l.fn.marks frame false || nat_lt 0 (times frame (take l.frame-index l.frames))
