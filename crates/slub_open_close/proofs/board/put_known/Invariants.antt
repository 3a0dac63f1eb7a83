use Rattle.std.proofs.Common.{◌≡◌, ℕ, ◌<◌, get_or, length, take, true, None}
use Rattle.std.specs.Option.{option_or}
use Rattle.slub_core.specs.Local.{nobody}
use Rattle.slub_law_opening.specs.Rests.{held_in}
use Rattle.slub_open_close.proofs.board.put_known.Given as goal

-- the first objects stand there, and whether one of them has the number 0
abbrev pub invariant-loop-place : goal.invariant-loop-place
invariant-loop-place l = record {
  put : (object : ℕ) → object < length l.board → get_or l.board object None ≡ option_or (get_or l.fn.board object None) (held_in l.local.worker (take l.place l.local.known) object);
  zero : l.was_zero ≡ true → (p : ℕ) × (p < l.place) × ((get_or l.local.known p nobody).object ≡ 0);
}
