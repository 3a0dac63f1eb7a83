-- The text of a state.
use Rattle.std.specs.Prelude.{ℕ, List, ◌++◌, codes}
use Rattle.slub_lists.specs.State.{State}
use Rattle.slub_page_pool.specs.FreeFrames.{FreeFrames}
use Rattle.slub_state_text.specs.Fields.{row}
use Rattle.slub_state_text.specs.Ranges.{ranges_text}
use Rattle.slub_state_text.specs.Caches.{caches_rows}
use Rattle.slub_state_text.specs.Board.{board_rows}

-- the free frames, rising
abbrev pub pool_row : FreeFrames → List ℕ
pool_row pool = row (codes "pool") (ranges_text pool.free)

-- the pool, the caches, the oldest first, and the board. `first` is the trace's first transaction
-- id, `ids` has those of the CPU words by 16 * cache + CPU, and `live` the live names with the
-- numbers of their caches, in the order in which they were made
unfoldable pub state_text : State → ℕ → List ℕ → List (List ℕ × ℕ) → List ℕ
state_text s first ids live =
    pool_row s.pool ++ caches_rows s first ids live ++ board_rows s.board
