use Rattle.std.proofs.Common.{◌≡◌, ◌++◌, List, ℕ, append_assoc, ◌∙◌}
use Rattle.slub_state_text.specs.State.{pool_row, state_text}
use Rattle.slub_state_text.specs.Board.{board_rows}
use Rattle.slub_state_text.specs.Caches.{caches_rows}
use Rattle.slub_state_text.proofs.state.push_state.Goals as goal

three : (old pool caches board : List ℕ) → ((old ++ pool) ++ caches) ++ board ≡ old ++ (pool ++ caches ++ board)
three old pool caches board = simp append_assoc

pub returns : goal.returns
unfolding state_text
returns c =
    let s = c.args.lists.now in
    c.in_ok-push_board.ensures
    ∙ rw (c.in_ok-push_caches.ensures, c.in_ok-push_pool.ensures, c.board.ensures) (three c.args.text.now.items (pool_row s.pool) (caches_rows s c.args.first c.args.ids.now c.args.live.now) (board_rows s.board))
