use Rattle.std.proofs.Common.{◌≡◌, ◌++◌, drop, flat_map}
use Rattle.slub_state_text.specs.Board.{board_ranges, board_row, board_rows, joined_maybe}
use Rattle.slub_state_text.proofs.board.push_board.Given as goal

abbrev pub invariant-loop-object : goal.invariant-loop-object
invariant-loop-object l =
    l.text.items ++ flat_map board_row (joined_maybe l.before (board_ranges l.object (drop l.object l.board)))
    ≡ l.fn.text.items ++ board_rows l.board
