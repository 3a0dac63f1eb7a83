-- The rows of the board.
use Rattle.std.specs.Prelude.{ℕ, ◌+◌, ◌==◌, ◌&&◌, if◌then◌else◌, Bool, List, [], ◌∷◌, ◌++◌, flat_map, codes, Option, Some, None}
use Rattle.std.specs.Fmt.{decimal}
use Rattle.slub_lists.specs.declared.lists.Held.{Held}
use Rattle.slub_state_text.specs.declared.board.BoardRange.{BoardRange}
use Rattle.slub_state_text.specs.Fields.{row}
use Rattle.slub_state_text.specs.Ranges.{range_text}

-- ---- ranges

-- a range of one number, which names this object
abbrev pub one_held : ℕ → Held → BoardRange
one_held object held = record {
  first = object;
  last = object;
  frame = held.frame;
  index = held.index;
  last_index = held.index;
}

-- numbers and indexes rise on from a range
abbrev pub goes_on : BoardRange → BoardRange → Bool
goes_on range next =
    (next.first == range.last + 1) && (next.frame == range.frame)
    && (next.index == range.last_index + 1)

abbrev pub taken_in : BoardRange → BoardRange → BoardRange
taken_in range next = record range { last = next.last; last_index = next.last_index }

-- a range before ranges: it takes in the first of them where that goes on from it
abbrev pub joined : BoardRange → List BoardRange → List BoardRange
joined range [] = range ∷ []
joined range (next ∷ ranges) =
    if goes_on range next then taken_in range next ∷ ranges else range ∷ next ∷ ranges

-- the same of a range that may be there
abbrev pub joined_maybe : Option BoardRange → List BoardRange → List BoardRange
joined_maybe None ranges = ranges
joined_maybe (Some range) ranges = joined range ranges

-- what a number names, before the ranges of the numbers behind it
abbrev pub named_before : ℕ → Option Held → List BoardRange → List BoardRange
named_before object None ranges = ranges
named_before object (Some held) ranges = joined (one_held object held) ranges

-- the ranges of a board whose first number is this one, each as long as it can be
abbrev pub board_ranges : ℕ → List (Option Held) → List BoardRange
board_ranges object [] = []
board_ranges object (named ∷ board) =
    named_before object named (board_ranges (object + 1) board)

-- ---- texts

-- `F.I..J`, after a space
abbrev pub objects_text : BoardRange → List ℕ
objects_text range = 32 ∷ decimal range.frame ++ 46 ∷ range_text range.index range.last_index

-- `board O..P`, and the objects
abbrev pub board_row : BoardRange → List ℕ
board_row range = row (codes "board " ++ range_text range.first range.last) (objects_text range)

-- the rows of the board, by object number
abbrev pub board_rows : List (Option Held) → List ℕ
board_rows board = flat_map board_row (board_ranges 0 board)
