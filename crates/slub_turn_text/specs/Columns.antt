-- The columns of a line.
use Rattle.std.specs.Prelude.{ℕ, ◌-◌, ◌==◌, if◌then◌else◌, List, [], ◌∷◌, ◌++◌, length, map, replicate, codes}
use Rattle.std.specs.List.{range_with_len}
use Rattle.slub_slabinfo_text.specs.Texts.{hex_digit, left}

-- a text in a column of this width, and the space behind it; a longer one is not cut
unfoldable pub cell : ℕ → List ℕ → List ℕ
cell width text = left width text ++ 32 ∷ []

-- ---- what each line begins with

-- a mark, with spaces before it
unfoldable pub mark_text : List ℕ → List ℕ
mark_text mark = replicate (5 - length mark) 32 ++ mark

-- a place of a lane: the worker's number there (one hexadecimal digit), a dot (46) at any other
unfoldable pub lane_mark : ℕ → ℕ → ℕ
lane_mark worker place = if place == worker then hex_digit place else 46

-- a place for each worker of the round
unfoldable pub lane : ℕ → ℕ → List ℕ
lane workers worker = map (lane_mark worker) (range_with_len 0 workers)

-- the mark and the lane: `     =  .1  `
unfoldable pub front : List ℕ → List ℕ → List ℕ
front mark lane = 32 ∷ mark_text mark ++ codes "  " ++ lane ++ codes "  "

-- ---- the head of the turns

-- a worker's number as one hexadecimal digit
unfoldable pub lane_digit : ℕ → ℕ
lane_digit worker = hex_digit worker

-- those of all workers
unfoldable pub all_lanes : ℕ → List ℕ
all_lanes workers = map lane_digit (range_with_len 0 workers)

-- the head of the columns from the event on
unfoldable pub event_head : List ℕ
event_head = cell 9 (codes "event") ++ cell 13 (codes "spot") ++ cell 22 (codes "function")

unfoldable pub step_head : List ℕ
step_head = cell 16 (codes "word") ++ cell 13 (codes "step") ++ codes "what it says"

-- `  turn  01  event     spot  ..`
abbrev pub head_line : ℕ → List ℕ
head_line workers =
    front (codes "turn") (all_lanes workers) ++ event_head ++ step_head ++ 10 ∷ []
