-- How a pool keeps its frames: a mark for each.
use Rattle.std.specs.Prelude.{ℕ, ◌≤◌, ◌≡◌, Bool, false, List, length, filter, slice_index_or}
use Rattle.std.specs.List.{range_with_len}

-- the marked frames, in rising order
abbrev pub free_of : List Bool → List ℕ
free_of marks = filter (λ f. slice_index_or marks f false) (range_with_len 0 (length marks))

-- 2 to 4096 frames, frame 0 not marked, and eleven counts
pub record AreMarks (marks : List Bool) (dry : List ℕ) : Type 0 where
  pub least : 2 ≤ length marks
  pub most : length marks ≤ 4096
  pub frame_zero : slice_index_or marks 0 false ≡ false
  pub orders : length dry ≡ 11
