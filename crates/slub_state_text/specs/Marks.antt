-- Marks of frames, for proofs and private clauses.
use Rattle.std.specs.Prelude.{◌≡◌, ℕ, ◌<◌, nat_lt, Bool, false, List, length, slice_index_or}
use Rattle.slub_common.specs.Times.{times}

-- by frame, whether it stands in a list
abbrev pub AreMarks : List ℕ → List Bool → Type 0
AreMarks frames marks =
    (frame : ℕ) → frame < length marks
    → slice_index_or marks frame false ≡ nat_lt 0 (times frame frames)
