-- How lines are given to a sink.
use Rattle.std.specs.Prelude.{◌≡◌, ◌≢◌, ℕ, List, [], ◌∷◌, ◌++◌, All}
use Rattle.slub_edges.specs.Pieces.{AreOfLines}

-- a line: its line feed (10) is its last byte, and it has no other
abbrev pub IsLine : List ℕ → Type 0
IsLine line = (text : List ℕ) × (line ≡ text ++ 10 ∷ []) × All (λ c. c ≢ 10) text

-- pieces are lines, each given whole at first, and then an end of it wherever a part of it was
-- taken
abbrev pub AreWholeLines : List (List ℕ) → Type 0
AreWholeLines pieces = (lines : List (List ℕ)) × All IsLine lines × AreOfLines lines pieces
