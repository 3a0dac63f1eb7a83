-- The lines of a text.
use Rattle.std.specs.Prelude.{ℕ, ◌==◌, List, [], ◌∷◌, if◌then◌else◌}

-- a byte in front of finished lines and a rest
abbrev pub with_byte : ℕ → List (List ℕ) → List ℕ → List (List ℕ) × List ℕ
with_byte b [] rest = ([], b ∷ rest)
with_byte b (line ∷ lines) rest = ((b ∷ line) ∷ lines, rest)

-- the lines that end with a line feed, and the bytes behind the last of them
unfoldable pub cut_lines : List ℕ → List (List ℕ) × List ℕ
cut_lines [] = ([], [])
cut_lines (b ∷ bs) =
    if b == 10 then ([] ∷ (cut_lines bs).0, (cut_lines bs).1)
    else with_byte b (cut_lines bs).0 (cut_lines bs).1
