-- Names that titles of caches are turned into.
use Rattle.std.specs.Prelude.{ℕ, List, [], ◌∷◌, Option, Some, None, take, map, if◌then◌else◌}
use Rattle.slub_common.specs.Names.{is_letter_or_digit, is_name_byte}

-- a byte in front of a name: one that can't stand there is `x` (*profile*)
abbrev pub first_of : ℕ → ℕ
first_of c = if is_letter_or_digit c then c else 120

-- a byte behind it: one that can't stand there is `_` (*profile*)
abbrev pub later_of : ℕ → ℕ
later_of c = if is_name_byte c then c else 95

-- the name of a title, of at most 31 bytes: none where the title is empty (*profile*)
unfoldable pub name_of : List ℕ → Option (List ℕ)
name_of [] = None
name_of (c ∷ cs) = Some (first_of c ∷ map later_of (take 30 cs))
