-- The test of a name, byte by byte.
use Rattle.std.specs.Prelude.{ℕ, ◌==◌, ◌&&◌, ◌||◌, Bool, false, List, [], ◌∷◌, length, nat_le}
use Rattle.std.specs.List.{list_all}
use Rattle.slub_common.specs.Names.{is_letter_or_digit, is_name_byte}

-- a letter or a digit, and at most 30 bytes more
abbrev pub is_name : List ℕ → Bool
is_name [] = false
is_name (c ∷ cs) = is_letter_or_digit c && list_all is_name_byte cs && nat_le (length cs) 30
