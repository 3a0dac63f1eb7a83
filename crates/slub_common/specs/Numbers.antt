-- How numbers are spelled.
use Rattle.std.specs.Prelude.{◌≡◌, ℕ, ◌^◌, ◌==◌, Bool, true, false, not, ◌&&◌, min, List, [], ◌∷◌, Option, Some, None, nat_le, if◌then◌else◌}
use Rattle.std.specs.List.{list_all}
use Rattle.std.specs.Str.Parse.{digits_value}

abbrev pub is_digit : ℕ → Bool
is_digit c = nat_le 48 c && nat_le c 57

-- decimal digits, with no zero (48) in front of others
abbrev pub is_number : List ℕ → Bool
is_number [] = false
is_number (c ∷ []) = is_digit c
is_number (c ∷ d ∷ cs) = not (c == 48) && list_all is_digit (c ∷ d ∷ cs)

-- the word spells this number, of any size
pub record Writes (word : List ℕ) (n : ℕ) : Type 0 where
  pub form : is_number word ≡ true
  pub value : n ≡ digits_value 10 word

-- a number as it is read: one that 64 bits don't hold is as great as the least of those
abbrev pub cut_number : ℕ → ℕ
cut_number n = min n (2 ^ 64)

-- the number that a word spells, as it is read
unfoldable pub number_of : List ℕ → Option ℕ
number_of word = if is_number word then Some (cut_number (digits_value 10 word)) else None
