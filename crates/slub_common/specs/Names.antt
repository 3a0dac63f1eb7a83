-- The bytes of a name, tested.
use Rattle.std.specs.Prelude.{ℕ, ◌==◌, ◌&&◌, ◌||◌, Bool, nat_le}
use Rattle.slub_common.specs.Numbers.{is_digit}

-- a letter or a digit
abbrev pub is_letter_or_digit : ℕ → Bool
is_letter_or_digit c = (nat_le 65 c && nat_le c 90) || (nat_le 97 c && nat_le c 122) || is_digit c

-- `A-Z a-z 0-9 _ . -`
abbrev pub is_name_byte : ℕ → Bool
is_name_byte c = is_letter_or_digit c || c == 95 || c == 46 || c == 45
