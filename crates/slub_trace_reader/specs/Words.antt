-- The words of a line: offsets, flags and bytes.
use Rattle.std.specs.Prelude.{◌≡◌, ℕ, ◌+◌, ◌-◌, ◌*◌, ◌==◌, Bool, true, false, not, ◌&&◌, ◌||◌, List, [], ◌∷◌, length, codes, nat_eq, nat_le, if◌then◌else◌}
use Rattle.std.specs.List.{list_any, list_all}
use Rattle.std.specs.Cmp.Lexicographic.{pointwise}
use Rattle.slub_common.specs.Numbers.{Writes, is_digit}
use Rattle.slub_object_layout.specs.declared.layout.Flags.{Flags}

-- ---- offsets

-- a number with a sign or none: `-0` is 0
abbrev pub WritesOffset : List ℕ → Bool → ℕ → Type 0
WritesOffset word true n = (digits : List ℕ) × (word ≡ 45 ∷ digits) × Writes digits n
WritesOffset word false n = Writes word n

-- ---- flags

abbrev pub stands_in : ℕ → List ℕ → Bool
stands_in c word = list_any (nat_eq c) word

-- H, R, F, Z, P, U, T or A
abbrev pub is_letter : ℕ → Bool
is_letter c = stands_in c (codes "HRFZPUTA")

-- no byte stands twice
abbrev pub are_distinct : List ℕ → Bool
are_distinct [] = true
are_distinct (c ∷ cs) = not (stands_in c cs) && are_distinct cs

-- `-`, or some of the letters, in any order and none twice
abbrev pub are_flags : List ℕ → Bool
are_flags word =
    pointwise nat_eq word (codes "-")
    || (not (length word == 0) && list_all is_letter word && are_distinct word)

-- the flags whose letters stand in the word
abbrev pub flags_in : List ℕ → Flags
flags_in word = record {
  line = stands_in 72 word;
  reclaim = stands_in 82 word;
  checks = stands_in 70 word;
  zones = stands_in 90 word;
  poison = stands_in 80 word;
  user = stands_in 85 word;
  trace = stands_in 84 word;
  fail = stands_in 65 word;
}

-- the word writes these flags
pub record WritesFlags (word : List ℕ) (flags : Flags) : Type 0 where
  pub form : are_flags word ≡ true
  pub value : flags ≡ flags_in word

-- ---- bytes

-- a digit, or a letter from a to f
abbrev pub is_hex : ℕ → Bool
is_hex c = is_digit c || (nat_le 97 c && nat_le c 102)

abbrev pub hex_value : ℕ → ℕ
hex_value c = if nat_le c 57 then c - 48 else c - 87

-- two lower-case hexadecimal digits
pub record WritesByte (word : List ℕ) (byte : ℕ) : Type 0 where
  pub high : ℕ
  pub low : ℕ
  pub is : word ≡ high ∷ low ∷ []
  pub form : (is_hex high ≡ true) × (is_hex low ≡ true)
  pub value : byte ≡ 16 * hex_value high + hex_value low
