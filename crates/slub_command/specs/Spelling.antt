-- How numbers and flags are spelled.
use Rattle.std.specs.Prelude.{◌≡◌, ◌≤◌, ℕ, ◌==◌, Bool, true, not, ◌&&◌, ◌||◌, List, length, codes, nat_le, count_by, slice_index}
use Rattle.std.specs.List.{list_any, list_all}
use Rattle.std.specs.Str.{bytes_eq}
use Rattle.slub_common.specs.Numbers.{Writes}
use Rattle.slub_object_layout.specs.declared.layout.Flags.{Flags}

-- the bytes of a word
abbrev pub Word : Type 0
Word = List ℕ

-- ---- numbers

-- the word spells this number, which is from `least` to `most`
pub record IsNumber (least most : ℕ) (word : Word) (n : ℕ) : Type 0 where
  pub writes : Writes word n
  pub least_of : least ≤ n
  pub most_of : n ≤ most

-- ---- flags

-- the byte stands in the word
abbrev pub stands_in : ℕ → Word → Bool
stands_in c word = list_any (λ b. b == c) word

-- H, R, F, Z, P, U, T or A
abbrev pub is_letter : ℕ → Bool
is_letter c =
    c == 72 || (c == 82 || (c == 70 || (c == 90 || (c == 80 || (c == 85 || (c == 84 || c == 65))))))

-- the byte stands in the word once
abbrev pub stands_once : Word → ℕ → Bool
stands_once word c = count_by (λ b. b == c) word == 1

-- some of the letters, in any order and none twice
abbrev pub are_letters : Word → Bool
are_letters word =
    not (length word == 0) && (list_all is_letter word && list_all (stands_once word) word)

-- `-`, or letters
abbrev pub is_flag_word : Word → Bool
is_flag_word word = bytes_eq word (codes "-") || are_letters word

-- a flag is set where its letter stands in the word
pub record IsFlags (word : Word) (flags : Flags) : Type 0 where
  pub form : is_flag_word word ≡ true
  pub line : flags.line ≡ stands_in 72 word
  pub reclaim : flags.reclaim ≡ stands_in 82 word
  pub checks : flags.checks ≡ stands_in 70 word
  pub zones : flags.zones ≡ stands_in 90 word
  pub poison : flags.poison ≡ stands_in 80 word
  pub user : flags.user ≡ stands_in 85 word
  pub trace : flags.trace ≡ stands_in 84 word
  pub fail : flags.fail ≡ stands_in 65 word
