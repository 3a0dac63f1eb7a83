-- How numbers are spelled.
use Rattle.std.specs.Prelude.{◌≤◌, ℕ, List}
use Rattle.slub_common.specs.Numbers.{Writes}

-- the bytes of a word, or of a part of one
abbrev pub Word : Type 0
Word = List ℕ

-- the text spells this number, which is from `least` to `most`
pub record IsNumber (least most : ℕ) (text : Word) (n : ℕ) : Type 0 where
  pub writes : Writes text n
  pub least_of : least ≤ n
  pub most_of : n ≤ most
