-- For private clauses: a number in front of bytes.
use Rattle.std.specs.Prelude.{◌≡◌, ℕ, List, ◌++◌}
use Rattle.slub_common.specs.Numbers.{Writes}

-- a word that spells this number stands in front, and this follows it
abbrev pub IsFront : List ℕ → ℕ → List ℕ → Type 0
IsFront bytes n rest = (word : List ℕ) × (bytes ≡ word ++ rest) × Writes word n
