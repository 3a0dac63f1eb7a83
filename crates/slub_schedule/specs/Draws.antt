-- The numbers that a seed draws (profile).
use Rattle.std.specs.Prelude.{ℕ, ◌/◌, ◌^◌}
use Rattle.slub_words.specs.Words.{drawn}

-- the generator comes from x to this number
abbrev pub next : ℕ → ℕ
next x = drawn x

-- and the number that is drawn by it is the new one without its low 33 bits
abbrev pub number_from : ℕ → ℕ
number_from x = next x / 2 ^ 33
