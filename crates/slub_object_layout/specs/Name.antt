-- The text of a name.
use Rattle.std.specs.Prelude.{◌⊎◌, ◌≡◌, ℕ, ◌≤◌, List, [], ◌∷◌, length, All}

-- a letter or a digit
abbrev pub IsLetterOrDigit : ℕ → Type 0
IsLetterOrDigit c = ((65 ≤ c) × (c ≤ 90)) ⊎ ((97 ≤ c) × (c ≤ 122)) ⊎ ((48 ≤ c) × (c ≤ 57))

-- `A-Z a-z 0-9 _ . -`
abbrev pub IsNameByte : ℕ → Type 0
IsNameByte c = IsLetterOrDigit c ⊎ (c ≡ 95) ⊎ (c ≡ 46) ⊎ (c ≡ 45)

abbrev pub IsName : List ℕ → Type 0
IsName [] = ⊥
IsName (c ∷ cs) = IsLetterOrDigit c × All IsNameByte cs × (length cs ≤ 30)
