-- The pieces that a sink is given.
use Rattle.std.specs.Prelude.{◌≡◌, ◌==◌, ◌<◌, ◌↔◌, ℕ, List, [], ◌∷◌, ◌++◌, length, All, Option, None, Some, Result, Ok, Err, if◌then◌else◌}

-- told pieces grow by these, at the end
abbrev pub Gains : Option (List (List ℕ)) → Option (List (List ℕ)) → List (List ℕ) → Type 0
Gains None new pieces = Unit {0}
Gains (Some old) None pieces = ⊥
Gains (Some old) (Some new) pieces = new ≡ old ++ pieces

-- the piece of a call that took some of it, and none where the call failed
abbrev pub piece_of : {A E : Type 0} → Result A E → List ℕ → List (List ℕ)
piece_of (Ok n) piece = piece ∷ []
piece_of (Err e) piece = []

-- these bytes stand at the end of the text
abbrev pub IsEndOf : List ℕ → List ℕ → Type 0
IsEndOf text end = (front : List ℕ) × (text ≡ front ++ end)

-- a text is given whole first, and then an end of it wherever a part of it was taken
abbrev pub AreOf : List ℕ → List (List ℕ) → Type 0
AreOf text [] = Unit {0}
AreOf text (piece ∷ ends) = (piece ≡ text) × All (IsEndOf text) ends

-- a text that isn't empty is given, and an empty one isn't
abbrev pub IsGiven : List ℕ → List (List ℕ) → Type 0
IsGiven text pieces = AreOf text pieces × ((0 < length text) ↔ (0 < length pieces))

-- the first line is one byte longer in front
abbrev pub with_front : ℕ → List (List ℕ) → List (List ℕ)
with_front c [] = (c ∷ []) ∷ []
with_front c (line ∷ lines) = (c ∷ line) ∷ lines

-- the lines of a text, each with its line feed (10), and what stands behind the last line feed
abbrev pub lines_of : List ℕ → List (List ℕ)
lines_of [] = []
lines_of (c ∷ cs) = if c == 10 then (c ∷ []) ∷ lines_of cs else with_front c (lines_of cs)

-- each line is a piece of its own, given in turn
abbrev pub AreOfLines : List (List ℕ) → List (List ℕ) → Type 0
AreOfLines [] pieces = pieces ≡ []
AreOfLines (line ∷ lines) pieces =
    (first rest : List (List ℕ)) × (pieces ≡ first ++ rest) × IsGiven line first
    × AreOfLines lines rest

-- so are the lines up to one
abbrev pub AreOfFirstLines : List (List ℕ) → List (List ℕ) → Type 0
AreOfFirstLines lines pieces =
    (front back : List (List ℕ)) × (lines ≡ front ++ back) × AreOfLines front pieces

-- told pieces grow by some of which this holds
abbrev pub Gives : Option (List (List ℕ)) → Option (List (List ℕ)) → (List (List ℕ) → Type 0)
    → Type 0
Gives old new P = (pieces : List (List ℕ)) × Gains old new pieces × P pieces
