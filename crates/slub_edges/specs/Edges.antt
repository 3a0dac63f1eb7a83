-- What a count of faults and a told list of bytes say of a call.
use Rattle.std.specs.Prelude.{◌⊎◌, ◌<◌, ◌≡◌, ◌↔◌, ℕ, ◌+◌, ◌-◌, ◌^◌, ◌≤◌, min, List, [], length, ◌++◌, Option, Result, Ok, Err, IfSome, IfOk}
use Rattle.std.specs.Io.KnownBytes.{Appends}

-- a count that stays at its greatest value rose: it is greater than before, or at that value
abbrev pub Rose : ℕ → ℕ → Type 0
Rose old new = (old < new) ⊎ (new ≡ 2 ^ 64 - 1)

-- a count of faults after a call: one more where the call failed, and at most 2 ^ 64 - 1
abbrev pub faults_after : {A E : Type 0} → Result A E → ℕ → ℕ
faults_after (Ok x) faults = faults
faults_after (Err e) faults = min (faults + 1) (2 ^ 64 - 1)

-- known bytes grow by a front of bs that isn't the whole, of at least so many bytes
abbrev pub AppendsFront : Option (List ℕ) → Option (List ℕ) → ℕ → List ℕ → Type 0
AppendsFront old new least bs =
    (front rest : List ℕ) × (bs ≡ front ++ rest) × (least ≤ length front) × (0 < length rest)
    × Appends old new front

-- of known bytes a read gives none exactly where none is left
abbrev pub EndsExactly : {E : Type 0} → Option (List ℕ) → Result ℕ E → Type 0
EndsExactly told r = IfSome told (λ xs. IfOk r (λ n. (n ≡ 0) ↔ (xs ≡ [])))
