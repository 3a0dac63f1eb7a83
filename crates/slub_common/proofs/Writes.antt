-- What holds of the elements of a list after one of them is written.
use Rattle.std.proofs.Common.{◌≡◌, ◌≢◌, ℕ, zero, suc, ◌<◌, List, [], ◌∷◌, length, get_or, set, Option, None, Some, replicate, refl, ap, sym, ◌∙◌, inl, inr, arith}
use Rattle.std.proofs.lemmas.List.{get_or_past}
use Rattle.std.proofs.lemmas.Bool.{cases_lt}

-- what holds of the new element and of the old ones holds of each
pub at_written : {A : Type 0} (P : A → Type 0) (xs : List A) (i j : ℕ) (v d : A) → (j ≡ i → P v) → P (get_or xs j d) → P (get_or (set xs i v) j d)
at_written P [] i j v d new old = old
at_written P (x ∷ xs) zero zero v d new old = new refl
at_written P (x ∷ xs) zero (suc j) v d new old = old
at_written P (x ∷ xs) (suc i) zero v d new old = old
at_written P (x ∷ xs) (suc i) (suc j) v d new old = at_written P xs i j v d (λ e. new (ap suc e)) old

-- the same, where the old element at the place that is written needs nothing
pub at_written_else : {A : Type 0} (P : A → Type 0) (xs : List A) (i j : ℕ) (v d : A) → i < length xs → (j ≡ i → P v) → (j ≢ i → P (get_or xs j d)) → P (get_or (set xs i v) j d)
at_written_else P [] i j v d inside new old = absurd (omega arith)
at_written_else P (x ∷ xs) zero zero v d inside new old = new refl
at_written_else P (x ∷ xs) zero (suc j) v d inside new old = old (λ e. omega arith)
at_written_else P (x ∷ xs) (suc i) zero v d inside new old = old (λ e. omega arith)
at_written_else P (x ∷ xs) (suc i) (suc j) v d inside new old =
    at_written_else P xs i j v d (omega arith) (λ e. new (ap suc e)) (λ ne. old (λ e. ne (omega arith)))

-- an element that is there is within the list
pub inside-of : {A : Type 0} (xs : List (Option A)) (i : ℕ) (v : A) → get_or xs i None ≡ Some v → i < length xs
inside-of xs i v is =
    elim (cases_lt i (length xs)) [
      | inl inside ↦ inside
      | inr past ↦ let none = sym is ∙ get_or_past xs i None past in absurd cc
    ]

-- each element of a list of one thing is that thing, and so is the one past its end
pub get_or-replicate_any : {A : Type 0} (n i : ℕ) (x : A) → get_or (replicate n x) i x ≡ x
get_or-replicate_any zero i x = refl
get_or-replicate_any (suc n) zero x = refl
get_or-replicate_any (suc n) (suc i) x = get_or-replicate_any n i x
