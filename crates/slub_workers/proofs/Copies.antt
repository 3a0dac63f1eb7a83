-- Lists that are copied, one after another.
use Rattle.std.proofs.Common.{◌≡◌, ◌⊎◌, ℕ, zero, suc, ◌+◌, ◌<◌, ◌≤◌, Bool, true, false, List, [], ◌∷◌, ◌++◌, length, replicate, take, get_or, set, refl, sym, ap, ◌∙◌, subst, inl, inr, ⊎_elim, arith}
use Rattle.std.proofs.lemmas.List.{take_more, get_or-set_same, get_or-set_other}
use mathlib.Core.Option.{some}
use lib.ListN.{get_elem?}
use Rattle.slub_workers.proofs.Opening.{place_or, place_below}

-- one more
pub take_one : {A : Type 0} (xs : List A) (i : ℕ) (x : A) → get_elem? xs i ≡ some x → take (i + 1) xs ≡ take i xs ++ x ∷ []
take_one xs i x at = take_more xs i x (place_below xs i x at) ∙ ap (λ (y : _). take i xs ++ y ∷ []) (place_or xs i x x at)

pub take_each : {A : Type 0} (xs : List A) (i : ℕ) → length xs ≡ i → take i xs ≡ xs
take_each [] zero e = refl
take_each [] (suc i) e = refl
take_each (x ∷ xs) zero e = absurd (omega arith)
take_each (x ∷ xs) (suc i) e = ap (λ (t : List _). x ∷ t) (take_each xs i (omega arith))

-- flags of those that are still there
pub below_or : (k i : ℕ) → k < i + 1 → (k ≡ i) ⊎ (k < i)
below_or zero zero low = inl refl
below_or zero (suc i) low = inr (omega arith)
below_or (suc k) zero low = absurd (omega arith)
below_or (suc k) (suc i) low = ⊎_elim (λ (e : k ≡ i). inl (ap suc e)) (λ (l : k < i). inr (omega arith)) (below_or k i (omega arith))

pub taken_more : (flags now : List Bool) (i : ℕ) → now ≡ set flags i false → i < length flags → ((k : ℕ) → k < i → get_or flags k false ≡ false) → (k : ℕ) → k < i + 1 → get_or now k false ≡ false
taken_more flags now i is below taken k low =
    ap (λ (fs : List Bool). get_or fs k false) is ∙ ⊎_elim
    (λ (e : k ≡ i). subst (λ (j : ℕ). get_or (set flags i false) j false ≡ false) (sym e) (get_or-set_same flags i false false below))
    (λ (l : k < i). get_or-set_other flags i k false false (λ e. omega arith) ∙ taken k l)
    (below_or k i low)

pub there_still : (flags now : List Bool) (i : ℕ) → now ≡ set flags i false → ((k : ℕ) → i ≤ k → k < 33 → get_or flags k false ≡ true) → (k : ℕ) → i + 1 ≤ k → k < 33 → get_or now k false ≡ true
there_still flags now i is there k far low = ap (λ (fs : List Bool). get_or fs k false) is ∙ get_or-set_other flags i k false false (λ e. omega arith) ∙ there k (omega arith) low

pub replicate-snoc : {A : Type 0} (n : ℕ) (x : A) → replicate (n + 1) x ≡ replicate n x ++ x ∷ []
replicate-snoc n x = by_count n ∙ sym (replicate_more n)
  where
    by_count : (k : ℕ) → replicate (k + 1) x ≡ x ∷ replicate k x
    by_count k = let e : k + 1 ≡ suc k = omega arith in ap (λ (j : ℕ). replicate j x) e

    replicate_more : (k : ℕ) → replicate k x ++ x ∷ [] ≡ x ∷ replicate k x
    replicate_more zero = refl
    replicate_more (suc k) = ap (λ (t : List _). x ∷ t) (replicate_more k)
