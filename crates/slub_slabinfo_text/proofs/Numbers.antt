-- Sums over the numbers of caches.
use Rattle.std.proofs.Common.{◌≡◌, ℕ, suc, ◌+◌, ◌<◌, List, [], ◌∷◌, length, get_or, sum_by, refl, sym, ◌∙◌, ap, arith}
use Rattle.std.specs.List.{range_with_len}
use Rattle.std.proofs.lemmas.List.Sums.{sum_by-cons}
use Rattle.slub_slabinfo_text.specs.Lawful.{cache_numbers}

-- a sum over places is one over the elements there
pub sum_from : {A : Type 0} (g : ℕ → ℕ) (f : A → ℕ) (d : A) (a : ℕ) (xs : List A) → ((i : ℕ) → i < length xs → g (a + i) ≡ f (get_or xs i d))
    → sum_by g (range_with_len a (length xs)) ≡ sum_by f xs
sum_from g f d a [] same = refl
sum_from g f d a (x ∷ xs) same =
    let rest = sum_from g f d (a + 1) xs (λ i within. ap g (let e : a + 1 + i ≡ a + suc i = omega arith in e) ∙ same (suc i) (omega (arith, within))) in
    let opened : range_with_len a (length (x ∷ xs)) ≡ a ∷ range_with_len (a + 1) (length xs) = refl in
    let first : g a ≡ f x = ap g (let e : a ≡ a + 0 = omega arith in e) ∙ same 0 (omega arith) in
    ap (sum_by g) opened ∙ sum_by-cons g a (range_with_len (a + 1) (length xs)) ∙ rw (first, rest) (sym (sum_by-cons f x xs))

sum_places : {A : Type 0} (f : A → ℕ) (d : A) (n : ℕ) (xs : List A) → length xs ≡ n → sum_by (λ i. f (get_or xs i d)) (range_with_len 0 n) ≡ sum_by f xs
sum_places f d n xs long = rw (← long) (sum_from (λ i. f (get_or xs i d)) f d 0 xs (λ i within. ap (λ at. f (get_or xs at d)) (let e : 0 + i ≡ i = omega arith in e)))

pub sum_numbers : {A : Type 0} (f : A → ℕ) (d : A) (xs : List A) → length xs ≡ 32 → sum_by (λ i. f (get_or xs i d)) cache_numbers ≡ sum_by f xs
unfolding cache_numbers
sum_numbers f d xs long = sum_places f d 32 xs long
