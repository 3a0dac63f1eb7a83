-- Sums over lists.
use Rattle.std.proofs.Common.{◌≡◌, ℕ, zero, suc, ◌<◌, ◌≤◌, cond, Bool, true, false, List, [], ◌∷◌, length, get_or, map, sum_by, count_by, refl, ap, inl, inr, arith}
use Rattle.std.proofs.lemmas.List.Sums.{sum_by-cons, count_by-le-length, get_or-le-sum_by}
use Rattle.std.proofs.lemmas.List.{get_or_past}
use Rattle.std.proofs.lemmas.Bool.{cases_lt}

-- sums of terms that are equal are equal
pub sum_by-same : {X : Type 0} (f g : X → ℕ) (xs : List X) → ((x : X) → f x ≡ g x) → sum_by f xs ≡ sum_by g xs
sum_by-same f g [] same = refl
sum_by-same f g (x ∷ xs) same = omega (arith, sum_by-cons f x xs, sum_by-cons g x xs, sum_by-same f g xs same, same x)

pub sum_by-map : {X Y : Type 0} (f : Y → ℕ) (g : X → Y) (xs : List X) → sum_by f (map g xs) ≡ sum_by (λ x. f (g x)) xs
sum_by-map f g [] = refl
sum_by-map f g (x ∷ xs) = omega (arith, sum_by-cons f (g x) (map g xs), sum_by-cons (λ x. f (g x)) x xs, sum_by-map f g xs)

-- what an element of a list counts is within what the list counts
pub element-counted : {X : Type 0} (f : X → ℕ) (xs : List X) (i : ℕ) (d : X) → f d ≡ 0 → f (get_or xs i d) ≤ sum_by f xs
element-counted f xs i d nothing =
    elim (cases_lt i (length xs)) [
      | inl inside ↦ get_or-le-sum_by f xs i d inside
      | inr past ↦ omega (arith, ap f (get_or_past xs i d past), nothing)
    ]

-- no more than the length, where each counts one at most
pub sum_by-le-length : {X : Type 0} (f : X → ℕ) (xs : List X) → ((x : X) → f x ≤ 1) → sum_by f xs ≤ length xs
sum_by-le-length f [] most = omega arith
sum_by-le-length f (x ∷ xs) most = omega (arith, sum_by-cons f x xs, sum_by-le-length f xs most, most x)

-- fewer than the length, where one counts nothing
pub count_by-lt-length : {X : Type 0} (p : X → Bool) (xs : List X) (i : ℕ) (d : X) → i < length xs → p (get_or xs i d) ≡ false → count_by p xs < length xs
count_by-lt-length p [] i d inside fails = absurd (omega arith)
count_by-lt-length p (x ∷ xs) zero d inside fails =
    let none : ◌≡◌ {A = ℕ} (cond (p x) 1 0) 0 = ap (λ b. cond b 1 0) fails in
    omega (arith, sum_by-cons (λ y. cond (p y) 1 0) x xs, none, count_by-le-length p xs)
count_by-lt-length p (x ∷ xs) (suc i) d inside fails =
    omega (arith, sum_by-cons (λ y. cond (p y) 1 0) x xs, at_most (p x), count_by-lt-length p xs i d (omega arith) fails)
  where
    at_most : (b : Bool) → cond b 1 0 ≤ 1
    at_most true = omega arith
    at_most false = omega arith
