-- The first place at which a worker is among some.
use Rattle.std.proofs.Common.{◌≡◌, ◌<◌, ◌+◌, ◌==◌, ◌||◌, ℕ, suc, Bool, true, false, not, cond, List, [], ◌∷◌, length, get_or, position, nat_lt, Some, None, arith, ap}
use Rattle.std.proofs.lemmas.Bool.{eqb-true, lt-ltb}
use Rattle.std.specs.List.{list_any, position_or_len}
use Rattle.std.proofs.lemmas.List.Quantifiers.{position-Some}
use Rattle.slub_picks.specs.Turns.{is_among}

place_below : (b r : Bool) (n m : ℕ) → (r ≡ true → n < m) → (b || r) ≡ true → cond (not b) (1 + n) 0 < suc m
place_below true r n m more any = omega arith
place_below false r n m more any = let h : n < m = more any in omega arith

within : (p : ℕ → Bool) (xs : List ℕ) → list_any p xs ≡ true → position_or_len p xs < length xs
within p [] any = cc
within p (x ∷ xs) any = place_below (p x) (list_any p xs) (position_or_len p xs) (length xs) (within p xs) any

-- a worker that is among them has a place
pub has_place : (worker : ℕ) (xs : List ℕ) → is_among worker xs ≡ true → position (λ (x : ℕ). x == worker) xs ≡ None → ⊥
has_place worker xs any none =
    let at : ℕ = position_or_len (λ (x : ℕ). x == worker) xs in
    let below : at < length xs = within (λ (x : ℕ). x == worker) xs any in
    let is : nat_lt at (length xs) ≡ true = lt-ltb at (length xs) below in
    let some : position (λ (x : ℕ). x == worker) xs ≡ Some at = ap (λ (b : Bool). cond b (Some at) None) is in
    cc

-- and stands there
pub is_there : (worker : ℕ) (xs : List ℕ) (i : ℕ) → position (λ (x : ℕ). x == worker) xs ≡ Some i → (i < length xs) × (get_or xs i 0 ≡ worker)
is_there worker xs i found =
    let h = position-Some (λ (x : ℕ). x == worker) xs i 0 found in
    (h.0, eqb-true (get_or xs i 0) worker h.1)
