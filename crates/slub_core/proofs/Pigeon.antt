-- A list in which each number below a bound stands once at most is no longer than the bound.
use Rattle.std.proofs.Common.{◌≡◌, ℕ, zero, suc, ◌+◌, ◌-◌, ◌<◌, ◌≤◌, ◌==◌, List, [], ◌∷◌, length, refl, arith, inl, inr}
use Rattle.std.proofs.lemmas.Bool.{cases_eq, cases_lt, eq-eqb, ne_eqb}
use Rattle.slub_common.specs.Times.{times}
use Rattle.slub_core.specs.World.{sum_below, one_if}
use Rattle.slub_core.proofs.Lists.{times-first}

pub sum_below-add : (m : ℕ) (g h : ℕ → ℕ) → sum_below m (λ j. g j + h j) ≡ sum_below m g + sum_below m h
sum_below-add zero g h = refl
sum_below-add (suc m) g h = let r = sum_below-add m g h in omega arith

pub sum_below-none : (m : ℕ) (g : ℕ → ℕ) → ((j : ℕ) → j < m → g j ≡ 0) → sum_below m g ≡ 0
sum_below-none zero g none = refl
sum_below-none (suc m) g none = let r = sum_below-none m g (λ j below. none j (omega arith)) in let e = none m (omega arith) in omega arith

sum_below-one : (m x : ℕ) → x < m → sum_below m (λ j. one_if (x == j)) ≡ 1
sum_below-one zero x below = absurd (omega arith)
sum_below-one (suc m) x below =
    elim (cases_eq x m) [
      | inl e ↦
          let none = sum_below-none m (λ j. one_if (x == j)) (λ j under. rw (ne_eqb x j (λ h. absurd (omega arith))) refl) in
          let last : one_if (x == m) ≡ 1 = rw (eq-eqb x m e) refl in
          omega arith
      | inr d ↦
          let r = sum_below-one m x (omega arith) in
          let last : one_if (x == m) ≡ 0 = rw (ne_eqb x m d) refl in
          omega arith
    ]

pub sum_below-le : (m : ℕ) (g : ℕ → ℕ) → ((j : ℕ) → g j ≤ 1) → sum_below m g ≤ m
sum_below-le zero g small = omega arith
sum_below-le (suc m) g small = let r = sum_below-le m g small in let s = small m in omega arith

pub sum_below-room : (m : ℕ) (g : ℕ → ℕ) (i : ℕ) → i < m → ((j : ℕ) → g j ≤ 1) → g i ≡ 0 → sum_below m g < m
sum_below-room zero g i below small none = absurd (omega arith)
sum_below-room (suc m) g i below small none =
    elim (cases_eq i m) [
      | inl e ↦ let z : g m ≡ 0 = rw (← e) none in let r = sum_below-le m g small in omega arith
      | inr d ↦ let r = sum_below-room m g i (omega arith) small none in let s = small m in omega arith
    ]

-- a list of numbers below a bound, counted by number
pub length-as_sum : (m : ℕ) (xs : List ℕ) → ((j : ℕ) → m ≤ j → times j xs ≡ 0) → sum_below m (λ j. times j xs) ≡ length xs
length-as_sum m [] past = sum_below-none m (λ j. 0) (λ j below. refl)
length-as_sum m (x ∷ xs) past =
    let within : x < m = elim (cases_lt x m) [ inl l ↦ l | inr g ↦ absurd (let z = past x g in let t = times-first x x xs in let o : one_if (x == x) ≡ 1 = rw (eq-eqb x x refl) refl in omega arith) ] in
    let r = length-as_sum m xs (λ j above. let z = past j above in let t = times-first j x xs in omega arith) in
    let a = sum_below-add m (λ j. one_if (x == j)) (λ j. times j xs) in
    let o = sum_below-one m x within in
    let t = sum-first m in
    omega arith
  where
    sum-first : (n : ℕ) → sum_below n (λ j. times j (x ∷ xs)) ≡ sum_below n (λ j. one_if (x == j) + times j xs)
    sum-first zero = refl
    sum-first (suc n) = let r = sum-first n in let t = times-first n x xs in omega arith

-- as long as the bound, and each stands in it
pub full-chain : (m : ℕ) (xs : List ℕ) → length xs ≡ m → ((j : ℕ) → times j xs ≤ 1) → ((j : ℕ) → m ≤ j → times j xs ≡ 0) → (j : ℕ) → j < m → 1 ≤ times j xs
full-chain m xs long small past j below =
    let s = length-as_sum m xs past in
    elim (cases_eq (times j xs) 0) [
      | inl z ↦ absurd (let r = sum_below-room m (λ k. times k xs) j below small z in omega arith)
      | inr n ↦ omega (arith, n)
    ]

-- one shorter at least, where 0 stands in it not at all
pub length-below : (m : ℕ) (xs : List ℕ) → 1 ≤ m → ((j : ℕ) → times j xs ≤ 1) → ((j : ℕ) → m ≤ j → times j xs ≡ 0) → times 0 xs ≡ 0 → length xs ≤ m - 1
length-below m xs some small past none =
    let s = length-as_sum m xs past in
    let r = sum_below-room m (λ k. times k xs) 0 (omega arith) small none in
    omega arith
