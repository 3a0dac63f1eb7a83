-- Setting the free objects of a slab aside.
use Rattle.std.proofs.Common.{◌≡◌, ℕ, zero, suc, ◌+◌, ◌<◌, ◌≤◌, ◌&&◌, nat_lt, nat_le, true, false, replicate, List, [], ◌∷◌, length, get_or, set, map, refl, ap, arith, if◌then◌else◌, inl, inr}
use Rattle.std.specs.List.{range_with_len}
use Rattle.std.proofs.lemmas.List.{get_or-set_other}
use Rattle.std.proofs.lemmas.Bool.{cases_eq}
use Rattle.std.proofs.lemmas.Bool.Decides.{nat_tests}
use Rattle.slub_red_zone.specs.declared.slab.ObjectState.{ObjectState}
use Rattle.slub_red_zone.specs.declared.slab.ObjectState.TheVariants.{Free, Used, Aside}
use Rattle.slub_red_zone.specs.State.{is_free}
use Rattle.slub_red_zone.specs.Steps.{set_aside}
use Rattle.slub_common.specs.Times.{times}
use Rattle.slub_common.proofs.Times.{times-cons, times-range}

-- the free objects are these, each once
abbrev pub AreFree : List ObjectState → List ℕ → Type 0
AreFree states free = (j : ℕ) → times j free ≡ (if is_free (get_or states j Aside) then 1 else 0)

-- a free object is one of the slab
pub free-inside : (states : List ObjectState) (j : ℕ) → 0 < (if is_free (get_or states j Aside) then 1 else 0) → j < length states
free-inside [] j free = absurd (omega (arith, free))
free-inside (x ∷ xs) zero free = omega arith
free-inside (x ∷ xs) (suc j) free = omega (arith, free-inside xs j free)

-- the first of them is one of the slab
pub first-inside : (states : List ObjectState) (x : ℕ) (xs : List ℕ) → AreFree states (x ∷ xs) → 0 < (if is_free (get_or states x Aside) then 1 else 0)
first-inside states x xs are = let h = are x in let t = head-once x xs in omega (arith, h, t)
  where
    head-once : (x : ℕ) (xs : List ℕ) → 0 < times x (x ∷ xs)
    head-once x xs = let t = times-cons x x xs in grind (arith, nat_tests, t)

-- where none is free, none is set aside
pub none-free : (states : List ObjectState) → AreFree states [] → map set_aside states ≡ states
none-free [] none = refl
none-free (Free ∷ xs) none = absurd (let h = none 0 in omega (arith, h))
none-free (Used ∷ xs) none = ap (λ ys. Used ∷ ys) (none-free xs (λ j. none (suc j)))
none-free (Aside ∷ xs) none = ap (λ ys. Aside ∷ ys) (none-free xs (λ j. none (suc j)))

-- one that is set aside was to be
pub still-same : (states : List ObjectState) (j : ℕ) → 0 < (if is_free (get_or states j Aside) then 1 else 0) → map set_aside (set states j Aside) ≡ map set_aside states
still-same [] j free = refl
still-same (Free ∷ xs) zero free = refl
still-same (Used ∷ xs) zero free = absurd (omega (arith, free))
still-same (Aside ∷ xs) zero free = refl
still-same (x ∷ xs) (suc j) free = ap (λ ys. set_aside x ∷ ys) (still-same xs j free)

-- the rest are free when the first is free no more
pub rest-free : (states : List ObjectState) (x : ℕ) (xs : List ℕ) (state : ObjectState) → is_free state ≡ false → AreFree states (x ∷ xs) → AreFree (set states x state) xs
rest-free states x xs state busy are j =
    let t = times-cons j x xs in
    let h = are j in
    elim (cases_eq j x) [
      | inl same ↦ let a = at_busy states x j same in let e = few (get_or states j Aside) in grind (arith, nat_tests, t, h, a, e, same)
      | inr other ↦ let a = get_or-set_other states x j state Aside other in rw a (grind (arith, nat_tests, t, h, other))
    ]
  where
    at_busy : (states : List ObjectState) (x j : ℕ) → j ≡ x → is_free (get_or (set states x state) j Aside) ≡ false
    at_busy [] x j same = refl
    at_busy (y ∷ ys) zero zero same = busy
    at_busy (y ∷ ys) zero (suc j) same = absurd (omega (arith, same))
    at_busy (y ∷ ys) (suc x) zero same = absurd (omega (arith, same))
    at_busy (y ∷ ys) (suc x) (suc j) same = at_busy ys x j (omega (arith, same))

    few : (state : ObjectState) → (if is_free state then 1 else 0) ≤ 1
    few Free = omega arith
    few Used = omega arith
    few Aside = omega arith

-- an object that is set up as free stands before the others
pub more-free : (states : List ObjectState) (x : ℕ) (xs : List ℕ) → x < length states → is_free (get_or states x Aside) ≡ false → AreFree states xs → AreFree (set states x Free) (x ∷ xs)
more-free states x xs inside busy are j =
    let t = times-cons j x xs in
    let h = are j in
    elim (cases_eq j x) [
      | inl same ↦ let a = at_free states x j inside same in let b : is_free (get_or states j Aside) ≡ false = rw same busy in grind (arith, nat_tests, t, h, a, b, same)
      | inr other ↦ let a = get_or-set_other states x j Free Aside other in rw a (grind (arith, nat_tests, t, h, other))
    ]
  where
    at_free : (states : List ObjectState) (x j : ℕ) → x < length states → j ≡ x → is_free (get_or (set states x Free) j Aside) ≡ true
    at_free [] x j inside same = absurd (omega (arith, inside))
    at_free (y ∷ ys) zero zero inside same = refl
    at_free (y ∷ ys) zero (suc j) inside same = absurd (omega (arith, same))
    at_free (y ∷ ys) (suc x) zero inside same = absurd (omega (arith, same))
    at_free (y ∷ ys) (suc x) (suc j) inside same = at_free ys x j (omega (arith, inside)) (omega (arith, same))

-- where all are set aside, none is free
pub none-left : (states : List ObjectState) → AreFree (map set_aside states) []
none-left states j = none states j
  where
    none : (states : List ObjectState) (j : ℕ) → ◌≡◌ {A = ℕ} 0 (if is_free (get_or (map set_aside states) j Aside) then 1 else 0)
    none [] j = refl
    none (Free ∷ xs) zero = refl
    none (Used ∷ xs) zero = refl
    none (Aside ∷ xs) zero = refl
    none (x ∷ xs) (suc j) = none xs j

-- in a new slab all are free
pub all-free : (n : ℕ) → AreFree (replicate n Free) (range_with_len 0 n)
all-free n j =
    let t = times-range j 0 n in
    rw t (each n j)
  where
    each : (n j : ℕ) → ◌≡◌ {A = ℕ} (if nat_le 0 j && nat_lt j (0 + n) then 1 else 0) (if is_free (get_or (replicate n Free) j Aside) then 1 else 0)
    each zero j = grind (arith, nat_tests)
    each (suc n) zero = grind (arith, nat_tests)
    each (suc n) (suc j) = let h = each n j in grind (arith, nat_tests, h)
