-- How often a number stands in a list.
use Rattle.std.proofs.Common.{ℕ, zero, suc, ◌+◌, ◌<◌, ◌≤◌, ◌≡◌, ◌&&◌, inl, inr, Bool, true, false, cond, eqb, nat_lt, nat_le, if◌then◌else◌, List, [], ◌∷◌, ◌++◌, length, get_or, take, drop, reverse, refl, sym, ◌∙◌, ap, subst, arith, Contains}
use Rattle.std.specs.List.{filter, range_with_len}
use Rattle.std.specs.List.Sorted.{IsStrictlyIncreasing}
use Rattle.std.proofs.lemmas.Bool.{cases_Bool, cases_eq, eq-eqb, ne_eqb, false≢true}
use Rattle.std.proofs.lemmas.Bool.Decides.{nat_tests}
use Rattle.std.proofs.lemmas.List.Sums.{sum_by-cons, sum_by-append, sum_by_push, sum_by-take-drop, count_by-le-length, get_or-le-sum_by}
use Rattle.std.proofs.lemmas.List.Sorted.{sum_by-IsPermutation, IsPermutation-reverse}
use Rattle.slub_common.specs.Times.{times}
use Rattle.slub_common.proofs.Lists.{from_filter, Contains-head, Contains-tail, Contains-nil, Contains-cons_cases, rising_head, rising_tail, Contains-range_with_len, from_range_with_len, IsStrictlyIncreasing-range_with_len}

-- one more element
pub times-cons : (g x : ℕ) (xs : List ℕ) → times g (x ∷ xs) ≡ cond (eqb x g) 1 0 + times g xs
times-cons g x xs = sum_by-cons (λ f. cond (eqb f g) 1 0) x xs

-- one more element that is the number
pub times-cons_same : (g x : ℕ) (xs : List ℕ) → x ≡ g → times g (x ∷ xs) ≡ 1 + times g xs
times-cons_same g x xs same = times-cons g x xs ∙ rw (eq-eqb x g same) refl

-- one more element that isn't
pub times-cons_other : (g x : ℕ) (xs : List ℕ) → (x ≡ g → ⊥) → times g (x ∷ xs) ≡ times g xs
times-cons_other g x xs other = times-cons g x xs ∙ rw (ne_eqb x g other) (omega arith)

-- two lists, one after the other
pub times-append : (g : ℕ) (xs ys : List ℕ) → times g (xs ++ ys) ≡ times g xs + times g ys
times-append g xs ys = sum_by-append (λ f. cond (eqb f g) 1 0) xs ys

-- a number that passes the test stands in the filtered list as often
pub times-filter_pass : (g : ℕ) (p : ℕ → Bool) (xs : List ℕ) → p g ≡ true → times g (filter p xs) ≡ times g xs
times-filter_pass g p [] pass = refl
times-filter_pass g p (x ∷ xs) pass =
    elim (cases_Bool (p x)) [
      | inl keeps ↦ rw keeps (times-cons g x (filter p xs) ∙ ap (λ n. cond (eqb x g) 1 0 + n) (times-filter_pass g p xs pass) ∙ sym (times-cons g x xs))
      | inr drops ↦
          let other : x ≡ g → ⊥ = λ same. false≢true (sym drops ∙ ap p same ∙ pass) in
          rw drops (times-filter_pass g p xs pass ∙ sym (times-cons_other g x xs other))
    ]

-- a number that is not in a list stands there zero times
pub times-absent : (g : ℕ) (xs : List ℕ) → (Contains xs g → ⊥) → times g xs ≡ 0
times-absent g [] absent = refl
times-absent g (x ∷ xs) absent =
    times-cons_other g x xs (λ same. absent (subst (λ y. Contains (x ∷ xs) y) same (Contains-head x xs))) ∙ times-absent g xs (λ found. absent (Contains-tail x xs g found))

-- a number that does not pass the test does not stand in the filtered list
pub times-filter_fail : (g : ℕ) (p : ℕ → Bool) (xs : List ℕ) → p g ≡ false → times g (filter p xs) ≡ 0
times-filter_fail g p xs fail = times-absent g (filter p xs) (λ found. false≢true (sym fail ∙ (from_filter p xs g found).1))

-- a number in a rising list stands there once
pub times-rising : (g : ℕ) (xs : List ℕ) → IsStrictlyIncreasing xs → Contains xs g → times g xs ≡ 1
times-rising g [] rising found = absurd (Contains-nil g found)
times-rising g (x ∷ xs) rising found =
    elim (Contains-cons_cases x xs g found) [
      | inl here ↦ times-cons_same g x xs here ∙ ap (λ n. 1 + n) (times-absent g xs (λ later. let up : x < g = rising_head x xs rising g later in omega arith))
      | inr there ↦
          let up : x < g = rising_head x xs rising g there in
          times-cons_other g x xs (λ same. omega arith) ∙ times-rising g xs (rising_tail x xs rising) there
    ]

-- a number that stands in a list is in it
pub Contains-times : (g : ℕ) (xs : List ℕ) → 0 < times g xs → Contains xs g
Contains-times g [] some = absurd (omega arith)
Contains-times g (x ∷ xs) some =
    elim (cases_eq x g) [
      | inl same ↦ subst (λ y. Contains (x ∷ xs) y) same (Contains-head x xs)
      | inr other ↦ Contains-tail x xs g (Contains-times g xs (omega (arith, times-cons_other g x xs other)))
    ]

-- a number in the bounds of a range stands there once
pub times-within : (a n g : ℕ) → a ≤ g → g < a + n → times g (range_with_len a n) ≡ 1
times-within a n g low high = times-rising g (range_with_len a n) (IsStrictlyIncreasing-range_with_len a n) (Contains-range_with_len a n g low high)

-- another number doesn't
pub times-below : (a n g : ℕ) → g < a → times g (range_with_len a n) ≡ 0
times-below a n g before = times-absent g (range_with_len a n) (λ found. omega (arith, (from_range_with_len a n g found).0))

pub times-above : (a n g : ℕ) → a + n ≤ g → times g (range_with_len a n) ≡ 0
times-above a n g after = times-absent g (range_with_len a n) (λ found. omega (arith, (from_range_with_len a n g found).1))

-- one more at the end
pub times-push : (x y : ℕ) (xs : List ℕ) → times x (xs ++ y ∷ []) ≡ times x xs + cond (eqb y x) 1 0
times-push x y xs = sum_by_push (λ y. cond (eqb y x) 1 0) xs y

-- what is taken off and what is left
pub times-take-drop : (x n : ℕ) (xs : List ℕ) → times x (take n xs) + times x (drop n xs) ≡ times x xs
times-take-drop x n xs = sum_by-take-drop (λ y. cond (eqb y x) 1 0) xs n

pub times-reverse : (x : ℕ) (xs : List ℕ) → times x (reverse xs) ≡ times x xs
times-reverse x xs = sum_by-IsPermutation (λ y. cond (eqb y x) 1 0) xs (reverse xs) (IsPermutation-reverse xs)

-- a number stands at most as often in a list as the list is long
pub times-le : (x : ℕ) (xs : List ℕ) → times x xs ≤ length xs
times-le x xs = count_by-le-length (λ y. eqb y x) xs

-- a run of numbers has each once
pub times-range : (x a n : ℕ) → times x (range_with_len a n) ≡ (if nat_le a x && nat_lt x (a + n) then 1 else 0)
times-range x a zero = grind (arith, nat_tests)
times-range x a (suc n) =
    let e = times-cons x a (range_with_len (a + 1) n) in
    let h = times-range x (a + 1) n in
    grind (arith, nat_tests, e, h)

-- what a list has stands in it
pub times-contained : (x : ℕ) (xs : List ℕ) → Contains xs x → 0 < times x xs
times-contained x xs found =
    let at : cond (eqb (get_or xs found.0 x) x) 1 0 ≤ times x xs = get_or-le-sum_by (λ y. cond (eqb y x) 1 0) xs found.0 x found.1 in
    let same : get_or xs found.0 x ≡ x = found.2 in
    grind (arith, nat_tests, at, same)
