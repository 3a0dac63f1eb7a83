-- How long a list can be in which no number stands twice.
use Rattle.std.proofs.Common.{◌≡◌, ℕ, zero, suc, ◌+◌, ◌<◌, ◌≤◌, List, [], ◌∷◌, length, filter, refl, ap, ◌∙◌, inl, inr, arith, eqb, nat_lt, if◌then◌else◌}
use Rattle.std.specs.Prelude.{not}
use Rattle.std.proofs.lemmas.Bool.{cases_eq, cases_lt}
use Rattle.std.proofs.lemmas.Bool.Decides.{nat_tests}
use Rattle.std.proofs.lemmas.List.Sums.{length-filter}
use Rattle.std.proofs.lemmas.List.Filters.{length-filter_both}
use Rattle.slub_common.specs.Times.{times}
use Rattle.slub_lists.proofs.Times.{current-same, current-other}
use Rattle.slub_common.proofs.Times.{times-cons, times-filter_pass, times-filter_fail}

-- each number of the list is below a bound, and none stands there twice
abbrev pub IsOnce : ℕ → List ℕ → Type 0
IsOnce n xs = (x : ℕ) → times x xs ≤ (if nat_lt x n then 1 else 0)

-- without one number
once-without : (n : ℕ) (xs : List ℕ) → IsOnce (suc n) xs → IsOnce n (filter (λ x. not (eqb x n)) xs)
once-without n xs once x =
    elim (cases_eq x n) [
      | inl same ↦
          let gone = times-filter_fail x (λ y. not (eqb y n)) xs (grind (arith, nat_tests, same)) in
          omega (arith, gone)
      | inr other ↦
          let kept = times-filter_pass x (λ y. not (eqb y n)) xs (grind (arith, nat_tests, other)) in
          let most = once x in
          grind (arith, nat_tests, other, kept, most)
    ]

-- it has at most so many
pub once-length : (n : ℕ) (xs : List ℕ) → IsOnce n xs → length xs ≤ n
once-length zero [] once = omega arith
once-length zero (x ∷ xs) once =
    let most = once x in
    let some : 0 < times x (x ∷ xs) = omega (arith, times-cons x x xs, current-same x x 1 refl) in
    absurd (grind (arith, nat_tests, most, some))
once-length (suc n) xs once =
    let both : length (filter (λ x. eqb x n) xs) + length (filter (λ x. not (eqb x n)) xs) ≡ length xs = length-filter_both (λ x. eqb x n) (λ x. not (eqb x n)) (λ x. refl) xs in
    let here : length (filter (λ x. eqb x n) xs) ≡ times n xs = length-filter (λ x. eqb x n) xs in
    let fewer = once-length n (filter (λ x. not (eqb x n)) xs) (once-without n xs once) in
    let most = once n in
    let one : times n xs ≤ 1 = grind (arith, nat_tests, most) in
    omega (arith, both, here, fewer, one)

-- one more that isn't there yet
pub once-more : (n x : ℕ) (xs : List ℕ) → x < n → times x xs ≡ 0 → IsOnce n xs → IsOnce n (x ∷ xs)
once-more n x xs below missing once y =
    let e = times-cons y x xs in
    elim (cases_eq y x) [
      | inl same ↦
          let one = current-same y x 1 same in
          let none : times y xs ≡ 0 = ap (λ z. times z xs) same ∙ missing in
          grind (arith, nat_tests, same, below, one, none, e)
      | inr other ↦ omega (arith, e, current-other y x 1 other, once y)
    ]

-- so there is room for it
pub once-room : (n x : ℕ) (xs : List ℕ) → x < n → times x xs ≡ 0 → IsOnce n xs → length xs < n
once-room n x xs below missing once = omega (arith, once-length n (x ∷ xs) (once-more n x xs below missing once))

-- of a list with so many no number is missing
pub once-all : (n : ℕ) (xs : List ℕ) → IsOnce n xs → n ≤ length xs → (x : ℕ) → times x xs ≡ (if nat_lt x n then 1 else 0)
once-all n xs once long x =
    let most = once x in
    elim (cases_eq (times x xs) 0) [
      | inl missing ↦
          let past : n ≤ x = elim (cases_lt x n) [
            | inl below ↦ absurd (omega (arith, once-room n x xs below missing once, long))
            | inr past ↦ past
          ] in
          grind (arith, nat_tests, missing, past)
      | inr there ↦ grind (arith, nat_tests, there, most)
    ]
