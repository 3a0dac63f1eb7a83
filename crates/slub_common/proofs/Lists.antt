-- Ranges, filters and rising lists of numbers.
use Rattle.std.proofs.Common.{ℕ, zero, suc, ◌+◌, ◌-◌, ◌<◌, ◌≤◌, ◌≡◌, ◌⊎◌, inl, inr, Bool, true, false, cond, ◌&&◌, List, [], ◌∷◌, ◌++◌, length, get_or, refl, add-zero, zero-add, sym, ◌∙◌, ap, subst, arith, Contains}
use Rattle.std.specs.List.{range_with_len, filter}
use Rattle.std.specs.List.Sorted.{IsStrictlyIncreasing}
use Rattle.std.proofs.lemmas.Bool.{cases_lt, cases_Bool, cond-true, cond-false, false≢true}
use Rattle.std.proofs.lemmas.List.Elements.{Contains-append_left, Contains-append_right, All-filter, All-contains_itself, All-contains, Contains-get_or, filter_passes}
use Rattle.std.proofs.lemmas.List.{length-append, get_or_append_left, get_or-append_right}
use Rattle.std.proofs.lemmas.List.FromFn.{length-range_with_len, get_or-range_with_len}

-- the head of a list is in it
pub Contains-head : (x : ℕ) (xs : List ℕ) → Contains (x ∷ xs) x
Contains-head x xs = Contains-append_left (x ∷ []) xs x (0, omega arith, refl)

-- what the tail has, the list has
pub Contains-tail : (y : ℕ) (xs : List ℕ) (x : ℕ) → Contains xs x → Contains (y ∷ xs) x
Contains-tail y xs x found = Contains-append_right (y ∷ []) xs x found

-- the empty list has nothing
pub Contains-nil : (x : ℕ) → Contains [] x → ⊥
Contains-nil x found = let short : found.0 < 0 = found.1 in omega arith

-- an element is the head or in the tail
pub Contains-cons_cases : (y : ℕ) (xs : List ℕ) (x : ℕ) → Contains (y ∷ xs) x → (y ≡ x) ⊎ Contains xs x
Contains-cons_cases y xs x (zero, short, is) = inl is
Contains-cons_cases y xs x (suc k, short, is) = inr (k, omega arith, is)

-- a range has the numbers of its bounds
pub Contains-range_with_len : (a n g : ℕ) → a ≤ g → g < a + n → Contains (range_with_len a n) g
Contains-range_with_len a n g low high =
    let is : get_or (range_with_len a n) (g - a) g ≡ a + (g - a) = get_or-range_with_len a n (g - a) g (omega arith) in
    let short : g - a < length (range_with_len a n) = omega (arith, length-range_with_len a n) in
    (g - a, short, omega arith)

-- and no others
pub from_range_with_len : (a n g : ℕ) → Contains (range_with_len a n) g → (a ≤ g) × (g < a + n)
from_range_with_len a n g (k, short, is) =
    let below : k < n = omega (arith, length-range_with_len a n) in
    let at : get_or (range_with_len a n) k g ≡ a + k = get_or-range_with_len a n k g below in
    (omega arith, omega arith)

-- a range rises
pub IsStrictlyIncreasing-range_with_len : (a n : ℕ) → IsStrictlyIncreasing (range_with_len a n)
IsStrictlyIncreasing-range_with_len a n k short =
    let below : k + 1 < n = omega (arith, length-range_with_len a n) in
    omega (arith, get_or-range_with_len a n k 0 (omega arith), get_or-range_with_len a n (k + 1) 0 below)

-- a filter keeps what passes
pub Contains-filter : (p : ℕ → Bool) (xs : List ℕ) (x : ℕ) → Contains xs x → p x ≡ true → Contains (filter p xs) x
Contains-filter p [] x found passes = absurd (Contains-nil x found)
Contains-filter p (y ∷ ys) x found passes =
    elim (cases_Bool (p y)) [
      | inl keeps ↦ rw (cond-true (p y) (y ∷ filter p ys) (filter p ys) keeps) (elim (Contains-cons_cases y ys x found) [
        | inl here ↦ subst (λ z. Contains (y ∷ filter p ys) z) here (Contains-head y (filter p ys))
        | inr there ↦ Contains-tail y (filter p ys) x (Contains-filter p ys x there passes)
      ])
      | inr drops ↦ rw (cond-false (p y) (y ∷ filter p ys) (filter p ys) drops) (elim (Contains-cons_cases y ys x found) [
        | inl here ↦ absurd (false≢true (sym drops ∙ ap p here ∙ passes))
        | inr there ↦ Contains-filter p ys x there passes
      ])
    ]

-- and what a filter keeps was there and passes
pub from_filter : (p : ℕ → Bool) (xs : List ℕ) (x : ℕ) → Contains (filter p xs) x → Contains xs x × (p x ≡ true)
from_filter p xs x found = (
  All-contains (λ y. Contains xs y) (filter p xs) x (All-filter p (λ y. Contains xs y) xs (All-contains_itself xs)) found,
  All-contains (λ y. p y ≡ true) (filter p xs) x (filter_passes p xs) found,
)

-- one step of two filters in a row, by what the tests say
filter-cond : (p : ℕ → Bool) (x : ℕ) (ys zs : List ℕ) (a b c : Bool) → p x ≡ a → c ≡ (b && a) → filter p ys ≡ zs → filter p (cond b (x ∷ ys) ys) ≡ cond c (x ∷ zs) zs
filter-cond p x ys zs true true c first second rest = rw (second, first, rest) refl
filter-cond p x ys zs false true c first second rest = rw (second, first, rest) refl
filter-cond p x ys zs a false c first second rest = rw (second, rest) refl

-- two filters in a row are one
pub filter-filter : (p q r : ℕ → Bool) → ((x : ℕ) → r x ≡ (q x && p x)) → (xs : List ℕ) → filter p (filter q xs) ≡ filter r xs
filter-filter p q r both [] = refl
filter-filter p q r both (x ∷ xs) = filter-cond p x (filter q xs) (filter r xs) (p x) (q x) (r x) refl (both x) (filter-filter p q r both xs)

-- a test that all pass keeps the list
pub filter_all : (p : ℕ → Bool) (xs : List ℕ) → ((x : ℕ) → Contains xs x → p x ≡ true) → filter p xs ≡ xs
filter_all p [] pass = refl
filter_all p (x ∷ xs) pass =
    rw (pass x (Contains-head x xs)) (ap (λ ys. x ∷ ys) (filter_all p xs (λ y found. pass y (Contains-tail x xs y found))))

-- a test that none pass leaves nothing
pub filter_none : (p : ℕ → Bool) (xs : List ℕ) → ((x : ℕ) → Contains xs x → p x ≡ false) → filter p xs ≡ []
filter_none p [] fail = refl
filter_none p (x ∷ xs) fail =
    rw (fail x (Contains-head x xs)) (filter_none p xs (λ y found. fail y (Contains-tail x xs y found)))

-- a rising list rises after its head
pub rising_tail : (x : ℕ) (xs : List ℕ) → IsStrictlyIncreasing (x ∷ xs) → IsStrictlyIncreasing xs
rising_tail x xs rising k short =
    let place : suc k + 1 ≡ suc (k + 1) = omega arith in
    subst (λ n. get_or (x ∷ xs) (suc k) 0 < get_or (x ∷ xs) n 0) place (rising (suc k) (omega arith))

-- the head of a rising list is below the rest
pub rising_head : (x : ℕ) (xs : List ℕ) → IsStrictlyIncreasing (x ∷ xs) → (y : ℕ) → Contains xs y → x < y
rising_head x [] rising y found = absurd (Contains-nil y found)
rising_head x (z ∷ zs) rising y found =
    let first : x < z = rising 0 (omega arith) in
    elim (Contains-cons_cases z zs y found) [
      | inl here ↦ omega arith
      | inr there ↦ let later : z < y = rising_head z zs (rising_tail x (z ∷ zs) rising) y there in omega arith
    ]

-- what is behind the head of a rising list, where its head is that of the other
after_head : (x : ℕ) (xs : List ℕ) (y : ℕ) (ys : List ℕ) → x ≡ y → IsStrictlyIncreasing (x ∷ xs) → ((z : ℕ) → Contains (x ∷ xs) z → Contains (y ∷ ys) z) → (z : ℕ) → Contains xs z → Contains ys z
after_head x xs y ys same rising kept z found =
    elim (Contains-cons_cases y ys z (kept z (Contains-tail x xs z found))) [
      | inl here ↦ let later : x < z = rising_head x xs rising z found in absurd (omega arith)
      | inr there ↦ there
    ]

-- rising lists with the same numbers are the same
pub same_members : (xs ys : List ℕ) → IsStrictlyIncreasing xs → IsStrictlyIncreasing ys → ((z : ℕ) → Contains xs z → Contains ys z) → ((z : ℕ) → Contains ys z → Contains xs z) → xs ≡ ys
same_members [] [] left right there back = refl
same_members [] (y ∷ ys) left right there back = absurd (Contains-nil y (back y (Contains-head y ys)))
same_members (x ∷ xs) [] left right there back = absurd (Contains-nil x (there x (Contains-head x xs)))
same_members (x ∷ xs) (y ∷ ys) left right there back =
    let same : x ≡ y = elim (Contains-cons_cases y ys x (there x (Contains-head x xs))) [
      | inl here ↦ sym here
      | inr later ↦ elim (Contains-cons_cases x xs y (back y (Contains-head y ys))) [
        | inl here ↦ here
        | inr after ↦ let up : x < y = rising_head x xs left y after in let down : y < x = rising_head y ys right x later in absurd (omega arith)
      ]
    ] in
    let rest : xs ≡ ys = same_members xs ys (rising_tail x xs left) (rising_tail y ys right) (after_head x xs y ys same left there) (after_head y ys x xs (sym same) right back) in
    λ i. same i ∷ rest i

-- two rising lists are one where the first is below the second
pub IsStrictlyIncreasing-append : (xs ys : List ℕ) → IsStrictlyIncreasing xs → IsStrictlyIncreasing ys → ((x y : ℕ) → Contains xs x → Contains ys y → x < y) → IsStrictlyIncreasing (xs ++ ys)
IsStrictlyIncreasing-append xs ys left right below k short =
    let both : k + 1 < length xs + length ys = omega (arith, length-append xs ys) in
    elim (cases_lt (k + 1) (length xs)) [
      | inl inside ↦ omega (arith, left k inside, get_or_append_left xs ys 0 k (omega arith), get_or_append_left xs ys 0 (k + 1) inside)
      | inr past ↦
          let second : get_or (xs ++ ys) (k + 1) 0 ≡ get_or ys (k + 1 - length xs) 0 = get_or-append_right xs ys (length xs) (k + 1) 0 refl past in
          elim (cases_lt k (length xs)) [
            | inl last ↦ omega (
              arith,
              second,
              get_or_append_left xs ys 0 k last,
              below (get_or xs k 0) (get_or ys (k + 1 - length xs) 0) (Contains-get_or xs k 0 last) (Contains-get_or ys (k + 1 - length xs) 0 (omega arith)),
            )
            | inr beyond ↦
                let place : k + 1 - length xs ≡ k - length xs + 1 = omega arith in
                omega (arith, second, get_or-append_right xs ys (length xs) k 0 refl beyond, right (k - length xs) (omega arith), ap (λ n. get_or ys n 0) place)
          ]
    ]

-- a range is two ranges
pub range_with_len-append : (a m n : ℕ) → range_with_len a (m + n) ≡ range_with_len a m ++ range_with_len (a + m) n
range_with_len-append a zero n = rw (zero-add, add-zero) refl
range_with_len-append a (suc m) n =
    let long : suc m + n ≡ suc (m + n) = omega arith in
    let place : a + suc m ≡ a + 1 + m = omega arith in
    rw (long, place, range_with_len-append (a + 1) m n) refl
