-- Runs of numbers.
use Rattle.std.proofs.Common.{◌≡◌, ℕ, zero, suc, ◌+◌, ◌-◌, ◌<◌, ◌≤◌, true, false, List, [], ◌∷◌, ◌++◌, fold, get_or, max, refl, sym, ap, ◌∙◌, append_assoc, arith, eqb, inl, inr, subst, All, nat_eq}
use Rattle.std.specs.Cmp.{nat_eq_equiv}
use Rattle.std.specs.List.{IsDistinct, list_any, range_with_len}
use Rattle.std.proofs.lemmas.Bool.{cases_Bool, cases_order, eqb-true, false≢true, ne_eqb}
use Rattle.std.proofs.lemmas.List.{append-nil}
use Rattle.std.proofs.lemmas.List.Folds.{list_any-append}
use Rattle.std.proofs.lemmas.Map.Keys.{IsDistinct-push}
use Rattle.slub_trace_reader.specs.Above.{with_one}
use Rattle.std.proofs.lemmas.List.Elements.{All-cons, All-nil, All-head, All-tail}
use Rattle.std.proofs.lemmas.List.FromFn.{length-range_with_len, get_or-range_with_len}

-- ---- the greatest of numbers

pub from_first : (first : ℕ) (xs : List ℕ) → first ≤ fold max first xs
from_first first [] = omega arith
from_first first (x ∷ xs) = omega (arith, from_first (max first x) xs)

-- a number of a list is at most the greatest
pub any_within : (first n : ℕ) (xs : List ℕ) → list_any (nat_eq n) xs ≡ true → n ≤ fold max first xs
any_within first n [] is = absurd (false≢true is)
any_within first n (x ∷ xs) is = elim (cases_Bool (eqb n x)) [
  | inl here ↦ omega (arith, eqb-true n x here, from_first (max first x) xs)
  | inr apart ↦ any_within (max first x) n xs (rw apart at is)
]

-- one number more
pub greatest_more : (first n : ℕ) (xs : List ℕ) → fold max first (xs ++ n ∷ []) ≡ max (fold max first xs) n
greatest_more first n [] = refl
greatest_more first n (x ∷ xs) = greatest_more (max first x) n xs

-- ---- runs

-- what holds of each number of a run holds at each place of it, and back
pub run_each : (P : ℕ → Type 0) (first count : ℕ) → ((n : ℕ) → first ≤ n → n < first + count → P n) → All P (range_with_len first count)
run_each P first zero each = All-nil P
run_each P first (suc count) each =
    All-cons P first (range_with_len (first + 1) count) (each first (omega arith) (omega arith))
    (run_each P (first + 1) count (λ n low high. each n (omega arith) (omega arith)))

pub each_run : (P : ℕ → Type 0) (first count n : ℕ) → All P (range_with_len first count) → first ≤ n → n < first + count → P n
each_run P first count n all low high =
    let at : get_or (range_with_len first count) (n - first) 0 ≡ n = get_or-range_with_len first count (n - first) 0 (omega arith) ∙ omega arith in
    let long = length-range_with_len first count in
    subst P at (all (n - first) 0 (omega arith))

-- the last number of a run is at most the greatest
pub greatest_from : (first start count : ℕ) → 1 ≤ count → start + count - 1 ≤ fold max first (range_with_len start count)
greatest_from first start zero some = absurd (let never : ⊥ = omega arith in never)
greatest_from first start (suc zero) some = omega arith
greatest_from first start (suc (suc count)) some = omega (arith, greatest_from (max first start) (start + 1) (suc count) (omega arith))

-- and the greatest is no greater where the last and the others are not
pub greatest_within : (first start count most : ℕ) → first ≤ most → start + count ≤ most + 1 → fold max first (range_with_len start count) ≤ most
greatest_within first start zero most low end = low
greatest_within first start (suc count) most low end = greatest_within (max first start) (start + 1) count most (omega arith) (omega arith)

-- one fresh number in front of a run leaves the others fresh
next_fresh : (objects : List ℕ) (first n : ℕ) → list_any (nat_eq n) objects ≡ false → first < n → list_any (nat_eq n) (objects ++ first ∷ []) ≡ false
next_fresh objects first n fresh above =
    let apart : eqb n first ≡ false = ne_eqb n first (λ same. absurd (let never : ⊥ = omega arith in never)) in
    list_any-append (nat_eq n) objects (first ∷ []) ∙ rw (fresh, apart) refl

-- distinct numbers with a fresh run behind them are distinct
pub distinct_run : (objects : List ℕ) (first count : ℕ) → IsDistinct nat_eq objects → All (λ n. list_any (nat_eq n) objects ≡ false) (range_with_len first count) → IsDistinct nat_eq (objects ++ range_with_len first count)
distinct_run objects first zero distinct fresh = subst (λ (os : List ℕ). IsDistinct nat_eq os) (sym (append-nil objects)) distinct
distinct_run objects first (suc count) distinct fresh =
    let here = All-head (λ n. list_any (nat_eq n) objects ≡ false) first (range_with_len (first + 1) count) fresh in
    let rest = All-tail (λ n. list_any (nat_eq n) objects ≡ false) first (range_with_len (first + 1) count) fresh in
    let one : IsDistinct nat_eq (objects ++ first ∷ []) = IsDistinct-push nat_eq_equiv objects first distinct here in
    let more : All (λ n. list_any (nat_eq n) (objects ++ first ∷ []) ≡ false) (range_with_len (first + 1) count) =
    run_each (λ n. list_any (nat_eq n) (objects ++ first ∷ []) ≡ false) (first + 1) count
    (λ n low high. next_fresh objects first n (each_run (λ m. list_any (nat_eq m) objects ≡ false) (first + 1) count n rest low high) (omega arith)) in
    subst (λ (os : List ℕ). IsDistinct nat_eq os) (append_assoc objects (first ∷ []) (range_with_len (first + 1) count)) (distinct_run (objects ++ first ∷ []) (first + 1) count one more)

-- a number behind a run isn't in it
run_none : (first count n : ℕ) → first + count ≤ n → list_any (nat_eq n) (range_with_len first count) ≡ false
run_none first zero n behind = refl
run_none first (suc count) n behind =
    let apart : eqb n first ≡ false = ne_eqb n first (λ same. absurd (let never : ⊥ = omega arith in never)) in
    rw apart (run_none (first + 1) count n (omega arith))

-- one number more
run_more : (first count : ℕ) → range_with_len first (count + 1) ≡ range_with_len first count ++ (first + count) ∷ []
run_more first zero = (let e : first + zero ≡ first = omega arith in rw e refl)
run_more first (suc count) =
    let more : suc count + 1 ≡ suc (count + 1) = omega arith in
    let last : first + suc count ≡ first + 1 + count = omega arith in
    rw (more, last) (ap (λ ns. first ∷ ns) (run_more (first + 1) count))

-- fresh numbers up to one, and that behind them: it is new, and stands last
pub put_next : (old now put : List ℕ) (first count n : ℕ) → All (λ m. list_any (nat_eq m) old ≡ false) (range_with_len first count) → first ≤ n → n < first + count
    → now ≡ old ++ range_with_len first (n - first) → put ≡ with_one nat_eq now n → put ≡ old ++ range_with_len first (n + 1 - first)
put_next old now put first count n fresh low high so_far puts =
    let new : list_any (nat_eq n) old ≡ false = each_run (λ m. list_any (nat_eq m) old ≡ false) first count n fresh low high in
    let apart : list_any (nat_eq n) (range_with_len first (n - first)) ≡ false = run_none first (n - first) n (omega arith) in
    let none : list_any (nat_eq n) now ≡ false = ap (λ ns. list_any (nat_eq n) ns) so_far ∙ list_any-append (nat_eq n) old (range_with_len first (n - first)) ∙ rw (new, apart) refl in
    let last : put ≡ now ++ n ∷ [] = puts ∙ rw none refl in
    let longer : n + 1 - first ≡ n - first + 1 = omega arith in
    let here : first + (n - first) ≡ n = omega arith in
    last ∙ ap (λ ns. ns ++ n ∷ []) so_far ∙ append_assoc old (range_with_len first (n - first)) (n ∷ [])
    ∙ ap (λ m. old ++ (range_with_len first (n - first) ++ m ∷ [])) (sym here) ∙ ap (λ ns. old ++ ns) (sym (run_more first (n - first))) ∙ ap (λ c. old ++ range_with_len first c) (sym longer)

-- the greatest with one number more
pub greatest_then : (now put : List ℕ) (n : ℕ) → put ≡ with_one nat_eq now n → fold max 0 put ≡ max (fold max 0 now) n
greatest_then now put n puts = elim (cases_Bool (list_any (nat_eq n) now)) [
  | inl old ↦ (let same : put ≡ now = puts ∙ rw old refl in ap (λ ns. fold max 0 ns) same ∙ omega (arith, any_within 0 n now old))
  | inr new ↦ (let last : put ≡ now ++ n ∷ [] = puts ∙ rw new refl in ap (λ ns. fold max 0 ns) last ∙ greatest_more 0 n now)
]

-- what holds below a number and of it holds up to it
pub up_to : (P : ℕ → Type 0) (first n : ℕ) → ((m : ℕ) → first ≤ m → m < n → P m) → P n → (m : ℕ) → first ≤ m → m < n + 1 → P m
up_to P first n below here m low high = elim (cases_order m n) [
  | inl same ↦ subst P (sym same) here
  | inr apart ↦ elim apart [
    | inl under ↦ below m low under
    | inr over ↦ absurd (let never : ⊥ = omega arith in never)
  ]
]
