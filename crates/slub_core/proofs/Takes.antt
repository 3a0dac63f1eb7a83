-- The run that the search finds is the one that a take chooses.
use Rattle.std.proofs.Common.{◌≡◌, ℕ, zero, suc, ◌+◌, ◌-◌, ◌%◌, ◌^◌, ◌<◌, ◌≤◌, Bool, true, false, not, ◌&&◌, ◌==◌, nat_lt, List, [], ◌∷◌, Option, Some, None, Contains, refl, sym, subst, ◌∙◌, inl, inr, ◌⊎◌, arith}
use Rattle.std.proofs.lemmas.Bool.{cases_Bool, cases_order, false≢true, lt-ltb, ltb-true, eqb-true, eq-eqb, and_parts, and_from, or_left, or_right, not_from_false, false_from_ne_true}
use Rattle.std.proofs.lemmas.Nat.{pow_pos}
use Rattle.slub_common.proofs.Lists.{Contains-head, Contains-tail, Contains-nil, Contains-cons_cases}
use Rattle.slub_page_pool.specs.FreeFrames.{FreeFrames, IsPool}
use Rattle.slub_page_pool.specs.Block.{IsFreeRun, IsBlock, IsTaken, HasNoBlock, Takes}
use Rattle.slub_page_pool.proofs.FreeRuns.{IsBlock-from_run, IsBlock-alone}
use Rattle.slub_page_pool.proofs.Steps.{IsPool-usable}
use Rattle.slub_core.specs.Setup.{pool_after}
use Rattle.slub_core.specs.Takes.{least, has, has_all, is_run, is_block, lowest, of_orders, take_of}
use Rattle.slub_core.specs.Laws.{PoolsGive}

option_cases : (r : Option ℕ) → (r ≡ None) ⊎ ((f : ℕ) × (r ≡ Some f))
option_cases None = inl refl
option_cases (Some f) = inr (f, refl)

-- ---- the least number

none_from : (test : ℕ → Bool) (k n : ℕ) → least test k n ≡ None → (e : ℕ) → n ≤ e → e < n + k → test e ≡ false
none_from test zero n none e low high = absurd (omega arith)
none_from test (suc k) n none e low high = elim (cases_Bool (test n)) [
  | inl so ↦ absurd (let is : Some n ≡ None = rw so at none in cc)
  | inr not_so ↦ elim (cases_order n e) [
    | inl same ↦ subst (λ (x : ℕ). test x ≡ false) same not_so
    | inr (inl less) ↦ none_from test k (suc n) (rw not_so at none) e (omega arith) (omega arith)
    | inr (inr more) ↦ absurd (omega arith)
  ]
]

record IsLeast (test : ℕ → Bool) (n f : ℕ) : Type 0 where
  pub low : n ≤ f
  pub is : test f ≡ true
  pub before : (e : ℕ) → n ≤ e → e < f → test e ≡ false

some_from : (test : ℕ → Bool) (k n f : ℕ) → least test k n ≡ Some f → IsLeast test n f
some_from test zero n f some = absurd (let is : None ≡ Some f = some in cc)
some_from test (suc k) n f some = elim (cases_Bool (test n)) [
  | inl so ↦
      let is : Some n ≡ Some f = rw so at some in
      let same : n ≡ f = cc in
      record { low = omega arith; is = subst (λ (x : ℕ). test x ≡ true) same so; before = λ e low high. absurd (omega arith) }
  | inr not_so ↦
      let rest = some_from test k (suc n) f (rw not_so at some) in
      record {
        low = omega (arith, rest.low);
        is = rest.is;
        before = λ e low high. elim (cases_order n e) [
          | inl same ↦ subst (λ (x : ℕ). test x ≡ false) same not_so
          | inr (inl less) ↦ rest.before e (omega arith) high
          | inr (inr more) ↦ absurd (omega arith)
        ];
      }
]

-- ---- the tests

has-true : (fs : List ℕ) (g : ℕ) → has fs g ≡ true → Contains fs g
has-true [] g is = absurd (false≢true is)
has-true (f ∷ fs) g is = elim (cases_Bool (f == g)) [
  | inl so ↦ subst (λ (x : ℕ). Contains (f ∷ fs) x) (eqb-true f g so) (Contains-head f fs)
  | inr not_so ↦ Contains-tail f fs g (has-true fs g (rw not_so at is))
]

true-has : (fs : List ℕ) (g : ℕ) → Contains fs g → has fs g ≡ true
true-has [] g is = absurd (Contains-nil g is)
true-has (f ∷ fs) g is = elim (Contains-cons_cases f fs g is) [
  | inl same ↦ or_left (f == g) (has fs g) (eq-eqb f g same)
  | inr rest ↦ or_right (f == g) (has fs g) (true-has fs g rest)
]

has_all-true : (free : List ℕ) (n f : ℕ) → has_all free n f ≡ true → (g : ℕ) → f ≤ g → g < f + n → Contains free g
has_all-true free zero f is g low high = absurd (omega arith)
has_all-true free (suc n) f is g low high =
    let parts = and_parts (has free f) (has_all free n (suc f)) is in
    elim (cases_order f g) [
      | inl same ↦ subst (λ (x : ℕ). Contains free x) same (has-true free f parts.0)
      | inr (inl less) ↦ has_all-true free n (suc f) parts.1 g (omega arith) (omega arith)
      | inr (inr more) ↦ absurd (omega arith)
    ]

true-has_all : (free : List ℕ) (n f : ℕ) → ((g : ℕ) → f ≤ g → g < f + n → Contains free g) → has_all free n f ≡ true
true-has_all free zero f all = refl
true-has_all free (suc n) f all =
    and_from (has free f) (has_all free n (suc f)) (true-has free f (all f (omega arith) (omega arith)))
    (true-has_all free n (suc f) (λ g low high. all g (omega arith) (omega arith)))

run-true : (free : List ℕ) (f order : ℕ) → is_run free f order ≡ true → IsFreeRun free f order
run-true free f order is =
    let parts = and_parts (f % 2 ^ order == 0) (has_all free (2 ^ order) f) is in
    record { aligned = eqb-true (f % 2 ^ order) 0 parts.0; all_free = has_all-true free (2 ^ order) f parts.1 }

true-run : (free : List ℕ) (f order : ℕ) → IsFreeRun free f order → is_run free f order ≡ true
true-run free f order run =
    and_from (f % 2 ^ order == 0) (has_all free (2 ^ order) f) (eq-eqb (f % 2 ^ order) 0 run.aligned) (true-has_all free (2 ^ order) f run.all_free)

-- the run of the next order round a frame
abbrev lies_in_next : List ℕ → ℕ → ℕ → Bool
lies_in_next free f order = nat_lt order 10 && is_run free (f - f % 2 ^ (order + 1)) (order + 1)

not-so : (x : Bool) → not x ≡ true → x ≡ true → ⊥
not-so true is so = false≢true is
not-so false is so = false≢true so

block-true : (free : List ℕ) (f order : ℕ) → order ≤ 10 → is_block free f order ≡ true → IsBlock free f order
block-true free f order most is =
    let parts = and_parts (is_run free f order) (not (lies_in_next free f order)) is in
    IsBlock-from_run most (run-true free f order parts.0)
    (λ next. not-so (lies_in_next free f order) parts.1 (and_from (nat_lt order 10) (is_run free (f - f % 2 ^ (order + 1)) (order + 1)) (lt-ltb order 10 next.0) (true-run free (f - f % 2 ^ (order + 1)) (order + 1) next.1)))

true-block : (free : List ℕ) (f order : ℕ) → IsBlock free f order → is_block free f order ≡ true
true-block free f order block =
    and_from (is_run free f order) (not (lies_in_next free f order)) (true-run free f order block.run)
    (not_from_false (lies_in_next free f order) (false_from_ne_true (lies_in_next free f order) (λ is.
    let parts = and_parts (nat_lt order 10) (is_run free (f - f % 2 ^ (order + 1)) (order + 1)) is in
    IsBlock-alone block (ltb-true order 10 parts.0, run-true free (f - f % 2 ^ (order + 1)) (order + 1) parts.1))))

-- ---- the search, in a pool

module _ (pool : FreeFrames) (good : IsPool pool) where
  block_below : (f order : ℕ) → IsBlock pool.free f order → f < pool.frames
  block_below f order block = (IsPool-usable good f (block.run.all_free f (omega arith) (let some = pow_pos order in omega arith))).1

  none_of_order : (order : ℕ) → lowest pool.free pool.frames order ≡ None → (f : ℕ) → IsBlock pool.free f order → ⊥
  none_of_order order none f block =
      let no : is_block pool.free f order ≡ false = none_from (λ (e : ℕ). is_block pool.free e order) pool.frames 0 none f (omega arith) (let below = block_below f order block in omega arith) in
      false≢true (sym no ∙ true-block pool.free f order block)

  abbrev Found : ℕ → Option ℕ → Type 0
  Found order None = HasNoBlock pool.free order
  Found order (Some f) = IsTaken pool.free order f

  first_found : (order f : ℕ) → order ≤ 10 → lowest pool.free pool.frames order ≡ Some f → IsTaken pool.free order f
  first_found order f most some =
      let is = some_from (λ (e : ℕ). is_block pool.free e order) pool.frames 0 f some in
      record {
        found = order;
        enough = omega arith;
        block = block-true pool.free f order most is.is;
        least = λ q e low high. absurd (omega arith);
        lowest = λ e below block. false≢true (sym (is.before e (omega arith) below) ∙ true-block pool.free e order block);
      }

  later_found : (order : ℕ) (r : Option ℕ) → ((f : ℕ) → IsBlock pool.free f order → ⊥) → Found (suc order) r → Found order r
  later_found order None none found = λ p e low high block. elim (cases_order order p) [
    | inl same ↦ none e (subst (λ (x : ℕ). IsBlock pool.free e x) (sym same) block)
    | inr (inl less) ↦ found p e (omega arith) high block
    | inr (inr more) ↦ omega arith
  ]
  later_found order (Some f) none found = record {
    found = found.found;
    enough = omega (arith, found.enough);
    block = found.block;
    least = λ q e low high block. elim (cases_order order q) [
      | inl same ↦ none e (subst (λ (x : ℕ). IsBlock pool.free e x) (sym same) block)
      | inr (inl less) ↦ found.least q e (omega arith) high block
      | inr (inr more) ↦ omega arith
    ];
    lowest = found.lowest;
  }

  by_order : (k order : ℕ) → order + k ≡ 11 → Found order (of_orders pool.free pool.frames k order)
  by_order zero order is = λ p e low high block. omega arith
  by_order (suc k) order is = elim (option_cases (lowest pool.free pool.frames order)) [
    | inl none ↦ rw none (later_found order (of_orders pool.free pool.frames k (suc order)) (none_of_order order none) (by_order k (suc order) (omega arith)))
    | inr (f, some) ↦ rw some (first_found order f (omega arith) some)
  ]

  taken : (order : ℕ) (r : Option ℕ) → Found order r → Takes pool order r (pool_after pool order r)
  taken order None found = (refl, found)
  taken order (Some f) found = (found, refl)

pub pools-give : PoolsGive
pools-give pool order good most = taken pool good order (take_of pool order) (by_order pool good (11 - order) order (omega arith))
