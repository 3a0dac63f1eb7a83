-- Transaction ids between rounds: the first ones, and what stands beside a machine that ids fit.
use Rattle.std.proofs.Common.{◌≡◌, ℕ, suc, ◌+◌, ◌*◌, ◌%◌, ◌^◌, ◌<◌, ◌≤◌, List, length, get_or, IsSome, inl, inr, ap, ap₂, sym, ◌∙◌, arith, zero-add, pow-suc, pow_mono}
use Rattle.std.specs.Prelude.{nat_lt}
use Rattle.std.proofs.lemmas.Bool.{cases_lt, cond-true, cond-false, lt-ltb, le-ltb}
use Rattle.std.proofs.lemmas.List.{get_or_past, length-replicate}
use Rattle.std.proofs.lemmas.List.FromFn.{get_or-map-range_with_len, length-map-range_with_len}
use native.Mathlib.Nat.{add-mod, mod-eq_of_lt}
use Rattle.slub_common.proofs.Writes.{get_or-replicate_any}
use Rattle.slub_lists.specs.State.{State}
use Rattle.slub_law_opening.specs.Opening.{cpu_at}
use Rattle.slub_open_close.specs.declared.beside.Beside.{Beside}
use Rattle.slub_open_close.specs.Beside.{IsBesideOf, tid_at, first_links}
use Rattle.slub_open_close.specs.Ids.{AreIds, IsStepOf, first_id, first_ids, id_at}

-- ---- the step

pub step-few : (k n : ℕ) → n ≡ 2 ^ k → n < 32 → n ≤ 16
step-few k n e below = elim (cases_lt k 5) [
  | inl l ↦ let m : 2 ^ k ≤ 2 ^ 4 = pow_mono {j = 4} (omega arith) in omega arith
  | inr g ↦ let m : 2 ^ 5 ≤ 2 ^ k = pow_mono g in absurd (omega arith)
]

pub step-below : (cpus step : ℕ) → cpus ≤ 16 → IsStepOf cpus step → step ≤ 16
step-below cpus step few is = let p = is.0 in step-few p.0 step p.1 (omega (arith, few, is.2))

-- a greater power of two isn't the least
not-both : (cpus j k : ℕ) → j < k → cpus ≤ 2 ^ j → 2 ^ k < 2 * cpus → ⊥
not-both cpus j k below above least =
    let more : 2 ^ suc j ≤ 2 ^ k = pow_mono {i = suc j} {j = k} (omega arith) in
    omega (arith, more, pow-suc 2 j, above, least)

-- there is one step
pub one-step : (cpus x y : ℕ) → IsStepOf cpus x → IsStepOf cpus y → x ≡ y
one-step cpus x y one other =
    let p = one.0 in
    let q = other.0 in
    elim (cases_lt p.0 q.0) [
      | inl less ↦ absurd (not-both cpus p.0 q.0 less (omega (arith, one.1, p.1)) (omega (arith, other.2, q.1)))
      | inr least ↦ elim (cases_lt q.0 p.0) [
        | inl more ↦ absurd (not-both cpus q.0 p.0 more (omega (arith, other.1, q.1)) (omega (arith, one.2, p.1)))
        | inr most ↦ p.1 ∙ ap (λ k. 2 ^ k) (let e : p.0 ≡ q.0 = omega (arith, least, most) in e) ∙ sym q.1
      ]
    ]

-- ---- the first ids

pub first-is : (first cpus n : ℕ) → n % 16 < cpus → first_id first cpus n ≡ first + n % 16
first-is first cpus n below = cond-true (nat_lt (n % 16) cpus) (first + n % 16) 0 (lt-ltb (n % 16) cpus below)

-- a first id is an id of its CPU, or 0
pub first-most : (first cpus n : ℕ) → 1 ≤ cpus → first_id first cpus n < first + cpus
first-most first cpus n some = elim (cases_lt (n % 16) cpus) [
  | inl l ↦ omega (arith, first-is first cpus n l, l)
  | inr g ↦ omega (arith, cond-false (nat_lt (n % 16) cpus) (first + n % 16) 0 (le-ltb (n % 16) cpus g), some)
]

pub first-at : (first cpus n : ℕ) → n < 512 → id_at (first_ids first cpus) n ≡ first_id first cpus n
first-at first cpus n below = get_or-map-range_with_len (first_id first cpus) 0 512 n n 0 below (let e : 0 + n ≡ n = omega arith in e)

pub first-count : (first cpus : ℕ) → length (first_ids first cpus) ≡ 512
first-count first cpus = length-map-range_with_len (first_id first cpus) 0 512

pub first-below : (first cpus n : ℕ) → 1 ≤ cpus → id_at (first_ids first cpus) n < first + cpus
first-below first cpus n some = elim (cases_lt n 512) [
  | inl l ↦ omega (arith, first-at first cpus n l, first-most first cpus n some)
  | inr g ↦ omega (arith, get_or_past (first_ids first cpus) n 0 (omega (arith, g, first-count first cpus)), some)
]

-- the CPU of an id is what it leaves by the step
pub first-leaves : (first step cpu : ℕ) → first % step ≡ 0 → cpu < step → (first + cpu) % step ≡ cpu
first-leaves first step cpu whole below =
    add-mod first cpu step ∙ ap (λ r. (r + cpu % step) % step) whole
    ∙ ap (λ r. r % step) (zero-add (cpu % step) ∙ mod-eq_of_lt below) ∙ mod-eq_of_lt below

-- the first ids fit a machine whose current slabs can be detached
pub first-ids-fit : (s : State) (first step : ℕ) → 1 ≤ s.cpus → IsStepOf s.cpus step → first % step ≡ 0 → first + step ≤ 2 ^ 32
    → ((n : ℕ) → IsSome (cpu_at s n).current → first + 2 * step ≤ 2 ^ 32) → AreIds s (first_ids first s.cpus)
first-ids-fit s first step some least whole few current = record {
  step = step;
  least = least;
  count = first-count first s.cpus;
  below = λ n. omega (arith, first-below first s.cpus n some, least.1, few);
  room = λ n is. omega (arith, first-below first s.cpus n some, least.1, current n is);
  remainder = λ n within there lives.
      ap (λ t. t % step) (first-at first s.cpus n within ∙ first-is first s.cpus n there)
      ∙ first-leaves first step (n % 16) whole (omega (arith, there, least.1));
}

-- ---- between rounds

-- what stands beside a machine fits it where its ids do
pub ids-fit : (s : State) (b : Beside) (ids : List ℕ) → 1 ≤ length s.board → length s.board ≤ 1048577 → AreIds s ids → b.tids.items ≡ ids → b.links.items ≡ first_links s.frames → IsStepOf s.cpus b.step → b.step ≤ 16 → IsBesideOf s b
ids-fit s b ids some few are tids links least below =
    let at : (n : ℕ) → tid_at b n ≡ id_at ids n = λ n. ap (λ (l : List ℕ). get_or l n 0) tids in
    let same : are.step ≡ b.step = one-step s.cpus are.step b.step are.least least in
    record {
      step = (least.1, below);
      objects = (some, few);
      tids = ap length tids ∙ are.count;
      links = ap length links ∙ length-replicate s.frames 0;
      tid = λ n. omega (arith, at n, are.below n);
      room = λ n current. omega (arith, at n, are.room n current, same);
      remainder = λ n within there lives. ap₂ (λ t k. t % k) (at n) (sym same) ∙ are.remainder n within there lives;
      link = λ f. (let e : get_or b.links.items f 0 ≡ 0 = ap (λ (l : List ℕ). get_or l f 0) links ∙ get_or-replicate_any s.frames f 0 in omega (arith, e));
    }
