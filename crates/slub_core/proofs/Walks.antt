-- Walks along chains in hand, and the end of one.
use Rattle.std.proofs.Common.{◌≡◌, ℕ, zero, suc, ◌+◌, ◌-◌, ◌%◌, ◌^◌, ◌<◌, ◌≤◌, ◌⊎◌, ◌==◌, true, false, if◌then◌else◌, List, [], ◌∷◌, length, refl, sym, ap, ◌∙◌, arith, inl, inr}
use Rattle.std.specs.Prelude.{slice_index}
use Rattle.std.proofs.lemmas.Bool.{cases_eq, cases_lt, eq-eqb, ne_eqb, cond-true, cond-false, false≢true}
use Rattle.slub_common.specs.Times.{times}
use Rattle.slub_core.specs.declared.local.Hand.{Hand}
use Rattle.slub_core.specs.World.{Leads, one_if}
use Rattle.slub_core.specs.Alloc.{reached, walked_on}
use Rattle.slub_core.specs.Fresh.{IsWalk}
use Rattle.slub_core.proofs.Lists.{times-first, times-at}

-- where a place of a chain leads: to the next place, or from the last one to the end
pub Leads-next : (g : ℕ → ℕ) (head : ℕ) (xs : List ℕ) (end k : ℕ) → suc k < length xs → Leads g head xs end → g (slice_index xs k) ≡ suc (slice_index xs (suc k))
Leads-next g head [] end k below c = absurd (omega arith)
Leads-next g head (x ∷ []) end k below c = absurd (omega arith)
Leads-next g head (x ∷ y ∷ ys) end zero below c = c.1.0
Leads-next g head (x ∷ y ∷ ys) end (suc k) below c = Leads-next g (g x) (y ∷ ys) end k (omega arith) c.1

pub Leads-last : (g : ℕ → ℕ) (head : ℕ) (xs : List ℕ) (end k : ℕ) → suc k ≡ length xs → Leads g head xs end → g (slice_index xs k) ≡ end
Leads-last g head [] end k last c = absurd (omega arith)
Leads-last g head (x ∷ []) end zero last c = c.1
Leads-last g head (x ∷ []) end (suc k) last c = absurd (omega arith)
Leads-last g head (x ∷ y ∷ ys) end zero last c = absurd (omega arith)
Leads-last g head (x ∷ y ∷ ys) end (suc k) last c = Leads-last g (g x) (y ∷ ys) end k (omega arith) c.1

pub Leads-first : (g : ℕ → ℕ) (head : ℕ) (xs : List ℕ) (end : ℕ) → 1 ≤ length xs → Leads g head xs end → head ≡ suc (slice_index xs 0)
Leads-first g head [] end some c = absurd (omega arith)
Leads-first g head (x ∷ xs) end some c = c.0

pub Leads-some : (g : ℕ → ℕ) (head : ℕ) (xs : List ℕ) → 1 ≤ head → Leads g head xs 0 → 1 ≤ length xs
Leads-some g head [] some c = absurd (omega (arith, c))
Leads-some g head (x ∷ xs) some c = omega arith

last-again : (x y : ℕ) (ys : List ℕ) → slice_index (x ∷ y ∷ ys) (length (x ∷ y ∷ ys) - 1) ≡ slice_index (y ∷ ys) (length (y ∷ ys) - 1)
last-again x y ys =
    let a : length (x ∷ y ∷ ys) - 1 ≡ suc (length ys) = omega arith in
    let b : length (y ∷ ys) - 1 ≡ length ys = omega arith in
    ap (slice_index (x ∷ y ∷ ys)) a ∙ ap (slice_index (y ∷ ys)) (sym b)

-- the last free pointer of a chain is set
pub Leads-set : (g h : ℕ → ℕ) (head : ℕ) (xs : List ℕ) (end new : ℕ) → 1 ≤ length xs → ((k : ℕ) → suc k < length xs → h (slice_index xs k) ≡ g (slice_index xs k)) → h (slice_index xs (length xs - 1)) ≡ new
    → Leads g head xs end → Leads h head xs new
Leads-set g h head [] end new some same here c = absurd (omega arith)
Leads-set g h head (x ∷ []) end new some same here c = (c.0, here)
Leads-set g h head (x ∷ y ∷ ys) end new some same here c =
    (c.0, rw (same 0 (omega arith)) (Leads-set g h (g x) (y ∷ ys) end new (omega arith) (λ k below. same (suc k) (omega arith)) (ap h (sym (last-again x y ys)) ∙ here) c.1))

-- what stands at two places is counted twice
pub times-two : (g : ℕ) (xs : List ℕ) (k l : ℕ) → k < l → l < length xs → slice_index xs k ≡ g → slice_index xs l ≡ g → 2 ≤ times g xs
times-two g [] k l less below a b = absurd (omega arith)
times-two g (x ∷ xs) k zero less below a b = absurd (omega arith)
times-two g (x ∷ xs) zero (suc l) less below a b =
    let c = times-first g x xs in
    let o : one_if (x == g) ≡ 1 = rw (eq-eqb x g a) refl in
    let r = times-at g xs l (omega arith) b in
    omega arith
times-two g (x ∷ xs) (suc k) (suc l) less below a b =
    let c = times-first g x xs in
    let r = times-two g xs k l (omega arith) (omega arith) a b in
    omega arith

-- ---- one step of a walk

-- a walk that has found one more
abbrev pub further : Hand → ℕ → Hand
further h found = record h { last = found; length = (if h.length == 0 then 2 else h.length + 1) }

-- one that has come to the end
abbrev pub arrived : Hand → Hand
arrived h = record h { last = reached h; length = (if h.length == 0 then 1 else h.length); walked = true }

-- the place that a walk has come to
abbrev pub place_of : Hand → ℕ
place_of h = h.length - 1

pub reached-at : (g : ℕ → ℕ) (xs : List ℕ) (h : Hand) (end : ℕ) → 1 ≤ length xs → Leads g h.head xs end → IsWalk xs h → reached h ≡ suc (slice_index xs (place_of h))
reached-at g xs h end some chain walk = elim (cases_eq h.length 0) [
  | inl z ↦ cond-true (h.length == 0) h.head h.last (eq-eqb h.length 0 z) ∙ Leads-first g h.head xs end some chain ∙ ap (λ n. suc (slice_index xs (n - 1))) (sym z)
  | inr d ↦ cond-false (h.length == 0) h.head h.last (ne_eqb h.length 0 d) ∙ walk.last (omega (arith, d))
]

pub walk-further : (xs : List ℕ) (h : Hand) → h.walked ≡ false → suc (place_of h) < length xs → IsWalk xs (further h (suc (slice_index xs (suc (place_of h)))))
walk-further xs h going below = elim (cases_eq h.length 0) [
  | inl z ↦ (
      let t = eq-eqb h.length 0 z in
      let l : (if h.length == 0 then 2 else h.length + 1) ≡ 2 = cond-true (h.length == 0) 2 (h.length + 1) t in
      record { short = omega arith; last = λ _. ap (λ n. suc (slice_index xs n)) (let e : suc (place_of h) ≡ (if h.length == 0 then 2 else h.length + 1) - 1 = omega arith in e); ended = λ e. absurd (false≢true (sym going ∙ e)) })
  | inr d ↦ (
      let l : (if h.length == 0 then 2 else h.length + 1) ≡ h.length + 1 = cond-false (h.length == 0) 2 (h.length + 1) (ne_eqb h.length 0 d) in
      record { short = omega (arith, d); last = λ _. ap (λ n. suc (slice_index xs n)) (let e : suc (place_of h) ≡ (if h.length == 0 then 2 else h.length + 1) - 1 = omega (arith, d) in e); ended = λ e. absurd (false≢true (sym going ∙ e)) })
]

pub walk-arrived : (g : ℕ → ℕ) (xs : List ℕ) (h : Hand) (end : ℕ) → 1 ≤ length xs → Leads g h.head xs end → IsWalk xs h → suc (place_of h) ≡ length xs → IsWalk xs (arrived h)
walk-arrived g xs h end some chain walk all =
    let r = reached-at g xs h end some chain walk in
    elim (cases_eq h.length 0) [
      | inl z ↦ (
          let l : (if h.length == 0 then 1 else h.length) ≡ 1 = cond-true (h.length == 0) 1 h.length (eq-eqb h.length 0 z) in
          record { short = omega arith; last = λ _. r ∙ ap (λ n. suc (slice_index xs n)) (let e : place_of h ≡ (if h.length == 0 then 1 else h.length) - 1 = omega arith in e); ended = λ _. (omega arith, omega arith) })
      | inr d ↦ (
          let l : (if h.length == 0 then 1 else h.length) ≡ h.length = cond-false (h.length == 0) 1 h.length (ne_eqb h.length 0 d) in
          record { short = omega (arith, d); last = λ _. r ∙ ap (λ n. suc (slice_index xs n)) (let e : place_of h ≡ (if h.length == 0 then 1 else h.length) - 1 = omega arith in e); ended = λ _. (omega (arith, d), omega (arith, d)) })
    ]

-- what an object leads to that a walk has come to: to nothing at the end, else to the next one
pub walk-step : (g : ℕ → ℕ) (xs : List ℕ) (h : Hand) (found : ℕ) → 1 ≤ h.head → ((j : ℕ) → 1 ≤ times j xs → suc j < 2 ^ 16) → Leads g h.head xs 0 → IsWalk xs h → found ≡ g (reached h - 1) % 2 ^ 16
    → ((found ≡ 0) × (suc (place_of h) ≡ length xs)) ⊎ ((suc (place_of h) < length xs) × (found ≡ suc (slice_index xs (suc (place_of h)))))
walk-step g xs h found some small chain walk is =
    let long = Leads-some g h.head xs some chain in
    let r = reached-at g xs h 0 long chain walk in
    let here : reached h - 1 ≡ slice_index xs (place_of h) = omega arith in
    let within = walk.short in
    elim (cases_lt (suc (place_of h)) (length xs)) [
      | inl l ↦ inr (
        l,
        (
            let next = Leads-next g h.head xs 0 (place_of h) l chain in
            let few = small (slice_index xs (suc (place_of h))) (times-at (slice_index xs (suc (place_of h))) xs (suc (place_of h)) l refl) in
            let e : g (reached h - 1) ≡ suc (slice_index xs (suc (place_of h))) = ap g here ∙ next in
            is ∙ ap (λ (n : ℕ). n % 2 ^ 16) e ∙ below-mod (suc (slice_index xs (suc (place_of h)))) few),
      )
      | inr m ↦ (
          let all : suc (place_of h) ≡ length xs = omega arith in
          let e : g (reached h - 1) ≡ 0 = ap g here ∙ Leads-last g h.head xs 0 (place_of h) all chain in
          inl (is ∙ ap (λ (n : ℕ). n % 2 ^ 16) e, all))
    ]
  where
    below-mod : (a : ℕ) → a < 2 ^ 16 → a % 2 ^ 16 ≡ a
    below-mod a few = omega arith

pub walked-end : (h : Hand) (found : ℕ) → found ≡ 0 → walked_on h found ≡ arrived h
walked-end h found e = cond-true (found == 0) (arrived h) (further h found) (eq-eqb found 0 e)

pub walked-more : (h : Hand) (found : ℕ) → 1 ≤ found → walked_on h found ≡ further h found
walked-more h found some = cond-false (found == 0) (arrived h) (further h found) (ne_eqb found 0 (λ e. absurd (omega arith)))
