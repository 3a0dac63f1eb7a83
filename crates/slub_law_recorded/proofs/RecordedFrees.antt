-- Turns in which each object is freed only while it lives free none twice.
use Rattle.std.proofs.Common.{◌≡◌, ℕ, ◌+◌, ◌<◌, ◌≤◌, Bool, true, false, not, ◌&&◌, ◌||◌, ◌⊎◌, inl, inr, List, [], ◌∷◌, refl, sym, ◌∙◌, nat_eq, arith, true≢false}
use Rattle.std.proofs.lemmas.Bool.{eq-eqb}
use Rattle.std.specs.Prelude.{All}
use Rattle.std.specs.List.{IsDistinct}
use Rattle.std.proofs.lemmas.List.Elements.{All-cons, All-nil, All-weaker, recursion_from_All}
use Rattle.std.proofs.lemmas.Map.Keys.{IsDistinct-cons}
use Rattle.std.proofs.lemmas.Bool.{eqb-true, ne_eqb}
use Rattle.slub_recorded.specs.declared.turns.Turn.{Turn}
use Rattle.slub_recorded.specs.declared.turns.Turn.TheVariants.{Alloc, Free}
use Rattle.slub_recorded.specs.Turns.{AreNext, lives_after}
use Rattle.slub_law_recorded.specs.Recorded.{frees}

-- an object lives, or is numbered above so many
abbrev pub IsAhead : (ℕ → Bool) → ℕ → ℕ → Type 0
IsAhead lives count n = (lives n ≡ true) ⊎ (count < n)

IsDistinct-nil : IsDistinct nat_eq []
unfolding IsDistinct
IsDistinct-nil = tt

-- what lives behind an allocation: its object, or another one that lived before
pub either : (a b : Bool) → (a || b) ≡ true → (a ≡ true) ⊎ ((a ≡ false) × (b ≡ true))
either true b is = inl refl
either false b is = inr (refl, is)

-- what lives behind a free: another object, which lived before
pub still : (a b : Bool) → (not a && b) ≡ true → (a ≡ false) × (b ≡ true)
still true b is = absurd (true≢false (sym is))
still false b is = (refl, is)

-- behind an allocation of the next object
behind_alloc : (lives : ℕ → Bool) (count cpu cache object : ℕ) → object ≡ count + 1 → (n : ℕ) → IsAhead (lives_after lives (Alloc cpu cache object)) (count + 1) n → IsAhead lives count n
behind_alloc lives count cpu cache object next n (inl live) = elim (either (nat_eq n object) (lives n) live) [
  | inl same ↦ inr (let e : n ≡ object = eqb-true n object same in omega (arith, e, next))
  | inr old ↦ inl old.1
]
behind_alloc lives count cpu cache object next n (inr above) = inr (omega (arith, above))

-- behind a free
behind_free : (lives : ℕ → Bool) (count cpu object n : ℕ) → IsAhead (lives_after lives (Free cpu object)) count n → IsAhead lives count n
behind_free lives count cpu object n (inl live) = inl (still (nat_eq n object) (lives n) live).1
behind_free lives count cpu object n (inr above) = inr above

flipped : (n m : ℕ) → nat_eq n m ≡ false → nat_eq m n ≡ false
flipped n m is = ne_eqb m n (λ same. true≢false (sym (eq-eqb n m (sym same)) ∙ is))

-- it is not freed again
other_free : (lives : ℕ → Bool) (count cpu object : ℕ) → object ≤ count → (n : ℕ) → IsAhead (lives_after lives (Free cpu object)) count n → nat_eq object n ≡ false
other_free lives count cpu object low n (inl live) = flipped n object (still (nat_eq n object) (lives n) live).0
other_free lives count cpu object low n (inr above) = ne_eqb object n (λ same. let never : ⊥ = omega (arith, low, above, same) in never)

low_behind : (lives : ℕ → Bool) (count cpu cache object : ℕ) → object ≡ count + 1 → ((n : ℕ) → lives n ≡ true → n ≤ count) → (n : ℕ) → lives_after lives (Alloc cpu cache object) n ≡ true → n ≤ count + 1
low_behind lives count cpu cache object next low n live = elim (either (nat_eq n object) (lives n) live) [
  | inl same ↦ let e : n ≡ object = eqb-true n object same in omega (arith, e, next)
  | inr old ↦ let l : n ≤ count = low n old.1 in omega (arith, l)
]

-- what turns free: each object once, of those that live before them or are allocated later
pub record AreApart (lives : ℕ → Bool) (count : ℕ) (objects : List ℕ) : Type 0 where
  pub once : IsDistinct nat_eq objects
  pub ahead : All (IsAhead lives count) objects

pub frees_apart : (turns : List Turn) (lives : ℕ → Bool) (count : ℕ) → AreNext lives count turns → ((n : ℕ) → lives n ≡ true → n ≤ count) → AreApart lives count (frees turns)
frees_apart [] lives count next low = record { once = IsDistinct-nil; ahead = All-nil (IsAhead lives count) }
frees_apart (Alloc cpu cache object ∷ turns) lives count next low =
    let rest = frees_apart turns (lives_after lives (Alloc cpu cache object)) (count + 1) next.1 (low_behind lives count cpu cache object next.0 low) in
    record {
      once = rest.once;
      ahead = All-weaker (IsAhead (lives_after lives (Alloc cpu cache object)) (count + 1)) (IsAhead lives count) (behind_alloc lives count cpu cache object next.0) (frees turns) rest.ahead;
    }
frees_apart (Free cpu object ∷ turns) lives count next low =
    let Later : ℕ → Type 0 = IsAhead (lives_after lives (Free cpu object)) count in
    let rest = frees_apart turns (lives_after lives (Free cpu object)) count next.1 (λ n live. low n (still (nat_eq n object) (lives n) live).1) in
    let Other : ℕ → Type 0 = λ n. nat_eq object n ≡ false in
    record {
      once = IsDistinct-cons nat_eq object (frees turns) (recursion_from_All Other (frees turns) (All-weaker Later Other (other_free lives count cpu object (low object next.0)) (frees turns) rest.ahead)) rest.once;
      ahead = All-cons (IsAhead lives count) object (frees turns) (inl next.0) (All-weaker Later (IsAhead lives count) (behind_free lives count cpu object) (frees turns) rest.ahead);
    }
