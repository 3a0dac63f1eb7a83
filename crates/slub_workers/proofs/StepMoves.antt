-- What a step makes of the locks of a worker, of what it has in hand, and of what lies at home.
use Rattle.std.proofs.Common.{◌≡◌, ◌≢◌, ℕ, zero, suc, ◌<◌, ◌⊎◌, List, ◌∷◌, length, get_or, set, Contains, refl, sym, ap, ◌∙◌, subst, arith, inl, inr}
use Rattle.std.proofs.lemmas.Bool.{cases_eq}
use Rattle.std.proofs.lemmas.List.{length-set, get_or-set_same, get_or-set_other}
use mathlib.Core.Option.{Option, some, none}
use lib.ListN.{get_elem?}
use Rattle.atomic_table.proofs.Lists.{set_here, set_else}
use Rattle.slub_core.specs.declared.guarded.Guarded.{Guarded}
use Rattle.slub_core.specs.declared.guarded.Guarded.TheVariants.{Nothing}
use Rattle.slub_workers.specs.Locks.{Move, Stays, Takes, Gives, values_moved, value_given}
use Rattle.slub_workers.proofs.LockSteps.{MovesLocks}
use Rattle.slub_workers.proofs.LockBounds.{MovesBelow}

-- ---- a lock before others

cons_cases : (k : ℕ) (xs : List ℕ) (lock : ℕ) → Contains (k ∷ xs) lock → (lock ≡ k) ⊎ Contains xs lock
cons_cases k xs lock has = at_place has.0 has.1 has.2
  where
    at_place : (i : ℕ) → i < length (k ∷ xs) → get_or (k ∷ xs) i lock ≡ lock → (lock ≡ k) ⊎ Contains xs lock
    at_place zero below is = inl (sym is)
    at_place (suc i) below is = inr (i, omega arith, is)

cons_first : (k : ℕ) (xs : List ℕ) → Contains (k ∷ xs) k
cons_first k xs = (0, omega arith, refl)

cons_more : (k : ℕ) (xs : List ℕ) (lock : ℕ) → Contains xs lock → Contains (k ∷ xs) lock
cons_more k xs lock has = (suc has.0, let below = has.1 in omega arith, has.2)

-- the other way round than a list that is the same
moved_to : (before after : List ℕ) (lock : ℕ) → after ≡ before → Contains after lock → Contains before lock
moved_to before after lock is has = subst (λ (xs : List ℕ). Contains xs lock) is has

-- ---- locks

-- below a bound
pub moved-below : (move : Move) (n : ℕ) (before after : List ℕ) → MovesLocks move before after → MovesBelow move n
    → ((lock : ℕ) → Contains before lock → lock < n) → (lock : ℕ) → Contains after lock → lock < n
moved-below Stays n before after moves below all lock has = all lock (moved_to before after lock moves has)
moved-below (Takes k) n before after moves below all lock has = elim (cons_cases k before lock (moved_to (k ∷ before) after lock moves.0 has)) [
  | inl is ↦ subst (λ (j : ℕ). j < n) (sym is) below
  | inr old ↦ all lock old
]
moved-below (Gives k) n before after moves below all lock has = all lock (moved_to before (k ∷ after) lock (sym moves.0) (cons_more k after lock has))

-- what it had before it has, but for the lock that it took
pub moved-before : (move : Move) (before after : List ℕ) → MovesLocks move before after → (lock : ℕ) → Contains after lock
    → Contains before lock ⊎ (move ≡ Takes lock)
moved-before Stays before after moves lock has = inl (moved_to before after lock moves has)
moved-before (Takes k) before after moves lock has = elim (cons_cases k before lock (moved_to (k ∷ before) after lock moves.0 has)) [
  | inl is ↦ inr (ap Takes (sym is))
  | inr old ↦ inl old
]
moved-before (Gives k) before after moves lock has = inl (moved_to before (k ∷ after) lock (sym moves.0) (cons_more k after lock has))

-- ---- what it has in hand

-- by the number of the lock, as it is guarded
abbrev pub AreInHand : List ℕ → List Guarded → List Guarded → Type 0
AreInHand locks values guards = (lock : ℕ) → Contains locks lock → get_or values lock Nothing ≡ get_or guards lock Nothing

-- of a lock that is taken
abbrev pub IsTaken : Move → List Guarded → Guarded → Type 0
IsTaken Stays guards y = Unit {0}
IsTaken (Takes lock) guards y = y ≡ get_or guards lock Nothing
IsTaken (Gives lock) guards y = Unit {0}

pub moved-length : (move : Move) (y : Guarded) (values : List Guarded) → length (values_moved move y values) ≡ length values
moved-length Stays y values = refl
moved-length (Takes k) y values = length-set values k y
moved-length (Gives k) y values = length-set values k Nothing

pub moved-hand : (move : Move) (y : Guarded) (values guards : List Guarded) (before after : List ℕ) → MovesLocks move before after
    → MovesBelow move (length values) → IsTaken move guards y → AreInHand before values guards → AreInHand after (values_moved move y values) guards
moved-hand Stays y values guards before after moves below taken hand lock has = hand lock (moved_to before after lock moves has)
moved-hand (Takes k) y values guards before after moves below taken hand lock has = elim (cons_cases k before lock (moved_to (k ∷ before) after lock moves.0 has)) [
  | inl is ↦ subst (λ (j : ℕ). get_or (set values k y) j Nothing ≡ get_or guards j Nothing) (sym is) (get_or-set_same values k y Nothing below ∙ taken)
  | inr old ↦ get_or-set_other values k lock y Nothing (λ is. moves.1 (subst (λ (j : ℕ). Contains before j) is old)) ∙ hand lock old
]
moved-hand (Gives k) y values guards before after moves below taken hand lock has =
    get_or-set_other values k lock Nothing Nothing (λ is. moves.1 (subst (λ (j : ℕ). Contains after j) is has))
    ∙ hand lock (moved_to before (k ∷ after) lock (sym moves.0) (cons_more k after lock has))

-- ---- what lies at home

-- after the move of a worker that had these values in hand
abbrev pub homes_moved : Move → List Guarded → List (Option Guarded) → List (Option Guarded)
homes_moved Stays values homes = homes
homes_moved (Takes lock) values homes = set homes lock none
homes_moved (Gives lock) values homes = set homes lock (some (value_given lock values))

-- what a lock guards that is taken lies there
abbrev pub IsHome : Move → List (Option Guarded) → Guarded → Type 0
IsHome Stays homes y = Unit {0}
IsHome (Takes lock) homes y = get_elem? homes lock ≡ some (some y)
IsHome (Gives lock) homes y = Unit {0}

-- and so does what a lock guards that the worker hasn't, nor any other has
pub moved-home : (move : Move) (values guards : List Guarded) (homes : List (Option Guarded)) (before after : List ℕ) (lock : ℕ) → MovesLocks move before after
    → lock < length homes → AreInHand before values guards → ¬ Contains after lock
    → (¬ Contains before lock → get_elem? homes lock ≡ some (some (get_or guards lock Nothing)))
    → get_elem? (homes_moved move values homes) lock ≡ some (some (get_or guards lock Nothing))
moved-home Stays values guards homes before after lock moves below hand none_has old = old (λ has. none_has (moved_to after before lock (sym moves) has))
moved-home (Takes k) values guards homes before after lock moves below hand none_has old =
    let back : Contains (k ∷ before) lock → ⊥ = λ has. none_has (moved_to after (k ∷ before) lock (sym moves.0) has) in
    let apart : lock ≢ k = λ is. back (subst (λ (j : ℕ). Contains (k ∷ before) j) (sym is) (cons_first k before)) in
    set_else homes k lock none apart ∙ old (λ has. back (cons_more k before lock has))
moved-home (Gives k) values guards homes before after lock moves below hand none_has old = elim (cases_eq lock k) [
  | inl is ↦
      let mine : get_or values k Nothing ≡ get_or guards k Nothing = hand k (moved_to before (k ∷ after) k (sym moves.0) (cons_first k after)) in
      subst (λ (j : ℕ). get_elem? (set homes k (some (value_given k values))) j ≡ some (some (get_or guards j Nothing))) (sym is)
      (set_here homes k (some (value_given k values)) (subst (λ (j : ℕ). j < length homes) is below) ∙ ap (λ (g : Guarded). some (some g)) mine)
  | inr apart ↦ set_else homes k lock (some (value_given k values)) apart ∙ old (λ has. elim (cons_cases k after lock (moved_to (k ∷ after) before lock moves.0 has)) [
    | inl is ↦ apart is
    | inr more ↦ none_has more
  ])
]
