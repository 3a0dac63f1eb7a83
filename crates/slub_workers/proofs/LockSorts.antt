-- By which steps locks are taken and given back, and that they are locks of the machine.
use Rattle.std.proofs.Common.{◌≡◌, ℕ, ◌==◌, ◌⊎◌, Bool, true, false, ◌||◌, cond, Contains, refl, sym, ◌∙◌, inl, inr}
use Rattle.std.proofs.lemmas.Bool.{false≢true, cases_eq, ne_eqb}
use Rattle.slub_core.specs.declared.step.Step.{Step}
use Rattle.slub_core.specs.declared.spot.Spot.{Spot}
use Rattle.slub_core.specs.declared.spot.Spot.TheVariants.{Between, InAlloc, InPutAway, InDiscard, InPutOnList, InFree, InMoveSet, InOffline, InTrim, InChecked}
use Rattle.slub_core.specs.declared.spot.AllocSpot.TheVariants.{LockNode, GiveNode, LockPool, GivePool, GiveDry}
use Rattle.slub_core.specs.declared.spot.PutAwaySpot.TheVariants.{LockAway, GiveAway}
use Rattle.slub_core.specs.declared.spot.DiscardSpot.TheVariants.{LockDiscard, GiveDiscard}
use Rattle.slub_core.specs.declared.spot.PutOnListSpot.TheVariants.{LoadList}
use Rattle.slub_core.specs.declared.spot.OfflineSpot.TheVariants.{LoadCurrent}
use Rattle.slub_core.specs.declared.spot.FreeSpot.TheVariants.{TakeBoard, LockFree, GoBack, GiveFree}
use Rattle.slub_core.specs.declared.spot.MoveSetSpot.TheVariants.{LockMove, GiveMove}
use Rattle.slub_core.specs.declared.spot.TrimSpot.TheVariants.{LockTrim, GiveTrim}
use Rattle.slub_core.specs.declared.spot.CheckedSpot.TheVariants.{LockChecked, LockRun, GiveRun, GiveChecked}
use Rattle.slub_core.specs.Setup.{Setup, node_lock, pool_lock}
use Rattle.slub_core.specs.World.{LockValue}
use Rattle.slub_core.specs.Local.{Local}
use Rattle.slub_core.specs.Ops.{take_lock, give_lock}
use Rattle.slub_core.specs.Spots.{has_node, in_plain, in_checked}
use Rattle.slub_core.specs.Steps.{step_at, step_of}
use Rattle.slub_workers.specs.Locks.{Move, Stays, Takes, Gives, locks_of, move_of}
use Rattle.slub_workers.proofs.Locals.{has_cases}

-- ---- which step

-- the step by what it does
abbrev pub IsStepFor : Local → Move → Step → ℕ → Type 0
IsStepFor l Stays step found = Unit {0}
IsStepFor l (Takes lock) step found = (step ≡ take_lock l lock) × (found ≡ 0)
IsStepFor l (Gives lock) step found = step ≡ give_lock lock

-- the cache of the call is one of the machine's
abbrev pub in_call : Spot → Bool
in_call s = in_plain s || in_checked s

-- the lock is the node lock of the call's cache, or the pool's
abbrev pub IsLockFor : Spot → ℕ → ℕ → Type 0
IsLockFor s cache lock = ((in_call s ≡ true) × (lock ≡ node_lock cache)) ⊎ (lock ≡ pool_lock)

-- what a step is that its spot calls for
data Sort (l : Local) (s : Spot) (step : Step) : Type 0 where
  Other : ((found : ℕ) → move_of step found ≡ Stays) → Sort l s step
  Take : (lock : ℕ) → IsLockFor s l.cache lock → step ≡ take_lock l lock → Sort l s step
  Give : (lock : ℕ) → IsLockFor s l.cache lock → step ≡ give_lock lock → Sort l s step

sort_at : (m : Setup) (v : ℕ → LockValue) (l : Local) (s : Spot) → Sort l s (step_at m v l s)
sort_at m v l (InAlloc LockNode) = Take (node_lock l.cache) (inl (refl, refl)) refl
sort_at m v l (InAlloc GiveNode) = Give (node_lock l.cache) (inl (refl, refl)) refl
sort_at m v l (InAlloc LockPool) = Take pool_lock (inr refl) refl
sort_at m v l (InAlloc GivePool) = Give pool_lock (inr refl) refl
sort_at m v l (InAlloc GiveDry) = Give pool_lock (inr refl) refl
sort_at m v l (InAlloc s) = Other (λ found. refl)
sort_at m v l (InPutAway LockAway away) = Take (node_lock l.cache) (inl (refl, refl)) refl
sort_at m v l (InPutAway GiveAway away) = Give (node_lock l.cache) (inl (refl, refl)) refl
sort_at m v l (InPutAway s away) = Other (λ found. refl)
sort_at m v l (InDiscard LockDiscard discard) = Take pool_lock (inr refl) refl
sort_at m v l (InDiscard GiveDiscard discard) = Give pool_lock (inr refl) refl
sort_at m v l (InDiscard s discard) = Other (λ found. refl)
sort_at m v l (InPutOnList LoadList put) = Other (λ found. refl)
sort_at m v l (InPutOnList s put) = Other (λ found. refl)
sort_at m v l (InFree LockFree) = Take (node_lock l.cache) (inl (refl, refl)) refl
sort_at m v l (InFree GoBack) = Give (node_lock l.cache) (inl (refl, refl)) refl
sort_at m v l (InFree GiveFree) = Give (node_lock l.cache) (inl (refl, refl)) refl
sort_at m v l (InFree s) = Other (λ found. refl)
sort_at m v l (InMoveSet LockMove move) = Take (node_lock l.cache) (inl (refl, refl)) refl
sort_at m v l (InMoveSet GiveMove move) = Give (node_lock l.cache) (inl (refl, refl)) refl
sort_at m v l (InMoveSet s move) = Other (λ found. refl)
sort_at m v l (InOffline LoadCurrent sweep) = Other (λ found. refl)
sort_at m v l (InOffline s sweep) = Other (λ found. refl)
sort_at m v l (InTrim LockTrim) = Take (node_lock l.cache) (inl (refl, refl)) refl
sort_at m v l (InTrim GiveTrim) = Give (node_lock l.cache) (inl (refl, refl)) refl
sort_at m v l (InTrim s) = Other (λ found. refl)
sort_at m v l (InChecked LockChecked kind) = Take (node_lock l.cache) (inl (refl, refl)) refl
sort_at m v l (InChecked GiveChecked kind) = Give (node_lock l.cache) (inl (refl, refl)) refl
sort_at m v l (InChecked LockRun kind) = Take pool_lock (inr refl) refl
sort_at m v l (InChecked GiveRun kind) = Give pool_lock (inr refl) refl
sort_at m v l (InChecked s kind) = Other (λ found. refl)
sort_at m v l s = Other (λ found. refl)

-- of a lock that is taken, the word is 0; it stays where it isn't
taken_is : (l : Local) (lock found : ℕ) (b : Bool) → (b ≡ true → found ≡ 0) → IsStepFor l (cond b (Takes lock) Stays) (take_lock l lock) found
taken_is l lock found true zero = (refl, zero refl)
taken_is l lock found false zero = tt

is_zero : (found : ℕ) → (found == 0) ≡ true → found ≡ 0
is_zero found is = elim (cases_eq found 0) [
  | inl e ↦ e
  | inr d ↦ absurd (false≢true (sym (ne_eqb found 0 d) ∙ is))
]

by_sort : (l : Local) (s : Spot) (step : Step) (found : ℕ) → Sort l s step → IsStepFor l (move_of step found) step found
by_sort l s step found (Other stays) = rw (stays found) tt
by_sort l s step found (Take lock for is) = rw is (taken_is l lock found (found == 0) (is_zero found))
by_sort l s step found (Give lock for is) = rw is refl

pub step_is : (m : Setup) (v : ℕ → LockValue) (l : Local) (found : ℕ) → IsStepFor l (move_of (step_of m v l) found) (step_of m v l) found
step_is m v l found = by_sort l l.spot (step_of m v l) found (sort_at m v l l.spot)

-- ---- which lock

abbrev pub MovesLockFor : Local → Move → Type 0
MovesLockFor l Stays = Unit {0}
MovesLockFor l (Takes lock) = IsLockFor l.spot l.cache lock
MovesLockFor l (Gives lock) = IsLockFor l.spot l.cache lock

taken_for : (l : Local) (lock : ℕ) (b : Bool) → IsLockFor l.spot l.cache lock → MovesLockFor l (cond b (Takes lock) Stays)
taken_for l lock true for = for
taken_for l lock false for = tt

lock_by_sort : (l : Local) (step : Step) (found : ℕ) → Sort l l.spot step → MovesLockFor l (move_of step found)
lock_by_sort l step found (Other stays) = rw (stays found) tt
lock_by_sort l step found (Take lock for is) = rw is (taken_for l lock (found == 0) for)
lock_by_sort l step found (Give lock for is) = rw is for

pub lock_is : (m : Setup) (v : ℕ → LockValue) (l : Local) (found : ℕ) → MovesLockFor l (move_of (step_of m v l) found)
lock_is m v l found = lock_by_sort l (step_of m v l) found (sort_at m v l l.spot)

-- a worker that has a node lock is in a call on a cache
held_in_call : (s : Spot) → has_node s ≡ true → in_call s ≡ true
held_in_call Between has = absurd (false≢true has)
held_in_call (InFree TakeBoard) has = absurd (false≢true has)
held_in_call (InChecked s kind) has = refl
held_in_call s has = refl

pub has_lock_for : (l : Local) (lock : ℕ) → Contains (locks_of l) lock → IsLockFor l.spot l.cache lock
has_lock_for l lock w = elim (has_cases l lock w) [
  | inl has ↦ inl (held_in_call l.spot has.0, has.1)
  | inr has ↦ inr has.1
]
