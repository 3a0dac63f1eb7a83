-- A worker at its seat, and what a step tells it.
use Rattle.std.specs.Prelude.{◌≡◌, ℕ, Bool, ◌||◌, List, [], ◌∷◌, drop}
use mathlib.Core.Option.{some}
use mathlib.Core.Option as core
use lib.ListN.{get_elem?}
use Rattle.atomic_table.specs.Table.{Me, Step as TableStep}
use Rattle.slub_core.specs.declared.step.Answer.{Answer}
use Rattle.slub_core.specs.declared.step.Step.{Step}
use Rattle.slub_core.specs.Words.{answer_of}
use Rattle.slub_core.specs.Steps.{advance_at}
use Rattle.slub_core.specs.declared.guarded.Guarded.{Guarded}
use Rattle.slub_core.specs.declared.guarded.Guarded.TheVariants.{Nothing}
use Rattle.slub_core.specs.Values.{values_of}
use Rattle.slub_turns.specs.Fits.{change_of}
use Rattle.slub_turns.specs.SettledFits.{SettledFits}
use Rattle.slub_workers.specs.Begun.{Begun}
use Rattle.slub_workers.specs.Locks.{Move, Stays, Takes, Gives, locks_of, move_of, slots_out}
use Rattle.slub_workers.specs.Standing.{Standing, Fork, branch, counted, begun_in, step_in, in_hand, after_turn, fork_after}
use Rattle.slub_workers.specs.Rule.{Stands, setup_in}

-- there is a machine of the round in which it stands so
pub record MayStand (key : Begun) (x : Standing) : Type 0 where
  pub words : List ℕ
  pub homes : List (core.Option Guarded)
  pub all : List Standing
  pub stands : Stands key words homes all
  pub here : get_elem? all x.local.worker ≡ some x

-- a seat knows of one worker alone; which branch it is, only the worker knows. The slots of its
-- locks are out with the seat, and what they guard is in its hand
pub record Sits (me : Me Guarded (List Fork)) (x : Standing) : Type 0 where
  pub fork : Fork
  pub refused : Bool
  pub view : me.0 ≡ fork ∷ []
  pub here : x ≡ branch refused fork
  pub slots : me.1 ≡ slots_out (locks_of x.local)

-- the slots that are out with a seat after a step; `value` is what a lock guards that is taken
abbrev pub slots_after : Move → Guarded → List (ℕ × Guarded) → List (ℕ × Guarded)
slots_after Stays value out = out
slots_after (Takes lock) value out = (lock, value) ∷ out
slots_after (Gives lock) value out = drop 1 out

-- what is done at once after the answer fits, and so does all that a worker does next
pub record MayGoOn (key : Begun) (tries : Bool) (x : Standing) (found : ℕ) (value : Guarded)
    : Type 0 where
  pub settles : let m = setup_in key in
      let values = in_hand m tries x found value in
      let l = begun_in m tries x in
      SettledFits m values (change_of
      (advance_at m (values_of values) l l.spot (answer_of (step_in m tries x).op found))
      (values_of values))
  pub stands : (refused : Bool)
      → MayStand key (after_turn (setup_in key) tries x found value refused)
  -- the slots of its locks are then those that it had, with the one that it took or without the
  -- one that it gave
  pub locks : (refused : Bool)
      → let m = setup_in key in
      slots_out (locks_of (after_turn m tries x found value refused).local)
      ≡ slots_after (move_of (step_in m tries x) found) Nothing (slots_out (locks_of x.local))

-- the step of the worker that stands so was made, and found this
pub record Told (key : Begun) (tries : Bool) (x : Standing) (found : ℕ)
    (before after : Me Guarded (List Fork)) : Type 0 where
  pub value : Guarded
  pub view : after.0 ≡ fork_after (setup_in key) tries x found value ∷ []
  pub slots : after.1
      ≡ slots_after (move_of (step_in (setup_in key) tries x) found) value before.1
  pub goes_on : MayGoOn key tries x found value
  pub number : (refused : Bool)
      → (after_turn (setup_in key) tries x found value refused).local.worker ≡ x.local.worker

abbrev pub told
    : Begun → Bool → Standing → TableStep Guarded → Me Guarded (List Fork) → ℕ
    → Me Guarded (List Fork) → Type 0
told key tries x step before found after = Told key tries x found before after

-- the same of a store, which doesn't find what was there
abbrev pub told_stored
    : Begun → Bool → Standing → TableStep Guarded → Me Guarded (List Fork) → ℕ
    → Me Guarded (List Fork) → Type 0
told_stored key tries x step before stored after =
    (found : ℕ) × Told key tries x found before after

-- the same of a step outside of the table, where each word is 0
abbrev pub told_outside
    : Begun → Bool → Standing → TableStep Guarded → Me Guarded (List Fork) → ℕ
    → Me Guarded (List Fork) → Type 0
told_outside key tries x step before found after = Told key tries x 0 before after

-- a worker that sits so is about to make this step
pub record Steps (key : Begun) (tries : Bool) (x : Standing) (me : Me Guarded (List Fork))
    (values : List Guarded) (step : Step) : Type 0 where
  pub sits : Sits me x
  pub may : MayStand key x
  pub hand : values ≡ x.values
  pub is : step ≡ step_in (setup_in key) tries x

-- the same, once what a lock guards is in the worker's hand or in its slot
pub record Made (key : Begun) (tries : Bool) (x : Standing) (me : Me Guarded (List Fork))
    (values : List Guarded) (answer : Answer) : Type 0 where
  pub found : ℕ
  pub value : Guarded
  pub answer_is : answer ≡ answer_of (step_in (setup_in key) tries x).op found
  pub values_are : values ≡ in_hand (setup_in key) tries x found value
  pub view : me.0 ≡ fork_after (setup_in key) tries x found value ∷ []
  pub slots : (refused : Bool)
      → me.1
      ≡ slots_out (locks_of (after_turn (setup_in key) tries x found value refused).local)
  pub goes_on : MayGoOn key tries x found value
  pub number : (refused : Bool)
      → (after_turn (setup_in key) tries x found value refused).local.worker ≡ x.local.worker

-- the turn of a worker that stood so was made: the step that it called for found this in its word,
-- and was answered so; and the worker stands where the turn leads that finds this there. A call
-- that began with it is a try where `tries` says so
pub record HasTurned (key : Begun) (tries : Bool) (x : Standing) (made : Step × Answer)
    (after : Standing) : Type 0 where
  pub found : ℕ
  -- what a lock guards that is taken by it
  pub value : Guarded
  -- whether memory was refused in it
  pub refused : Bool
  pub step : made.0 ≡ step_in (setup_in key) tries x
  pub answer : made.1 ≡ answer_of made.0.op found
  pub leads : after ≡ after_turn (setup_in key) tries x found value refused

-- the worker that sat and stood so has begun its call, and its step is counted, but not yet made
pub record HasBegun (key : Begun) (tries : Bool) (x : Standing) (me : Me Guarded (List Fork))
    (after : Standing) : Type 0 where
  pub sits : Sits me x
  pub may : MayStand key x
  pub local : after.local ≡ begun_in (setup_in key) tries x
  pub values : after.values ≡ x.values
  pub tried : after.tried ≡ (x.tried || tries)
  pub steps : after.steps ≡ counted x.steps 1

-- the worker that stood so has made its turn, and may make the next
pub record HasMade (key : Begun) (tries : Bool) (x : Standing) (me : Me Guarded (List Fork))
    (made : Step × Answer) (after : Standing) : Type 0 where
  pub sits : Sits me after
  pub may : MayStand key after
  pub number : after.local.worker ≡ x.local.worker
  pub turned : HasTurned key tries x made after
