-- What a step tells the worker that makes it, and what it asks of it.
use Rattle.std.proofs.Common.{◌≡◌, ℕ, ◌<◌, Bool, false, List, ◌∷◌, length, get_or, Contains, refl, sym, ◌∙◌, subst, arith}
use mathlib.Core.Option.{Option, some}
use lib.ListN.{get_elem?}
use Rattle.slub_core.specs.declared.step.Step.{Step}
use Rattle.slub_core.specs.Setup.{Setup}
use Rattle.slub_core.specs.Words.{number_of, answer_of}
use Rattle.slub_core.specs.Local.{Local, Turn}
use Rattle.slub_core.specs.Steps.{step_of, advance_at, begun}
use Rattle.slub_core.specs.declared.guarded.Guarded.{Guarded}
use Rattle.slub_core.specs.declared.guarded.Guarded.TheVariants.{Nothing}
use Rattle.slub_core.specs.Values.{values_of, rooms_of}
use Rattle.slub_turns.specs.Fits.{HasRooms, PickFits, TurnFits, BeginFits, StepFits, change_of, after_answer}
use Rattle.slub_turns.specs.SettledFits.{SettledFits}
use Rattle.slub_turns.specs.Laws.{TurnsKeepReady, PicksFit}
use Rattle.slub_workers.specs.Begun.{Begun}
use Rattle.slub_workers.specs.Locks.{Move, Takes, Gives, move_of, locks_of}
use Rattle.slub_workers.specs.Standing.{Standing, begun_in, step_in, in_hand}
use Rattle.slub_workers.specs.Rule.{Stands, setup_in}
use Rattle.slub_workers.specs.Sits.{MayStand, MayGoOn}
use Rattle.slub_workers.proofs.Locals.{begun_locks}
use Rattle.slub_workers.proofs.LockSteps.{MovesLocks, advance_locks}
use Rattle.slub_workers.proofs.LockBounds.{MovesBelow, move_below}
use Rattle.slub_workers.proofs.SettledFits.{settled_fits_alike}
use Rattle.slub_workers.proofs.StepMoves.{IsHome}
use Rattle.slub_workers.proofs.StepTurn.{whole, IsAmong, local-is, worker-below, step-same, answered, answered-below, held-hand, answered-same}
use Rattle.slub_workers.proofs.StepStands.{found_at, move_at, among, taken, may_stand, slots_next}

-- ---- what is done at once

-- it fits what the locks guard in the whole machine
settled_whole : (m : Setup) (words : List ℕ) (guards : List Guarded) (all : List Standing) (l : Local)
    → HasRooms m (rooms_of guards) → ((refused : Bool) → TurnFits m refused (whole words guards all) l)
    → SettledFits m guards (after_answer m (whole words guards all) l)
settled_whole m words guards all l rooms fits =
    let first = (fits false).first in
    record {
      first = record { call = first.call; at_once = first.at_once guards (record { values = refl; rooms = rooms }) };
      second = λ refused after values same.
          let second = (fits refused).second in
          record {
            call = second.call;
            at_once = second.at_once after (record { values = values; rooms = subst (λ (rs : List ℕ). HasRooms m rs) (sym same) rooms });
          };
      last = λ refused. (fits refused).last;
    }

-- ---- of a worker that stands among the others

-- its turn is one that the bodies can make
pick-fits : (key : Begun) (words : List ℕ) (homes : List (Option Guarded)) (all : List Standing) (w : ℕ) (tries : Bool) (x : Standing) (fit : PicksFit)
    (st : Stands key words homes all) (here : get_elem? all w ≡ some x) → PickFits (setup_in key) (whole words st.guards all) (record { worker = w; refused = false; tries = tries })
pick-fits key words homes all w tries x fit st here = fit (setup_in key) (whole words st.guards all) (record { worker = w; refused = false; tries = tries }) st.ready.may (worker-below all w x here)

turn-fits : (key : Begun) (words : List ℕ) (homes : List (Option Guarded)) (all : List Standing) (w : ℕ) (tries : Bool) (x : Standing) (fit : PicksFit)
    (st : Stands key words homes all) (here : get_elem? all w ≡ some x) (refused : Bool) → TurnFits (setup_in key) refused (whole words st.guards all) (begun_in (setup_in key) tries x)
turn-fits key words homes all w tries x fit st here refused =
    let m = setup_in key in
    subst (λ (l : Local). TurnFits m refused (whole words st.guards all) (begun m tries l)) (local-is all w x here) ((pick-fits key words homes all w tries x fit st here).turn refused)

module _ (key : Begun) (words : List ℕ) (homes : List (Option Guarded)) (all : List Standing) (w : ℕ) (tries : Bool) (x : Standing) (keep : TurnsKeepReady) (fit : PicksFit)
    (st : Stands key words homes all) (slots : length homes ≡ 33) (here : get_elem? all w ≡ some x) (y : Guarded) (home : IsHome (move_at key words tries x) homes y) where
  settles : let m = setup_in key in let values = in_hand m tries x (found_at key words tries x) y in let l = begun_in m tries x in
      SettledFits m values (change_of (advance_at m (values_of values) l l.spot (answer_of (step_in m tries x).op (found_at key words tries x))) (values_of values))
  settles =
      let m = setup_in key in
      let guards = st.guards in
      let me : IsAmong m st.ready.may.opening words guards all w x = among key words homes all w tries x keep fit st slots here in
      let took = taken key words homes all w tries x keep fit st slots here y home in
      let l = begun_in m tries x in
      let v = values_of guards in
      let mine : List Guarded = in_hand m tries x (found_at key words tries x) y in
      let turn : Turn = answered me tries in
      let fits : SettledFits m guards (after_answer m (whole words guards all) l) = settled_whole m words guards all l st.ready.rooms (turn-fits key words homes all w tries x fit st here) in
      let P : Step → Type 0 = λ step. SettledFits m guards (change_of (advance_at m v l l.spot (answer_of step.op (get_or words (number_of m step.place) 0))) v) in
      let at_step : SettledFits m guards (change_of turn v) = subst P (sym (step-same me tries)) fits in
      let below : (lock : ℕ) → Contains (locks_of turn.local) lock → lock < length guards = λ lock has. let b = answered-below me tries lock has in let n = me.many in omega arith in
      let agree : (lock : ℕ) → Contains (locks_of turn.local) lock → get_or guards lock Nothing ≡ get_or mine lock Nothing =
      λ lock has. sym (held-hand me tries y took lock has) in
      let with_hand : SettledFits m mine (change_of turn (values_of mine)) =
      settled_fits_alike m guards mine turn below agree at_step in
      subst (λ (t : Turn). SettledFits m mine (change_of t (values_of mine))) (answered-same me tries y took) with_hand

  pub goes_on : MayGoOn key tries x (found_at key words tries x) y
  goes_on = record {
    settles = settles;
    stands = may_stand key words homes all w tries x keep fit st slots here y home;
    locks = slots_next key words homes all w tries x keep fit st slots here y home;
  }

-- ---- of a worker of which only this is known

module _ (key : Begun) (tries : Bool) (x : Standing) (keep : TurnsKeepReady) (fit : PicksFit) (may : MayStand key x) where
  below-of : (found : ℕ) → MovesBelow (move_of (step_in (setup_in key) tries x) found) 33
  below-of found =
      let m = setup_in key in
      let w = x.local.worker in
      let P : Local → Type 0 = λ l. MovesBelow (move_of (step_of m (values_of x.values) (begun m tries l)) found) 33 in
      subst P (local-is may.all w x may.here)
      (move_below m tries may.stands.ready.may.opening (whole may.words may.stands.guards may.all) w found (values_of x.values) may.stands.ready.may.coherent (worker-below may.all w x may.here))

  -- a lock that it gives is the one that it took last
  pub gives_last : (lock found : ℕ) → move_of (step_in (setup_in key) tries x) found ≡ Gives lock → (lock < 33) × ((more : List ℕ) × (locks_of x.local ≡ lock ∷ more))
  gives_last lock found gives =
      let m = setup_in key in
      let l = begun_in m tries x in
      let v = values_of x.values in
      let after = locks_of (advance_at m v l l.spot (answer_of (step_in m tries x).op found)).local in
      let moves : MovesLocks (Gives lock) (locks_of l) after = subst (λ (move : Move). MovesLocks move (locks_of l) after) gives (advance_locks m v l found) in
      (subst (λ (move : Move). MovesBelow move 33) gives (below-of found), (after, sym (begun_locks m tries x.local) ∙ moves.0))

  pub takes_below : (lock found : ℕ) → move_of (step_in (setup_in key) tries x) found ≡ Takes lock → lock < 33
  takes_below lock found takes = subst (λ (move : Move). MovesBelow move 33) takes (below-of found)

  -- what the functions ask that begin its call and make its step
  pub may_begin : BeginFits x.local x.local.spot × StepFits (setup_in key).step (begun_in (setup_in key) tries x) (begun_in (setup_in key) tries x).spot
  may_begin =
      let w = x.local.worker in (
        subst (λ (l : Local). BeginFits l l.spot) (local-is may.all w x may.here) (pick-fits key may.words may.homes may.all w tries x fit may.stands may.here).begin,
        (turn-fits key may.words may.homes may.all w tries x fit may.stands may.here false).step,
      )

pub room_in_hand : (key : Begun) (x : Standing) → MayStand key x → length x.values ≡ 33
room_in_hand key x may = may.stands.room x.local.worker x may.here
