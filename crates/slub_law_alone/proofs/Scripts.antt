-- A worker in the midst of a round: the events that it has to come, and what it was told. The replies that take no step it has already.
use Rattle.std.proofs.Common.{◌≡◌, ◌≢◌, ℕ, suc, ◌≤◌, cond, eqb, List, [], ◌∷◌, drop, length, map, get_or, Option, Some, None, refl, ap, sym, ◌∙◌, arith}
use Rattle.std.proofs.lemmas.Bool.{eq-eqb, ne_eqb}
use Rattle.slub_trace.specs.declared.reply.Reply.{Reply}
use Rattle.slub_cache_create.specs.Table.{Table}
use Rattle.slub_trace.specs.declared.event.Event.{Event}
use Rattle.slub_trace.specs.declared.event.Round.{Round}
use Rattle.slub_core.specs.declared.call.Call.{Call}
use Rattle.slub_core.specs.declared.local.Answered.{Answered}
use Rattle.slub_core.specs.declared.local.Known.{Known}
use Rattle.slub_core.specs.declared.spot.Spot.{Spot}
use Rattle.slub_core.specs.declared.spot.Spot.TheVariants.{Between}
use Rattle.slub_core.specs.Calls.{call_kind, call_place}
use Rattle.slub_core.specs.Accounted.{known_of, place_of}
use Rattle.slub_core.specs.Local.{Local, answered, nobody}
use Rattle.slub_core.specs.Setup.{Setup}
use Rattle.slub_core.specs.Steps.{or_step, rested, rested_at, rested_with, told_at_once}
use Rattle.slub_calls.specs.Calls.{calls_for, events_by, rooms_for}
use Rattle.slub_law_alone.proofs.Workers.{rested_calls}
use Rattle.slub_law_alone.proofs.SerialSteps.{rooms_of}
use Rattle.slub_law_alone.proofs.SerialTurns.{rested-keeps}

-- ---- replies that take no step

module _ (m : Setup) where
  with-spot : (calls : List Call) (l : Local) → (rested_with m calls l).spot ≡ l.spot
  with-spot [] l = refl
  with-spot (call ∷ calls) l = by (told_at_once m (get_or l.known (call_place call) nobody) call (call_kind call)) (λ reply. with-spot calls (answered l reply))
    where
      by : (r : Option Reply) → ((reply : Reply) → (rested_with m calls (answered l reply)).spot ≡ l.spot) → (or_step l (λ reply. rested_with m calls (answered l reply)) r).spot ≡ l.spot
      by None more = refl
      by (Some reply) more = more reply

  at-spot : (l : Local) (s : Spot) → (rested_at m l s).spot ≡ l.spot
  at-spot l Between = with-spot l.todo l
  at-spot l _ = refl

  pub rested-spot : (l : Local) → (rested m l).spot ≡ l.spot
  rested-spot l = at-spot l l.spot

  with-few : (calls : List Call) (l : Local) → length (rested_with m calls l).todo ≤ length l.todo
  with-few [] l = omega arith
  with-few (call ∷ calls) l = by (told_at_once m (get_or l.known (call_place call) nobody) call (call_kind call)) (λ reply. with-few calls (answered l reply))
    where
      one-less : (xs : List Call) → length (drop 1 xs) ≤ length xs
      one-less [] = omega arith
      one-less (x ∷ xs) = omega arith

      by : (r : Option Reply) → ((reply : Reply) → length (rested_with m calls (answered l reply)).todo ≤ length (drop 1 l.todo)) → length (or_step l (λ reply. rested_with m calls (answered l reply)) r).todo ≤ length l.todo
      by None more = omega arith
      by (Some reply) more = let rest = more reply in let less = one-less l.todo in omega (arith, rest, less)

  at-few : (l : Local) (s : Spot) → length (rested_at m l s).todo ≤ length l.todo
  at-few l Between = with-few l.todo l
  at-few l _ = omega arith

  -- no call comes to the others
  pub rested-few : (l : Local) → length (rested m l).todo ≤ length l.todo
  rested-few l = at-few l l.spot

  module _ (l : Local) (call : Call) (calls : List Call) (between : l.spot ≡ Between) (todo : l.todo ≡ call ∷ calls) where
    first : rested m l ≡ rested_with m (call ∷ calls) l
    first = ap (rested_at m l) between ∙ ap (λ calls. rested_with m calls l) todo

    -- a call that takes a step waits
    pub rested-step : told_at_once m (get_or l.known (call_place call) nobody) call (call_kind call) ≡ None → rested m l ≡ l
    rested-step none = first ∙ ap (or_step l (λ reply. rested_with m calls (answered l reply))) none

    -- one that takes none has its reply
    pub rested-on : (reply : Reply) → told_at_once m (get_or l.known (call_place call) nobody) call (call_kind call) ≡ Some reply → rested m l ≡ rested m (answered l reply)
    rested-on reply some =
        first ∙ ap (or_step l (λ reply. rested_with m calls (answered l reply))) some
        ∙ sym (ap (rested_at m (answered l reply)) between ∙ ap (λ todo. rested_with m (drop 1 todo) (answered l reply)) todo)

-- ---- places

abbrev pub place_in : List ℕ → ℕ → ℕ
place_in [] o = 0
place_in (x ∷ xs) o = cond (eqb x o) 0 (suc (place_in xs o))

pub place-in : (ks : List Known) (o : ℕ) → place_of ks o ≡ place_in (map (λ (k : Known). k.object) ks) o
place-in [] o = refl
place-in (k ∷ ks) o = ap (λ n. cond (eqb k.object o) 0 (suc n)) (place-in ks o)

-- ---- scripts

-- of the events of the round: `events` are to come, and `told` it was told, the last reply first
pub record HasScript (m : Setup) (table : Table) (round : Round) (x : ℕ) (events : List Event) (told : List Reply) (l : Local) : Type 0 where
  pub base : Local
  pub rested_is : l ≡ rested m base
  pub between : base.spot ≡ Between
  pub number : base.worker ≡ x
  pub rooms : rooms_of base ≡ map (λ (k : Known). k.object) (rooms_for (events_by x round.events))
  pub todo : base.todo ≡ calls_for table (rooms_for (events_by x round.events)) (events_by x events)
  pub told_is : map (λ (d : Answered). d.reply) base.done ≡ told

-- what is told of it after an event
abbrev pub told_after : Event → Reply → (ℕ → List Reply) → ℕ → List Reply
told_after event reply told x = cond (eqb event.worker x) (reply ∷ told x) (told x)

module _ (m : Setup) (table : Table) (round : Round) (x : ℕ) (events : List Event) where
  -- its number, and its place of an object
  module _ (told : List Reply) (l : Local) (has : HasScript m table round x events told l) where
    pub script-number : l.worker ≡ x
    script-number = ap (λ (l : Local). l.worker) has.rested_is ∙ (rested-keeps m has.base).0 ∙ has.number

    pub script-spot : l.spot ≡ Between
    script-spot = ap (λ (l : Local). l.spot) has.rested_is ∙ rested-spot m has.base ∙ has.between

    pub script-same : l.known ≡ has.base.known
    script-same = ap (λ (l : Local). l.known) (has.rested_is ∙ (rested_calls m has.base has.between).same)

    pub script-place : (o : ℕ) → place_of l.known o ≡ place_of (rooms_for (events_by x round.events)) o
    script-place o =
        ap (λ ks. place_of ks o) script-same ∙ place-in has.base.known o ∙ ap (λ xs. place_in xs o) has.rooms ∙ sym (place-in (rooms_for (events_by x round.events)) o)

    pub script-known : (o : ℕ) → known_of l.known o ≡ get_or has.base.known (place_of (rooms_for (events_by x round.events)) o) nobody
    script-known o =
        ap (λ ks. known_of ks o) script-same
        ∙ ap (λ p. get_or has.base.known p nobody) (place-in has.base.known o ∙ ap (λ xs. place_in xs o) has.rooms ∙ sym (place-in (rooms_for (events_by x round.events)) o))

  -- its own event comes next
  pub script-calls : (event : Event) (told : List Reply) (l : Local) → event.worker ≡ x → (has : HasScript m table round x (event ∷ events) told l) → has.base.todo ≡ calls_for table (rooms_for (events_by x round.events)) (event ∷ events_by x events)
  script-calls event told l mine has = has.todo ∙ ap (λ b. calls_for table (rooms_for (events_by x round.events)) (cond b (event ∷ events_by x events) (events_by x events))) (eq-eqb event.worker x mine)

  module _ (event : Event) (reply : Reply) (told : ℕ → List Reply) where
    -- an event of another worker
    pub script-other : (l next : Local) → event.worker ≢ x → next ≡ l → HasScript m table round x (event ∷ events) (told x) l → HasScript m table round x events (told_after event reply told x) next
    script-other l next apart same has =
        let other = ne_eqb event.worker x apart in
        record {
          base = has.base;
          rested_is = same ∙ has.rested_is;
          between = has.between;
          number = has.number;
          rooms = has.rooms;
          todo = has.todo ∙ ap (λ b. calls_for table (rooms_for (events_by x round.events)) (cond b (event ∷ events_by x events) (events_by x events))) other;
          told_is = has.told_is ∙ sym (ap (λ b. cond b (reply ∷ told x) (told x)) other);
        }

    -- and of this one
    pub script-next : (next base : Local) → event.worker ≡ x → next ≡ rested m base → base.spot ≡ Between → base.worker ≡ x → rooms_of base ≡ map (λ (k : Known). k.object) (rooms_for (events_by x round.events))
        → base.todo ≡ calls_for table (rooms_for (events_by x round.events)) (events_by x events) → map (λ (d : Answered). d.reply) base.done ≡ reply ∷ told x → HasScript m table round x events (told_after event reply told x) next
    script-next next base mine rested_is between number rooms todo told_is = record {
      base = base;
      rested_is = rested_is;
      between = between;
      number = number;
      rooms = rooms;
      todo = todo;
      told_is = told_is ∙ sym (ap (λ b. cond b (reply ∷ told x) (told x)) (eq-eqb event.worker x mine));
    }
