-- What one event more says.
use Rattle.std.proofs.Common.{◌≡◌, ◌≢◌, ℕ, ◌+◌, ◌<◌, ◌≤◌, Bool, true, false, cond, Option, Some, None, List, [], ◌∷◌, ◌++◌, length, get_or, set, drop, refl, sym, ap, ◌∙◌, arith, subst, inl, inr, append_assoc, eqb, eq-eqb}
use Rattle.std.specs.List.{cons_option}
use Rattle.std.proofs.Math.Seq.{drop-append_seam}
use Rattle.std.proofs.lemmas.Bool.{cases_Bool, eqb-true, false≢true}
use Rattle.std.proofs.lemmas.List.{append-nil, get_or-set_same, get_or-set_other}
use Rattle.std.proofs.lemmas.List.Elements.{filter-append, filter_map-append}
use Rattle.slub_trace.specs.declared.event.Event.{Event}
use Rattle.slub_trace.specs.Sound.{allocated, objects_of}
use Rattle.slub_trace_reader.specs.Kept.{AreHeld}
use Rattle.slub_trace_reader.specs.Load.{freed, freed_of, events_of, event_behind, event_of, held_by, is_free}

-- ---- lists of objects

pub objects_append : (events more : List Event) → objects_of (events ++ more) ≡ objects_of events ++ objects_of more
objects_append events more = filter_map-append (λ (event : Event). allocated event.act) events more

pub freed_append : (events more : List Event) → freed_of (events ++ more) ≡ freed_of events ++ freed_of more
freed_append events more = filter_map-append (λ (event : Event). freed event.act) events more

pub events_append : (worker : ℕ) (events more : List Event) → events_of worker (events ++ more) ≡ events_of worker events ++ events_of worker more
events_append worker events more = filter-append (λ (event : Event). eqb event.worker worker) events more

one_or_none : (o : Option ℕ) (xs : List ℕ) → length (cons_option o xs) ≤ length xs + 1
one_or_none None xs = omega arith
one_or_none (Some n) xs = omega arith

-- no event allocates two objects
pub few_objects : (events : List Event) → length (objects_of events) ≤ length events
few_objects [] = omega arith
few_objects (e ∷ events) = omega (arith, one_or_none (allocated e.act) (objects_of events), few_objects events)

-- ---- who holds what

-- a worker that has freed what it allocated but for these, in the order of allocation
abbrev pub Holds : ℕ → List Event → List ℕ → Type 0
Holds worker events held = objects_of (events_of worker events) ≡ freed_of (events_of worker events) ++ held

-- holds these
pub holds_held : (worker : ℕ) (events : List Event) (held : List ℕ) → Holds worker events held → held_by worker events ≡ held
unfolding held_by
holds_held worker events held is = ap (λ os. drop (length (freed_of (events_of worker events))) os) is ∙ drop-append_seam (freed_of (events_of worker events)) held

-- what is kept is what the events say
pub held_kept : (events : List Event) (held : List (List ℕ)) → AreHeld events held → (worker : ℕ) → held_by worker events ≡ get_or held worker []
held_kept events held are worker = holds_held worker events (get_or held worker []) (are worker)

-- an event of one worker, in front of nothing
own_event : (worker : ℕ) (e : Event) → e.worker ≡ worker → events_of worker (e ∷ []) ≡ e ∷ []
own_event worker e own = let is : eqb e.worker worker ≡ true = eq-eqb e.worker worker own in ap (λ b. cond b (e ∷ []) []) is

others_event : (worker : ℕ) (e : Event) → eqb e.worker worker ≡ false → events_of worker (e ∷ []) ≡ []
others_event worker e other = ap (λ b. cond b (e ∷ []) []) other

unlike : (m n : ℕ) → eqb m n ≡ false → m ≢ n
unlike m n apart is = false≢true (sym apart ∙ eq-eqb m n is)

-- one event more of the worker, that then holds something else
pub holds_own : (worker : ℕ) (events : List Event) (e : Event) (held new : List ℕ) → Holds worker events held → e.worker ≡ worker
    → held ++ objects_of (e ∷ []) ≡ freed_of (e ∷ []) ++ new → Holds worker (events ++ e ∷ []) new
holds_own worker events e held new is own turned =
    let before = events_of worker events in
    let more : events_of worker (events ++ e ∷ []) ≡ before ++ e ∷ [] = events_append worker events (e ∷ []) ∙ ap (λ es. before ++ es) (own_event worker e own) in
    ap objects_of more ∙ objects_append before (e ∷ []) ∙ ap (λ os. os ++ objects_of (e ∷ [])) is
    ∙ append_assoc (freed_of before) held (objects_of (e ∷ [])) ∙ ap (λ os. freed_of before ++ os) turned
    ∙ sym (append_assoc (freed_of before) (freed_of (e ∷ [])) new) ∙ ap (λ os. os ++ new) (sym (freed_append before (e ∷ [])))
    ∙ ap (λ es. freed_of es ++ new) (sym more)

-- one event more of another worker
pub holds_other : (worker : ℕ) (events : List Event) (e : Event) (held : List ℕ) → Holds worker events held → eqb e.worker worker ≡ false → Holds worker (events ++ e ∷ []) held
holds_other worker events e held is apart =
    let more : events_of worker (events ++ e ∷ []) ≡ events_of worker events =
    events_append worker events (e ∷ []) ∙ ap (λ es. events_of worker events ++ es) (others_event worker e apart) ∙ append-nil (events_of worker events) in
    ap objects_of more ∙ is ∙ ap (λ es. freed_of es ++ held) (sym more)

-- the same of all workers
pub held_more : (events : List Event) (held : List (List ℕ)) (e : Event) (worker : ℕ) (new : List ℕ) → AreHeld events held → worker < length held → e.worker ≡ worker
    → get_or held worker [] ++ objects_of (e ∷ []) ≡ freed_of (e ∷ []) ++ new → AreHeld (events ++ e ∷ []) (set held worker new)
held_more events held e worker new are low own turned = λ other. elim (cases_Bool (eqb e.worker other)) [
  | inl same ↦
      (let is : e.worker ≡ other = eqb-true e.worker other same in
      let here : worker ≡ other = sym own ∙ is in
      let mine : Holds worker (events ++ e ∷ []) (get_or (set held worker new) worker []) =
      subst (Holds worker (events ++ e ∷ [])) (sym (get_or-set_same held worker new [] low)) (holds_own worker events e (get_or held worker []) new (are worker) own turned) in
      subst (λ v. Holds v (events ++ e ∷ []) (get_or (set held worker new) v [])) here mine)
  | inr apart ↦
      (let ne : other ≢ worker = λ is. unlike e.worker other apart (own ∙ sym is) in
      subst (Holds other (events ++ e ∷ [])) (sym (get_or-set_other held worker other new [] ne)) (holds_other other events e (get_or held other []) (are other) apart))
]

-- ---- the event of a worker

of_worker : (b : Bool) (worker : ℕ) (one other : Event) → one.worker ≡ worker → other.worker ≡ worker → (cond b one other).worker ≡ worker
of_worker true worker one other is is_other = is
of_worker false worker one other is is_other = is_other

pub event_worker : (held : List ℕ) (worker eighth fresh : ℕ) → (event_of held worker eighth fresh).worker ≡ worker
unfolding event_of
event_worker held worker eighth fresh = of_worker (is_free held eighth) worker _ _ refl refl

-- what a worker does by what it holds is what it does by the events so far
pub event_is : (events : List Event) (held : List ℕ) (worker w eighth k given : ℕ) → held ≡ held_by worker events → worker ≡ w → eighth ≡ k → given ≡ length (objects_of events)
    → event_of held worker eighth (given + 1) ≡ event_behind events w k
unfolding event_behind
event_is events held worker w eighth k given is_held is_worker is_eighth is_given =
    ap (λ l. event_of l worker eighth (given + 1)) is_held ∙ ap (λ n. event_of (held_by worker events) worker eighth (n + 1)) is_given
    ∙ ap (λ n. event_of (held_by n events) n eighth (length (objects_of events) + 1)) is_worker
    ∙ ap (λ n. event_of (held_by w events) w n (length (objects_of events) + 1)) is_eighth
