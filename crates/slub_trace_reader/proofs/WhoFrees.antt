-- Each worker frees what it allocated.
use Rattle.std.proofs.Common.{◌≡◌, ◌≢◌, ℕ, zero, suc, ◌+◌, ◌*◌, ◌%◌, ◌<◌, ◌≤◌, true, false, cond, List, [], ◌∷◌, ◌++◌, length, map, flat_map, get_or, refl, sym, ap, ◌∙◌, arith, subst, inl, inr, eqb, eq-eqb}
use Rattle.std.specs.List.{range_with_len}
use Rattle.std.proofs.lemmas.Bool.{cases_Bool, cond_both, eqb-true, ne_eqb}
use Rattle.std.proofs.lemmas.List.{append-nil}
use Rattle.slub_trace.specs.declared.event.Event.{Event}
use Rattle.slub_trace.specs.Sound.{objects_of}
use Rattle.slub_trace_reader.specs.Generator.{number}
use Rattle.slub_trace_reader.specs.Load.{alloc_by, drawn_events, event_behind, event_of, events_of, free_by, freed_of, held_by, is_free, last_frees}
use Rattle.slub_trace_reader.proofs.Events.{event_worker, events_append, freed_append, holds_held, holds_other, holds_own}
use Rattle.slub_trace_reader.proofs.Sound.{free_held}

-- ---- drawn events

-- what a worker holds after it did something
Turns : List ℕ → Event → Type 0
Turns held e = (new : List ℕ) × (held ++ objects_of (e ∷ []) ≡ freed_of (e ∷ []) ++ new)

free_turns : (held : List ℕ) (worker cpu : ℕ) → 0 < length held → Turns held (free_by worker cpu (get_or held 0 0))
unfolding Turns
free_turns [] worker cpu some = absurd (let never : ⊥ = omega arith in never)
free_turns (object ∷ held) worker cpu some = (held, append-nil (object ∷ held))

event_turns : (held : List ℕ) (worker eighth fresh : ℕ) → Turns held (event_of held worker eighth fresh)
unfolding event_of
event_turns held worker eighth fresh =
    cond_both (is_free held eighth) (free_by worker ((worker + eighth) % 4) (get_or held 0 0)) (alloc_by worker (worker % 4) (eighth % 3) fresh) (Turns held)
    (λ is. free_turns held worker ((worker + eighth) % 4) (free_held held eighth is)) (λ _. unfold Turns in (held ++ fresh ∷ [], refl))

-- a worker has freed a front of what it allocated
abbrev pub FreesOwn : ℕ → List Event → Type 0
FreesOwn worker events = (held : List ℕ) × (objects_of (events_of worker events) ≡ freed_of (events_of worker events) ++ held)

behind_own : (events : List Event) (worker eighth : ℕ) → FreesOwn worker events → (event_behind events worker eighth).worker ≡ worker × Turns (held_by worker events) (event_behind events worker eighth)
unfolding event_behind
behind_own events worker eighth own =
    (event_worker (held_by worker events) worker eighth (length (objects_of events) + 1), event_turns (held_by worker events) worker eighth (length (objects_of events) + 1))

one_more : (events : List Event) (by eighth worker : ℕ) → FreesOwn by events → FreesOwn worker events → FreesOwn worker (events ++ event_behind events by eighth ∷ [])
unfolding Turns
one_more events by eighth worker by_own own =
    let e = event_behind events by eighth in
    let is = behind_own events by eighth by_own in
    elim (cases_Bool (eqb by worker)) [
      | inl same ↦
          (let here : by ≡ worker = eqb-true by worker same in
          let held : held_by by events ≡ by_own.0 = holds_held by events by_own.0 by_own.1 in
          let new = is.1.0 in
          let turned : by_own.0 ++ objects_of (e ∷ []) ≡ freed_of (e ∷ []) ++ new = ap (λ l. l ++ objects_of (e ∷ [])) (sym held) ∙ is.1.1 in
          subst (λ w. FreesOwn w (events ++ e ∷ [])) here (new, holds_own by events e by_own.0 new by_own.1 is.0 turned))
      | inr apart ↦ (own.0, holds_other worker events e own.0 own.1 (ap (λ n. eqb n worker) is.0 ∙ apart))
    ]

pub drawn_own : (seed workers count worker : ℕ) → FreesOwn worker (drawn_events seed workers count)
unfolding drawn_events
drawn_own seed workers zero worker = ([], refl)
drawn_own seed workers (suc count) worker =
    let by = number seed (2 * count) % workers in
    one_more (drawn_events seed workers count) by (number seed (2 * count + 1) % 8) worker (drawn_own seed workers count by) (drawn_own seed workers count worker)

-- ---- the frees at the end

freed_all : (worker cpu : ℕ) (objects : List ℕ) → freed_of (events_of worker (map (free_by worker cpu) objects)) ≡ objects
freed_all worker cpu [] = refl
freed_all worker cpu (object ∷ objects) =
    let here : eqb worker worker ≡ true = eq-eqb worker worker refl in
    ap (λ b. freed_of (cond b (free_by worker cpu object ∷ events_of worker (map (free_by worker cpu) objects)) (events_of worker (map (free_by worker cpu) objects)))) here
    ∙ ap (λ os. object ∷ os) (freed_all worker cpu objects)

freed_none : (worker by cpu : ℕ) (objects : List ℕ) → eqb by worker ≡ false → freed_of (events_of worker (map (free_by by cpu) objects)) ≡ []
freed_none worker by cpu [] apart = refl
freed_none worker by cpu (object ∷ objects) apart =
    ap (λ b. freed_of (cond b (free_by by cpu object ∷ events_of worker (map (free_by by cpu) objects)) (events_of worker (map (free_by by cpu) objects)))) apart
    ∙ freed_none worker by cpu objects apart

last_own : (events : List Event) (worker : ℕ) → freed_of (events_of worker (last_frees events worker)) ≡ held_by worker events
unfolding last_frees
last_own events worker = freed_all worker (worker % 4) (held_by worker events)

last_other : (events : List Event) (worker by : ℕ) → by ≢ worker → freed_of (events_of worker (last_frees events by)) ≡ []
unfolding last_frees
last_other events worker by ne = freed_none worker by (by % 4) (held_by by events) (ne_eqb by worker ne)

-- of one worker, and then of the others
pub freed_then : (events more : List Event) (worker : ℕ) → freed_of (events_of worker (events ++ more)) ≡ freed_of (events_of worker events) ++ freed_of (events_of worker more)
freed_then events more worker = ap freed_of (events_append worker events more) ∙ freed_append (events_of worker events) (events_of worker more)

pub all_above : (events : List Event) (worker first count : ℕ) → worker < first → freed_of (events_of worker (flat_map (last_frees events) (range_with_len first count))) ≡ []
all_above events worker first zero low = refl
all_above events worker first (suc count) low =
    let rest = flat_map (last_frees events) (range_with_len (first + 1) count) in
    let ne : first ≢ worker = λ is. omega (arith, is, low) in
    freed_then (last_frees events first) rest worker ∙ ap (λ l. l ++ freed_of (events_of worker rest)) (last_other events worker first ne)
    ∙ all_above events worker (first + 1) count (omega (arith, low))

pub all_below : (events : List Event) (worker first count : ℕ) → first + count ≤ worker → freed_of (events_of worker (flat_map (last_frees events) (range_with_len first count))) ≡ []
all_below events worker first zero low = refl
all_below events worker first (suc count) low =
    let rest = flat_map (last_frees events) (range_with_len (first + 1) count) in
    let ne : first ≢ worker = λ is. omega (arith, is, low) in
    freed_then (last_frees events first) rest worker ∙ ap (λ l. l ++ freed_of (events_of worker rest)) (last_other events worker first ne)
    ∙ all_below events worker (first + 1) count (omega (arith, low))

pub all_from : (events : List Event) (worker first count : ℕ) → first ≤ worker → worker < first + count
    → freed_of (events_of worker (flat_map (last_frees events) (range_with_len first count))) ≡ held_by worker events
all_from events worker first zero low high = absurd (let never : ⊥ = omega (arith, low, high) in never)
all_from events worker first (suc count) low high =
    let rest = flat_map (last_frees events) (range_with_len (first + 1) count) in
    elim (cases_Bool (eqb first worker)) [
      | inl same ↦
          (let here : first ≡ worker = eqb-true first worker same in
          freed_then (last_frees events first) rest worker
          ∙ ap (λ l. l ++ freed_of (events_of worker rest)) (ap (λ v. freed_of (events_of worker (last_frees events v))) here ∙ last_own events worker)
          ∙ ap (λ l. held_by worker events ++ l) (all_above events worker (first + 1) count (omega (arith, here))) ∙ append-nil (held_by worker events))
      | inr apart ↦
          (let ne : first ≢ worker = λ is. absurd (Rattle.std.proofs.lemmas.Bool.false≢true (sym apart ∙ eq-eqb first worker is)) in
          freed_then (last_frees events first) rest worker ∙ ap (λ l. l ++ freed_of (events_of worker rest)) (last_other events worker first ne)
          ∙ all_from events worker (first + 1) count (omega (arith, low, ne)) (omega (arith, high)))
    ]
