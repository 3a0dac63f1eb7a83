-- Who has freed what at any time.
use Rattle.std.proofs.Common.{◌≡◌, ℕ, zero, suc, ◌+◌, ◌-◌, ◌<◌, ◌≤◌, Option, None, Some, List, [], ◌∷◌, ◌++◌, length, drop, take, flat_map, refl, sym, ap, ◌∙◌, arith, subst, inl, inr, append_assoc, eqb}
use Rattle.std.specs.List.{cons_option, range_with_len}
use Rattle.std.proofs.Math.Seq.{take-append-add}
use Rattle.std.proofs.lemmas.Bool.{cond_both, cases_order}
use Rattle.std.proofs.lemmas.List.{append-nil, take-append-drop, take-append-le, take_all}
use Rattle.slub_trace.specs.declared.event.Event.{Event}
use Rattle.slub_trace.specs.Sound.{allocated, objects_of}
use Rattle.slub_trace_reader.specs.Load.{drawn_events, emptied, events_of, freed_of, held_by, last_frees, load_events}
use Rattle.slub_trace_reader.proofs.Drawn.{drawn_next, drawn_none}
use Rattle.slub_trace_reader.proofs.Events.{events_append, holds_held, objects_append}
use Rattle.slub_trace_reader.proofs.Long.{drawn_long}
use Rattle.slub_trace_reader.proofs.Numbered.{all_none}
use Rattle.slub_trace_reader.proofs.WhoFrees.{FreesOwn, all_below, all_from, drawn_own, freed_then}

-- ---- events that allocate nothing

cons_none : (o : Option ℕ) (xs : List ℕ) → cons_option o xs ≡ [] → (o ≡ None) × (xs ≡ [])
cons_none None xs is = (refl, is)
cons_none (Some n) xs is = absurd (let long : suc (length xs) ≡ 0 = ap length is in let never : ⊥ = omega (arith, long) in never)

none_own : (worker : ℕ) (events : List Event) → objects_of events ≡ [] → objects_of (events_of worker events) ≡ []
none_own worker [] is = refl
none_own worker (e ∷ events) is =
    let parts = cons_none (allocated e.act) (objects_of events) is in
    let rest = none_own worker events parts.1 in
    cond_both (eqb e.worker worker) (e ∷ events_of worker events) (events_of worker events) (λ l. objects_of l ≡ [])
    (λ _. ap (λ o. cons_option o (objects_of (events_of worker events))) parts.0 ∙ rest) (λ _. rest)

front_none : (xs ys : List ℕ) → xs ++ ys ≡ [] → xs ≡ []
front_none [] ys is = refl
front_none (x ∷ xs) ys is = absurd (let long : suc (length (xs ++ ys)) ≡ 0 = ap length is in let never : ⊥ = omega (arith, long) in never)

-- ---- fronts of a load

take_drawn : (seed workers count done : ℕ) → done ≤ count → take done (drawn_events seed workers count) ≡ drawn_events seed workers done
take_drawn seed workers zero done low =
    let none : done ≡ 0 = omega (arith, low) in
    take_all done (drawn_events seed workers 0) (omega (arith, ap length (drawn_none seed workers))) ∙ ap (drawn_events seed workers) (sym none)
take_drawn seed workers (suc count) done low = elim (cases_order done (suc count)) [
  | inl whole ↦
      (let long = drawn_long seed workers (suc count) in
      take_all done (drawn_events seed workers (suc count)) (omega (arith, long, whole)) ∙ ap (drawn_events seed workers) (sym whole))
  | inr apart ↦ elim apart [
    | inl under ↦
        (let long = drawn_long seed workers count in
        ap (take done) (drawn_next seed workers count) ∙ take-append-le done (drawn_events seed workers count) _ (omega (arith, long, under))
        ∙ take_drawn seed workers count done (omega (arith, under)))
    | inr over ↦ absurd (let never : ⊥ = omega (arith, over, low) in never)
  ]
]

-- the frees at the end are of what is held
held_last : (workers worker : ℕ) (events : List Event) → (rest : List ℕ) × (freed_of (events_of worker (flat_map (last_frees events) (range_with_len 0 workers))) ++ rest ≡ held_by worker events)
held_last workers worker events = elim (cases_order worker workers) [
  | inl same ↦ (held_by worker events, ap (λ l. l ++ held_by worker events) (all_below events worker 0 workers (omega (arith, same))))
  | inr apart ↦ elim apart [
    | inl under ↦ ([], append-nil _ ∙ all_from events worker 0 workers (omega arith) (omega (arith, under)))
    | inr over ↦ (held_by worker events, ap (λ l. l ++ held_by worker events) (all_below events worker 0 workers (omega (arith, over))))
  ]
]

-- with a front of the frees at the end
front_last : (worker : ℕ) (events more rest : List Event) (left : List ℕ) → FreesOwn worker events → objects_of (more ++ rest) ≡ []
    → freed_of (events_of worker (more ++ rest)) ++ left ≡ held_by worker events → FreesOwn worker (events ++ more)
front_last worker events more rest left own none last =
    let free = freed_of (events_of worker more) in
    let later = freed_of (events_of worker rest) in
    let nothing : objects_of (events_of worker more) ≡ [] = none_own worker more (front_none (objects_of more) (objects_of rest) (sym (objects_append more rest) ∙ none)) in
    let held : own.0 ≡ free ++ (later ++ left) =
    sym (holds_held worker events own.0 own.1) ∙ sym last ∙ ap (λ l. l ++ left) (freed_then more rest worker) ∙ append_assoc free later left in (
      later ++ left,
      ap objects_of (events_append worker events more) ∙ objects_append (events_of worker events) (events_of worker more)
          ∙ ap (λ os. objects_of (events_of worker events) ++ os) nothing ∙ append-nil (objects_of (events_of worker events)) ∙ own.1
          ∙ ap (λ os. freed_of (events_of worker events) ++ os) held ∙ sym (append_assoc (freed_of (events_of worker events)) free (later ++ left))
          ∙ ap (λ l. l ++ (later ++ left)) (sym (freed_then events more worker)),
    )

pub front_own : (seed count workers worker done : ℕ) → FreesOwn worker (take done (load_events seed count workers))
unfolding load_events emptied
front_own seed count workers worker done =
    let events = drawn_events seed workers count in
    let all = flat_map (last_frees events) (range_with_len 0 workers) in
    let long : length events ≡ count = drawn_long seed workers count in
    let early : done ≤ count → FreesOwn worker (take done (events ++ all)) = λ low.
    subst (FreesOwn worker) (sym (take-append-le done events all (omega (arith, long, low)) ∙ take_drawn seed workers count done low)) (drawn_own seed workers done worker) in
    elim (cases_order done count) [
      | inl same ↦ early (omega (arith, same))
      | inr apart ↦ elim apart [
        | inl under ↦ early (omega (arith, under))
        | inr over ↦
            (let after = done - count in
            let parts = take-append-drop after all in
            let last = held_last workers worker events in
            let sum : done ≡ length events + after = omega (arith, long, over) in
            subst (FreesOwn worker) (sym (ap (λ n. take n (events ++ all)) sum ∙ take-append-add events all after))
            (front_last worker events (take after all) (drop after all) last.0 (drawn_own seed workers count worker)
            (ap objects_of parts ∙ all_none events (range_with_len 0 workers)) (ap (λ l. freed_of (events_of worker l) ++ last.0) parts ∙ last.1)))
      ]
    ]

-- ---- a whole load

pub load_own : (seed count workers worker : ℕ) → worker < workers → freed_of (events_of worker (load_events seed count workers)) ≡ objects_of (events_of worker (load_events seed count workers))
unfolding load_events emptied
load_own seed count workers worker low =
    let events = drawn_events seed workers count in
    let all = flat_map (last_frees events) (range_with_len 0 workers) in
    let own = drawn_own seed workers count worker in
    let before = events_of worker events in
    freed_then events all worker ∙ ap (λ l. freed_of before ++ l) (all_from events worker 0 workers (omega arith) (omega (arith, low)) ∙ holds_held worker events own.0 own.1)
    ∙ sym own.1 ∙ sym (append-nil (objects_of before)) ∙ ap (λ os. objects_of before ++ os) (sym (none_own worker all (all_none events (range_with_len 0 workers))))
    ∙ sym (objects_append before (events_of worker all)) ∙ ap objects_of (sym (events_append worker events all))
