-- How many events there are.
use Rattle.std.proofs.Common.{◌≡◌, ℕ, zero, suc, ◌+◌, ◌*◌, ◌%◌, ◌≤◌, Bool, List, [], ◌∷◌, length, filter, flat_map, ap, ◌∙◌, arith, eqb, length-append}
use Rattle.std.specs.List.{range_with_len}
use Rattle.std.proofs.lemmas.Bool.{cond_both}
use Rattle.std.proofs.lemmas.List.{length-drop, length-map}
use Rattle.slub_trace.specs.declared.event.Event.{Event}
use Rattle.slub_trace.specs.Sound.{objects_of}
use Rattle.slub_trace_reader.specs.Load.{drawn_events, emptied, events_of, free_by, freed_of, held_by, last_frees, load_events}
use Rattle.slub_trace_reader.proofs.Drawn.{drawn_next, drawn_none}
use Rattle.slub_trace_reader.proofs.Events.{few_objects}

pub drawn_long : (seed workers count : ℕ) → length (drawn_events seed workers count) ≡ count
drawn_long seed workers zero = ap length (drawn_none seed workers)
drawn_long seed workers (suc count) =
    ap length (drawn_next seed workers count) ∙ length-append (drawn_events seed workers count) _ ∙ omega (arith, drawn_long seed workers count)

few_passed : {X : Type 0} (p : X → Bool) (xs : List X) → length (filter p xs) ≤ length xs
few_passed p [] = omega arith
few_passed p (x ∷ xs) =
    let more = few_passed p xs in
    cond_both (p x) (x ∷ filter p xs) (filter p xs) (λ l. length l ≤ length (x ∷ xs)) (λ _. omega (arith, more)) (λ _. omega (arith, more))

-- no worker holds more objects than there are events
few_held : (worker : ℕ) (events : List Event) → length (held_by worker events) ≤ length events
unfolding held_by
few_held worker events =
    omega (
      arith,
      length-drop (length (freed_of (events_of worker events))) (objects_of (events_of worker events)),
      few_objects (events_of worker events),
      few_passed (λ (e : Event). eqb e.worker worker) events,
    )

few_last : (worker : ℕ) (events : List Event) → length (last_frees events worker) ≤ length events
unfolding last_frees
few_last worker events = omega (arith, length-map (held_by worker events) (free_by worker (worker % 4)), few_held worker events)

-- nor do so many
few_frees : (events : List Event) (first count : ℕ) → length events ≤ 500000 → length (flat_map (last_frees events) (range_with_len first count)) ≤ count * 500000
few_frees events first zero few = omega arith
few_frees events first (suc count) few =
    omega (arith, length-append (last_frees events first) (flat_map (last_frees events) (range_with_len (first + 1) count)), few_last first events, few, few_frees events (first + 1) count few)

few_events : (workers : ℕ) (events : List Event) → workers ≤ 16 → length events ≤ 500000 → length (emptied workers events) ≤ 8500000
unfolding emptied
few_events workers events few_workers few =
    omega (arith, length-append events (flat_map (last_frees events) (range_with_len 0 workers)), few_frees events 0 workers few, few, few_workers)

pub load_long : (seed count workers : ℕ) → workers ≤ 16 → count ≤ 500000 → length (load_events seed count workers) ≤ 8500000
unfolding load_events
load_long seed count workers few_workers few =
    let long = drawn_long seed workers count in few_events workers (drawn_events seed workers count) few_workers (omega (arith, long, few))
