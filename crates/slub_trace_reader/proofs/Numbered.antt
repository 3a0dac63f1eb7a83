-- The objects of a load are numbered from 1 on.
use Rattle.std.proofs.Common.{◌≡◌, ℕ, zero, suc, ◌+◌, ◌*◌, ◌%◌, List, [], ◌∷◌, ◌++◌, length, map, fold, flat_map, max, refl, sym, ap, ◌∙◌, arith, length-append}
use Rattle.std.specs.List.{range_with_len}
use Rattle.std.proofs.lemmas.Bool.{cond_both}
use Rattle.std.proofs.lemmas.List.{append-nil}
use Rattle.slub_trace.specs.declared.event.Event.{Event}
use Rattle.slub_trace.specs.Sound.{objects_of}
use Rattle.slub_common.proofs.Lists.{range_with_len-append}
use Rattle.slub_trace_reader.proofs.Runs.{greatest_from, greatest_within}
use Rattle.slub_trace_reader.specs.Generator.{number}
use Rattle.slub_trace_reader.specs.Load.{alloc_by, drawn_events, emptied, event_behind, event_of, free_by, held_by, is_free, last_frees, load_events}
use Rattle.slub_trace_reader.proofs.Events.{objects_append}

-- the numbers that events allocate are those from 1 on
abbrev pub AreNumbered : List Event → Type 0
AreNumbered events = objects_of events ≡ range_with_len 1 (length (objects_of events))

Goes : ℕ → Event → Type 0
Goes count e = range_with_len 1 count ++ objects_of (e ∷ []) ≡ range_with_len 1 (count + length (objects_of (e ∷ [])))

free_goes : (worker cpu object count : ℕ) → Goes count (free_by worker cpu object)
unfolding Goes
free_goes worker cpu object count = append-nil (range_with_len 1 count) ∙ ap (range_with_len 1) (let e : count ≡ count + 0 = omega arith in e)

alloc_goes : (worker cpu place count : ℕ) → Goes count (alloc_by worker cpu place (count + 1))
unfolding Goes
alloc_goes worker cpu place count =
    ap (λ n. range_with_len 1 count ++ n ∷ []) (let e : count + 1 ≡ 1 + count = omega arith in e) ∙ sym (range_with_len-append 1 count 1)

event_goes : (events : List Event) (worker eighth : ℕ) → Goes (length (objects_of events)) (event_behind events worker eighth)
unfolding event_behind event_of
event_goes events worker eighth =
    let count = length (objects_of events) in
    let held = held_by worker events in
    cond_both (is_free held eighth) _ _ (Goes count)
    (λ _. free_goes worker ((worker + eighth) % 4) _ count) (λ _. alloc_goes worker (worker % 4) (eighth % 3) count)

one_more : (events : List Event) (e : Event) → Goes (length (objects_of events)) e → AreNumbered events → AreNumbered (events ++ e ∷ [])
unfolding Goes
one_more events e goes are =
    let more = objects_append events (e ∷ []) in
    more ∙ ap (λ os. os ++ objects_of (e ∷ [])) are ∙ goes
    ∙ ap (range_with_len 1) (sym (length-append (objects_of events) (objects_of (e ∷ []))) ∙ ap length (sym more))

drawn_numbered : (seed workers count : ℕ) → AreNumbered (drawn_events seed workers count)
unfolding drawn_events
drawn_numbered seed workers zero = refl
drawn_numbered seed workers (suc count) =
    let events = drawn_events seed workers count in
    one_more events (event_behind events (number seed (2 * count) % workers) (number seed (2 * count + 1) % 8)) (event_goes events _ _) (drawn_numbered seed workers count)

-- ---- the frees at the end allocate nothing

frees_none : (worker cpu : ℕ) (objects : List ℕ) → objects_of (map (free_by worker cpu) objects) ≡ []
frees_none worker cpu [] = refl
frees_none worker cpu (object ∷ objects) = frees_none worker cpu objects

last_none : (events : List Event) (worker : ℕ) → objects_of (last_frees events worker) ≡ []
unfolding last_frees
last_none events worker = frees_none worker (worker % 4) (held_by worker events)

pub all_none : (events : List Event) (workers : List ℕ) → objects_of (flat_map (last_frees events) workers) ≡ []
all_none events [] = refl
all_none events (worker ∷ workers) =
    objects_append (last_frees events worker) (flat_map (last_frees events) workers)
    ∙ ap (λ os. os ++ objects_of (flat_map (last_frees events) workers)) (last_none events worker) ∙ all_none events workers

pub objects_emptied : (workers : ℕ) (events : List Event) → objects_of (emptied workers events) ≡ objects_of events
unfolding emptied
objects_emptied workers events =
    let rest = flat_map (last_frees events) (range_with_len 0 workers) in
    objects_append events rest ∙ ap (λ os. objects_of events ++ os) (all_none events (range_with_len 0 workers)) ∙ append-nil (objects_of events)

-- ---- a whole load

greatest_run : (count : ℕ) → fold max 0 (range_with_len 1 count) ≡ count
greatest_run zero = refl
greatest_run (suc count) =
    omega (arith, greatest_from 0 1 (suc count) (omega arith), greatest_within 0 1 (suc count) (suc count) (omega arith) (omega arith))

pub load_objects : (seed count workers : ℕ) → objects_of (load_events seed count workers) ≡ range_with_len 1 (length (objects_of (drawn_events seed workers count)))
unfolding load_events
load_objects seed count workers = objects_emptied workers (drawn_events seed workers count) ∙ drawn_numbered seed workers count

-- the greatest is how many there are
pub load_greatest : (seed count workers : ℕ) → fold max 0 (objects_of (load_events seed count workers)) ≡ length (objects_of (drawn_events seed workers count))
load_greatest seed count workers = ap (fold max 0) (load_objects seed count workers) ∙ greatest_run (length (objects_of (drawn_events seed workers count)))
