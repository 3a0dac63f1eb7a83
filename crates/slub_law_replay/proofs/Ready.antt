-- The machine that is opened for a trace, and the one before and after an item of a number.
use Rattle.std.proofs.Common.{◌≡◌, ℕ, zero, suc, ◌+◌, ◌<◌, ◌≤◌, eqb, if◌then◌else◌, Bool, true, false, List, [], ◌∷◌, ◌++◌, length, take, drop, get_or, flat_map, replicate, refl, ◌∙◌, ap, subst, arith, Option, Some, None, MatchOption, slice_get}
use Rattle.std.proofs.lemmas.Bool.{eqb-false, eqb-true}
use Rattle.std.specs.Prelude.{IfSome}
use Rattle.std.proofs.lemmas.List.{drop_more, length-append}
use Rattle.std.proofs.lemmas.Option.{get_or_from_slice_get, slice_get_within}
use Rattle.slub_common.proofs.Times.{times-append, times-contained}
use Rattle.slub_trace.specs.declared.event.Round.{Round}
use Rattle.slub_red_zone.proofs.Comings.{counted-there}
use Rattle.slub_lists.specs.declared.lists.Held.{Held}
use Rattle.slub_lists.specs.State.{State}
use Rattle.slub_lists.specs.Coherent.{IsCoherent}
use Rattle.slub_trace.specs.declared.trace.Item.{Item}
use Rattle.slub_trace.specs.declared.trace.Item.TheVariants as item
use Rattle.slub_trace.specs.declared.trace.Trace.{Trace}
use Rattle.slub_trace.specs.declared.trace.Client.{Client as Asked}
use Rattle.slub_trace.specs.Sound.{IsSound, IsSoundItem, asked_objects, objects_in}
use Rattle.slub_calls.specs.Laws.{MayDo}
use Rattle.slub_slabinfo_text.specs.declared.journal.Done.{Done}
use Rattle.slub_slabinfo_text.specs.Lawful.{IsUnheld, coming, opening_of}
use Rattle.slub_rounds.specs.Asked.{AreGiven, IsOpenTo, IsServable}
use Rattle.slub_rounds.specs.Reserves.{AreSoundReserves}
use Rattle.slub_slabinfo_text.proofs.Laws.{opened_ready}
use Rattle.slub_law_rounds.proofs.Times.{once_times}
use Rattle.slub_open_close.specs.Ids.{AreIds, first_ids}
use Rattle.slub_open_close.proofs.Fitting.{opening-fit}
use Rattle.slub_law_replay.specs.declared.way.Way.{Way}
use Rattle.slub_law_replay.specs.Runs.{AreIdsFor, Does, DoesAt, IsReadyMachine, MachineState, heap_of, machine_of, opening_ids}
use Rattle.slub_law_replay.proofs.Numbers.{IsBrief, front, items-brief, items-within, length-first, numbers-few, times-first, times-later}
use Rattle.slub_law_replay.proofs.Standing.{Stands, StandsBefore, own-default, stands-may, stands-next}

-- ---- the machine that is opened

-- no frames have been wanted yet
none-dry : (n order : ℕ) → ◌≡◌ {A = ℕ} (get_or (replicate n 0) order 0) 0
none-dry zero order = refl
none-dry (suc n) zero = refl
none-dry (suc n) (suc order) = none-dry n order

-- no reserve is sound
no-reserves : (trace : Trace) → AreSoundReserves trace []
no-reserves trace = record { few = omega arith; each = λ k d within. absurd (let never : ⊥ = omega (arith, within) in never); once = λ number. omega arith }

-- there are ids where the first one of the trace isn't 0, and they fit
ids-for : (trace : Trace) → IsSound trace → AreIdsFor trace (opening_of trace) (opening_ids trace)
ids-for trace sound = by (eqb trace.tid 0) refl
  where
    by : (b : Bool) → eqb trace.tid 0 ≡ b → AreIdsFor trace (opening_of trace) (if b then None else Some (first_ids trace.tid trace.cpus))
    by true is = eqb-true trace.tid 0 is
    by false is = (eqb-false trace.tid 0 is, opening-fit trace sound)

pub opened_machine_ready : (trace : Trace) → IsSound trace → IsCoherent (opening_of trace) → IsReadyMachine (machine_of trace) trace 0
opened_machine_ready trace sound coherent = record {
  lists = opened_ready trace coherent;
  ids = ids-for trace sound;
  reserves = no-reserves trace;
  rounds = omega arith;
  dry = λ order. (let few : length (coming trace 0) ≤ trace.objects + 1 = numbers-few trace sound in omega (arith, none-dry 11 order, few, sound.objects));
}

-- it stands before the first items
lists-first : (trace : Trace) (n : ℕ) → IsSound trace → IsCoherent (opening_of trace) → Stands (opening_of trace) trace (flat_map objects_in (take n trace.items))
lists-first trace n sound coherent =
    let ready = opened_ready trace coherent in
    record {
      coherent = coherent;
      rest = ready.rest;
      cpus = ready.cpus;
      objects = ready.objects;
      names = ready.names;
      unheld = λ object some. bare (trace.objects + 1) object;
      once = λ object. omega (arith, once_times object (flat_map objects_in trace.items) sound.distinct, times-first object n trace.items);
      within = items-within trace (take n trace.items) (front (IsSoundItem trace) n trace.items sound.items);
      dry = λ order. omega (arith, none-dry 11 order, length-first n trace.items, numbers-few trace sound, sound.objects);
    }
  where
    nobody : Option Held
    nobody = None

    bare : (n object : ℕ) → get_or (replicate n nobody) object None ≡ None
    bare zero object = refl
    bare (suc n) zero = refl
    bare (suc n) (suc object) = bare n object

pub stands-first : (trace : Trace) (n : ℕ) → IsSound trace → IsCoherent (opening_of trace) → StandsBefore (machine_of trace) trace (flat_map objects_in (take n trace.items))
stands-first trace n sound coherent = record { lists = lists-first trace n sound coherent; reserves = no-reserves trace }

-- ---- a machine that is ready

-- it stands before the items from this number on
ready-lists : (m : MachineState) (trace : Trace) (number : ℕ) → IsSound trace → IsReadyMachine m trace number → Stands m.lists trace (coming trace number)
ready-lists m trace number sound ready = record {
  coherent = ready.lists.coherent;
  rest = ready.lists.rest;
  cpus = ready.lists.cpus;
  objects = ready.lists.objects;
  names = ready.lists.names;
  unheld = λ object some. (let there = counted-there object (coming trace number) some in subst (IsUnheld m.lists) there.2 (ready.lists.unheld there.0 object there.1));
  once = λ object. omega (arith, once_times object (flat_map objects_in trace.items) sound.distinct, times-later object number trace.items);
  within = λ object some. items-within trace trace.items sound.items object (omega (arith, some, times-later object number trace.items));
  dry = ready.dry;
}

ready-stands : (m : MachineState) (trace : Trace) (number : ℕ) → IsSound trace → IsReadyMachine m trace number → StandsBefore m trace (coming trace number)
ready-stands m trace number sound ready = record { lists = ready-lists m trace number sound ready; reserves = ready.reserves }

-- that item, and those after it
module _ (m : MachineState) (trace : Trace) (number : ℕ) (it : Item) (sound : IsSound trace) (ready : IsReadyMachine m trace number) (found : slice_get trace.items number ≡ Some it) where
  inside : number < length trace.items
  inside = slice_get_within trace.items number it found

  at : get_or trace.items number it ≡ it
  at = get_or_from_slice_get trace.items number it it found

  comes : coming trace number ≡ objects_in it ++ coming trace (number + 1)
  comes = ap (λ (items : List Item). flat_map objects_in items) (drop_more trace.items number it inside ∙ ap (λ (first : Item). first ∷ drop (number + 1) trace.items) at)

  pub item-stands-there : StandsBefore m trace (objects_in it ++ coming trace (number + 1))
  item-stands-there = subst (StandsBefore m trace) comes (ready-stands m trace number sound ready)

  pub item-sound : IsSoundItem trace it
  item-sound = subst (IsSoundItem trace) at (sound.items number it inside)

  pub item-brief : IsBrief it
  item-brief = subst IsBrief at (items-brief trace sound number it inside)

-- a round can be done
pub may-be-done : (m : MachineState) (trace : Trace) (number : ℕ) (round : Round) → IsSound trace → IsReadyMachine m trace number → slice_get trace.items number ≡ Some (item.Round round) → MayDo m.lists trace round
may-be-done m trace number round sound ready found =
    stands-may m.lists trace round (coming trace (number + 1)) (item-stands-there m trace number (item.Round round) sound ready found).lists (item-sound m trace number (item.Round round) sound ready found) (item-brief m trace number (item.Round round) sound ready found)

-- ids that are a trace's fit, and are given where the trace gives the first one
fit-of : (trace : Trace) (s : State) (ids : Option (List ℕ)) → AreIdsFor trace s ids → IfSome ids (AreIds s)
fit-of trace s None are = tt
fit-of trace s (Some ids) are = are.1

given-of : (trace : Trace) (s : State) (ids : Option (List ℕ)) → AreIdsFor trace s ids → AreGiven trace ids
given-of trace s None are = are
given-of trace s (Some ids) are = are.0

-- its heap is open to what numbers to come may ask
open-of : (m : MachineState) (trace : Trace) (number more : ℕ) → IsSound trace → IsReadyMachine m trace number → more ≤ length (coming trace number) → IsOpenTo (heap_of m) trace more
open-of m trace number more sound ready few = record {
  sound = record { coherent = ready.lists.coherent; ids = fit-of trace m.lists m.ids ready.ids };
  rest = ready.lists.rest;
  given = given-of trace m.lists m.ids ready.ids;
  frames = ready.lists.frames;
  cpus = ready.lists.cpus;
  objects = ready.lists.objects;
  numbers = sound.objects;
  names = ready.lists.names;
  dry = λ order. omega (arith, ready.dry order, few);
}

-- so a client's line can be served
pub may-be-served : (m : MachineState) (trace : Trace) (number : ℕ) (client : Asked) → IsSound trace → IsReadyMachine m trace number → slice_get trace.items number ≡ Some (item.Client client)
    → IsServable (heap_of m) trace client × IsOpenTo (heap_of m) trace (length (asked_objects client) + length (coming trace (number + 1)))
may-be-served m trace number client sound ready found =
    let numbers = asked_objects client in
    let rest = coming trace (number + 1) in
    let stands = item-stands-there m trace number (item.Client client) sound ready found in
    let all = ap (λ (xs : List ℕ). length xs) (comes m trace number (item.Client client) sound ready found) in
    let long = length-append numbers rest in (
      record {
        heap = open-of m trace number (length numbers) sound ready (omega (arith, all, long));
        whole = sound;
        sound = item-sound m trace number (item.Client client) sound ready found;
        unheld = λ k d inside. stands.lists.unheld (get_or numbers k d)
            (let there = times-contained (get_or numbers k d) numbers (k, inside, own-default numbers k d inside) in omega (arith, there, times-append (get_or numbers k d) numbers rest));
      },
      open-of m trace number (length numbers + length rest) sound ready (omega (arith, all, long)),
    )

-- after the item it stands before those that follow
pub item-leaves : (way : Way) (m : MachineState) (trace : Trace) (number : ℕ) (dn : Done) (after : MachineState) → IsSound trace → IsReadyMachine m trace number → DoesAt way m trace number dn after → IsCoherent after.lists
    → StandsBefore after trace (coming trace (number + 1))
item-leaves way m trace number dn after sound ready does coherent = by (slice_get trace.items number) refl does
  where
    by : (found : Option Item) → slice_get trace.items number ≡ found → MatchOption found ⊥ (λ it. Does way m trace it dn after) → StandsBefore after trace (coming trace (number + 1))
    by None is does = absurd does
    by (Some it) is does =
        stands-next way m trace it dn (coming trace (number + 1)) after (item-stands-there m trace number it sound ready is) (item-sound m trace number it sound ready is) (item-brief m trace number it sound ready is) coherent does
