-- One event, one number and one worker more.
use Rattle.std.proofs.Common.{◌≡◌, ℕ, suc, ◌+◌, ◌<◌, Bool, true, false, cond, List, [], ◌∷◌, ◌++◌, length, take, get_or, refl, sym, ◌∙◌, ap, eqb, Option, Some, None, arith}
use Rattle.std.specs.List.{cons_option, filter_map, position_or_len}
use Rattle.std.proofs.lemmas.Bool.{false≢true}
use Rattle.std.proofs.lemmas.Bool.Decides.{nat_tests}
use Rattle.std.proofs.lemmas.List.Recursion.{is_position_or_len}
use Rattle.std.proofs.lemmas.List.{append-nil, map-append, take_more}
use Rattle.std.proofs.lemmas.List.Elements.{filter-append, filter_map-append}
use Rattle.indexmap.specs.IndexSet.{insert_all, insert_key}
use Rattle.indexmap.proofs.SetLemmas.{set_all_push}
use Rattle.slub_trace.specs.declared.event.Event.{Event}
use Rattle.slub_cache_create.specs.Table.{Table}
use Rattle.slub_core.specs.declared.local.Known.{Known}
use Rattle.slub_core.specs.Accounted.{place_of}
use Rattle.slub_calls.specs.Calls.{call_for, calls_for, events_by, numbers_in, object_named, room_for}
use Rattle.slub_calls.proofs.Numbers.{rooms}

-- ---- the events of a worker

events_more : (events : List Event) (i : ℕ) (event : Event) (worker : ℕ) → i < length events → event ≡ get_or events i event
    → events_by worker (take (i + 1) events) ≡ events_by worker (take i events) ++ cond (eqb event.worker worker) (event ∷ []) []
events_more events i event worker within at =
    ap (events_by worker) (take_more events i event within ∙ ap (λ (one : Event). take i events ++ one ∷ []) (sym at))
    ∙ filter-append (λ (one : Event). eqb one.worker worker) (take i events) (event ∷ [])

pub own_more : (events : List Event) (i : ℕ) (event : Event) (worker : ℕ) → i < length events → event ≡ get_or events i event → eqb event.worker worker ≡ true
    → events_by worker (take (i + 1) events) ≡ events_by worker (take i events) ++ event ∷ []
own_more events i event worker within at own =
    events_more events i event worker within at ∙ ap (λ b. events_by worker (take i events) ++ cond b (event ∷ []) []) own

pub other_more : (events : List Event) (i : ℕ) (event : Event) (worker : ℕ) → i < length events → event ≡ get_or events i event → eqb event.worker worker ≡ false
    → events_by worker (take (i + 1) events) ≡ events_by worker (take i events)
other_more events i event worker within at other =
    events_more events i event worker within at ∙ ap (λ b. events_by worker (take i events) ++ cond b (event ∷ []) []) other ∙ append-nil (events_by worker (take i events))

-- ---- the numbers that they name

abbrev pub named : List Event → List ℕ
named events = filter_map (λ (event : Event). object_named event.act) events

named_more : (events : List Event) (event : Event) (n : Option ℕ) → object_named event.act ≡ n → named (events ++ event ∷ []) ≡ named events ++ cons_option n []
named_more events event n is =
    filter_map-append (λ (one : Event). object_named one.act) events (event ∷ []) ∙ ap (λ n. named events ++ cons_option n []) is

pub number_more : (events : List Event) (event : Event) (o : ℕ) → object_named event.act ≡ Some o → numbers_in (events ++ event ∷ []) ≡ insert_key eqb (numbers_in events) o
number_more events event o is = ap (insert_all eqb []) (named_more events event (Some o) is) ∙ set_all_push eqb [] (named events) o

pub number_same : (events : List Event) (event : Event) → object_named event.act ≡ None → numbers_in (events ++ event ∷ []) ≡ numbers_in events
number_same events event is = ap (insert_all eqb []) (named_more events event None is ∙ append-nil (named events))

-- ---- rooms and places

pub room_more : (numbers : List ℕ) (at : ℕ) (o : ℕ) → at < length numbers → o ≡ get_or numbers at o → rooms (take (at + 1) numbers) ≡ rooms (take at numbers) ++ room_for o ∷ []
room_more numbers at o within is =
    ap rooms (take_more numbers at o within ∙ ap (λ one. take at numbers ++ one ∷ []) (sym is)) ∙ map-append room_for (take at numbers) (o ∷ [])

turned : (x o : ℕ) → eqb x o ≡ eqb o x
turned x o = grind (arith, nat_tests)

step_of : (o x : ℕ) (xs : List ℕ) → place_of (rooms (x ∷ xs)) o ≡ cond (eqb o x) 0 (1 + place_of (rooms xs) o)
step_of o x xs = by (eqb o x) (eqb x o) (turned x o)
  where
    by : (b c : Bool) → c ≡ b → cond c 0 (suc (place_of (rooms xs) o)) ≡ cond b 0 (1 + place_of (rooms xs) o)
    by true true is = refl
    by false false is = let next : suc (place_of (rooms xs) o) ≡ 1 + place_of (rooms xs) o = omega arith in next
    by true false is = absurd (false≢true is)
    by false true is = absurd (false≢true (sym is))

pub place_is : (o : ℕ) (numbers : List ℕ) → place_of (rooms numbers) o ≡ position_or_len (eqb o) numbers
place_is o numbers = is_position_or_len (λ xs. place_of (rooms xs) o) (eqb o) refl (step_of o) numbers

-- ---- calls

pub call_more : (table : Table) (ks : List Known) (events : List Event) (event : Event)
    → calls_for table ks (events ++ event ∷ []) ≡ calls_for table ks events ++ call_for table ks event.cpu event.act ∷ []
call_more table ks events event = map-append (λ (one : Event). call_for table ks one.cpu one.act) events (event ∷ [])
