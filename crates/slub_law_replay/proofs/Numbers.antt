-- The numbers and events of a sound trace: numbers are the machine's, each stands there once, and neither are too many.
use Rattle.std.proofs.Common.{◌≡◌, ℕ, zero, suc, ◌+◌, ◌^◌, ◌<◌, ◌≤◌, ◌||◌, Bool, true, false, eqb, List, [], ◌∷◌, length, take, drop, flat_map, refl, subst, arith, All, inl, inr}
use Rattle.std.specs.List.{list_any, range_with_len}
use Rattle.std.proofs.lemmas.Bool.{cases_lt}
use Rattle.std.proofs.lemmas.Bool.Decides.{nat_tests}
use Rattle.std.proofs.lemmas.List.{length-append}
use Rattle.std.proofs.lemmas.List.Elements.{All-cons, All-head, All-tail}
use Rattle.std.proofs.lemmas.Map.Steps.{length-le_from_distinct_below}
use Rattle.slub_common.specs.Times.{times}
use Rattle.slub_common.proofs.Times.{times-above, times-append, times-cons}
use Rattle.slub_trace.specs.declared.event.Act.{Act}
use Rattle.slub_trace.specs.declared.event.Act.TheVariants as act
use Rattle.slub_trace.specs.declared.event.Event.{Event}
use Rattle.slub_trace.specs.declared.trace.Client.{Client as Asked}
use Rattle.slub_trace.specs.declared.trace.Client.TheVariants as line
use Rattle.slub_trace.specs.declared.trace.Item.{Item}
use Rattle.slub_trace.specs.declared.trace.Item.TheVariants as item
use Rattle.slub_trace.specs.declared.trace.Trace.{Trace}
use Rattle.slub_trace.specs.Sound.{IsSound, IsSoundAct, IsSoundClient, IsSoundEvent, IsSoundItem, asked_objects, events_in, objects_in, objects_of}
use Rattle.slub_law_rounds.proofs.Times.{one_where}

-- ---- numbers of the machine

events-within : (trace : Trace) (workers : ℕ) (events : List Event) → All (IsSoundEvent trace workers) events → (object : ℕ) → 0 < times object (objects_of events) → object < trace.objects + 1
events-within trace workers [] sound object some = absurd (omega (arith, some))
events-within trace workers (event ∷ events) sound object some =
    by event.act refl (All-head (IsSoundEvent trace workers) event events sound).act (λ there. events-within trace workers events (All-tail (IsSoundEvent trace workers) event events sound) object there)
  where
    own : (number : ℕ) → number ≤ trace.objects → 0 < times object (number ∷ objects_of events) → (0 < times object (objects_of events) → object < trace.objects + 1) → (b : Bool) → eqb number object ≡ b → object < trace.objects + 1
    own number known there rest true same = let e : number ≡ object = grind (arith, nat_tests, same) in omega (arith, e, known)
    own number known there rest false other =
        let here : one_where (eqb number object) ≡ 0 = rw other refl in
        rest (omega (arith, there, times-cons object number (objects_of events), here))

    by : (a : Act) → event.act ≡ a → IsSoundAct trace event.act → (0 < times object (objects_of events) → object < trace.objects + 1) → object < trace.objects + 1
    by (act.Alloc place number) is sound rest =
        let all : objects_of (event ∷ events) ≡ number ∷ objects_of events = rw is refl in
        let known : IsSoundAct trace (act.Alloc place number) = subst (IsSoundAct trace) is sound in
        own number known.2 (subst (λ (xs : List ℕ). 0 < times object xs) all some) rest (eqb number object) refl
    by _ is sound rest = let all : objects_of (event ∷ events) ≡ objects_of events = rw is refl in rest (subst (λ (xs : List ℕ). 0 < times object xs) all some)

range-within : (trace : Trace) (first count object : ℕ) → first + count ≤ trace.objects + 1 → 0 < times object (range_with_len first count) → object < trace.objects + 1
range-within trace first count object last some = elim (cases_lt object (first + count)) [
  | inl below ↦ omega (arith, below, last)
  | inr above ↦ absurd (let never : ⊥ = omega (arith, some, times-above first count object above) in never)
]

one-within : (trace : Trace) (number object : ℕ) → number ≤ trace.objects → 0 < times object (number ∷ []) → object < trace.objects + 1
one-within trace number object known some = by (eqb number object) refl
  where
    by : (b : Bool) → eqb number object ≡ b → object < trace.objects + 1
    by true same = let e : number ≡ object = grind (arith, nat_tests, same) in omega (arith, e, known)
    by false other =
        let here : one_where (eqb number object) ≡ 0 = rw other refl in
        absurd (let never : ⊥ = omega (arith, some, times-cons object number [], here) in never)

client-within : (trace : Trace) (client : Asked) → IsSoundClient trace client → (object : ℕ) → 0 < times object (asked_objects client) → object < trace.objects + 1
client-within trace line.Kmalloc sound object some = absurd (omega (arith, some))
client-within trace (line.Kget cpu size number) sound object some = one-within trace number object sound.2.1 some
client-within trace (line.Krealloc cpu number size fresh) sound object some = one-within trace fresh object sound.3.1 some
client-within trace (line.Bulk cpu place first count) sound object some = range-within trace first count object (omega (arith, sound.2.0, sound.2.1, sound.2.3)) some
client-within trace (line.Bulkfree cpu first count) sound object some = absurd (omega (arith, some))
client-within trace (line.Mempool pool place min first) sound object some = range-within trace first min object (omega (arith, sound.2.0, sound.2.1, sound.2.3)) some
client-within trace (line.Mget cpu pool number) sound object some = one-within trace number object sound.2.1 some
client-within trace (line.Mput cpu pool number) sound object some = absurd (omega (arith, some))

item-within : (trace : Trace) (it : Item) → IsSoundItem trace it → (object : ℕ) → 0 < times object (objects_in it) → object < trace.objects + 1
item-within trace (item.Round round) sound object some = events-within trace round.workers round.events sound.events object some
item-within trace (item.Client client) sound object some = client-within trace client sound object some
item-within trace _ sound object some = absurd (omega (arith, some))

-- what sound items allocate are numbers of the machine
pub items-within : (trace : Trace) (items : List Item) → All (IsSoundItem trace) items → (object : ℕ) → 0 < times object (flat_map objects_in items) → object < trace.objects + 1
items-within trace [] sound object some = absurd (omega (arith, some))
items-within trace (it ∷ items) sound object some = elim (cases_lt 0 (times object (objects_in it))) [
  | inl here ↦ item-within trace it (All-head (IsSoundItem trace) it items sound) object here
  | inr none ↦ items-within trace items (All-tail (IsSoundItem trace) it items sound) object (omega (arith, some, none, times-append object (objects_in it) (flat_map objects_in items)))
]

-- ---- no more than the machine has

-- a number that is found in a list stands in it
found-times : (number : ℕ) (numbers : List ℕ) → list_any (eqb number) numbers ≡ true → 0 < times number numbers
found-times number [] found = absurd (let never : ⊥ = cc in never)
found-times number (other ∷ numbers) found = by (eqb number other) refl found (λ later. found-times number numbers later)
  where
    by : (b : Bool) → eqb number other ≡ b → (b || list_any (eqb number) numbers) ≡ true → (list_any (eqb number) numbers ≡ true → 0 < times number numbers) → 0 < times number (other ∷ numbers)
    by true same found rest =
        let here : one_where (eqb other number) ≡ 1 = grind (arith, nat_tests, same) in
        omega (arith, here, times-cons number other numbers)
    by false differ found rest = omega (arith, rest found, times-cons number other numbers)

-- different numbers of the machine are no more than it has
pub numbers-few : (trace : Trace) → IsSound trace → length (flat_map objects_in trace.items) ≤ trace.objects + 1
numbers-few trace sound =
    length-le_from_distinct_below (flat_map objects_in trace.items) (trace.objects + 1) sound.distinct (λ number found. items-within trace trace.items sound.items number (found-times number (flat_map objects_in trace.items) found))

-- ---- the events of one item

-- 24 bits hold how many they are
abbrev pub IsBrief : Item → Type 0
IsBrief it = length (events_in it) ≤ 2 ^ 24

each-brief : (items : List Item) → length (flat_map events_in items) ≤ 2 ^ 24 → All IsBrief items
each-brief [] few = λ k d below. absurd (let never : ⊥ = omega (arith, below) in never)
each-brief (it ∷ items) few =
    let all = length-append (events_in it) (flat_map events_in items) in
    All-cons IsBrief it items (omega (arith, few, all)) (each-brief items (omega (arith, few, all)))

pub items-brief : (trace : Trace) → IsSound trace → All IsBrief trace.items
items-brief trace sound = each-brief trace.items (omega (arith, sound.brief))

-- ---- the first items, and the others

-- what holds of all items holds of the first of them
pub front : (P : Item → Type 0) (n : ℕ) (items : List Item) → All P items → All P (take n items)
front P zero items all = λ k d within. absurd (omega (arith, within))
front P (suc n) [] all = all
front P (suc n) (it ∷ items) all = All-cons P it (take n items) (All-head P it items all) (front P n items (All-tail P it items all))

-- a number comes no more often among some of the items than among all
pub times-first : (object n : ℕ) (items : List Item) → times object (flat_map objects_in (take n items)) ≤ times object (flat_map objects_in items)
times-first object zero items = omega arith
times-first object (suc n) [] = omega arith
times-first object (suc n) (it ∷ items) =
    omega (arith, times-first object n items, times-append object (objects_in it) (flat_map objects_in items), times-append object (objects_in it) (flat_map objects_in (take n items)))

pub times-later : (object n : ℕ) (items : List Item) → times object (flat_map objects_in (drop n items)) ≤ times object (flat_map objects_in items)
times-later object zero items = omega arith
times-later object (suc n) [] = omega arith
times-later object (suc n) (it ∷ items) = omega (arith, times-later object n items, times-append object (objects_in it) (flat_map objects_in items))

-- nor are numbers more
pub length-first : (n : ℕ) (items : List Item) → length (flat_map objects_in (take n items)) ≤ length (flat_map objects_in items)
length-first zero items = omega arith
length-first (suc n) [] = omega arith
length-first (suc n) (it ∷ items) =
    omega (arith, length-first n items, length-append (objects_in it) (flat_map objects_in items), length-append (objects_in it) (flat_map objects_in (take n items)))
