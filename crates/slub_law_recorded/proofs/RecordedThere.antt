-- Each free of items is of an object that is there: one event more, one item more, and what follows of any place.
use Rattle.std.proofs.Common.{◌≡◌, ℕ, List, [], ◌∷◌, ◌++◌, append_assoc, sym, subst}
use Rattle.std.specs.Prelude.{IfSome}
use Rattle.std.proofs.lemmas.List.{append-nil}
use Rattle.slub_trace.specs.declared.event.Act.{Act}
use Rattle.slub_trace.specs.declared.event.Act.TheVariants as act
use Rattle.slub_trace.specs.declared.event.Event.{Event}
use Rattle.slub_trace.specs.declared.trace.Item.{Item}
use Rattle.slub_trace.specs.declared.trace.Item.TheVariants.{Round}
use Rattle.slub_trace.specs.declared.trace.Trace.{Trace}
use Rattle.slub_trace.specs.Sound.{events_in}
use Rattle.slub_law_recorded.specs.Paired.{IsEventAt, IsThere, freed}

-- ---- events

-- where an event behind these items, and in its round behind these events, frees an object, that is there
abbrev pub IsFreeThere : List Item → List Event → Event → Type 0
IsFreeThere before earlier event = IfSome (freed event.act) (λ object. IsThere before earlier event.worker object)

-- so is each of these events, behind those before it
abbrev pub AreFreesThere : List Item → List Event → List Event → Type 0
AreFreesThere before earlier [] = Unit {0}
AreFreesThere before earlier (event ∷ events) = IsFreeThere before earlier event × AreFreesThere before (earlier ++ event ∷ []) events

pub frees_push : (before : List Item) (earlier events : List Event) (event : Event) → AreFreesThere before earlier events → IsFreeThere before (earlier ++ events) event
    → AreFreesThere before earlier (events ++ event ∷ [])
frees_push before earlier [] event there more =
    let P : List Event → Type 0 = λ es. IsFreeThere before es event in
    (subst P (append-nil earlier) more, tt)
frees_push before earlier (e ∷ es) event there more =
    let P : List Event → Type 0 = λ all. IsFreeThere before all event in
    (there.0, frees_push before (earlier ++ e ∷ []) es event there.1 (subst P (sym (append_assoc earlier (e ∷ []) es)) more))

frees_at : (before : List Item) (earlier events : List Event) (event : Event) (later : List Event) → AreFreesThere before earlier (events ++ event ∷ later) → IsFreeThere before (earlier ++ events) event
frees_at before earlier [] event later there =
    let P : List Event → Type 0 = λ es. IsFreeThere before es event in
    subst P (sym (append-nil earlier)) there.0
frees_at before earlier (e ∷ es) event later there =
    let P : List Event → Type 0 = λ all. IsFreeThere before all event in
    subst P (append_assoc earlier (e ∷ []) es) (frees_at before (earlier ++ e ∷ []) es event later there.1)

-- ---- items

abbrev pub AreThere : List Item → List Item → Type 0
AreThere before [] = Unit {0}
AreThere before (item ∷ items) = AreFreesThere before [] (events_in item) × AreThere (before ++ item ∷ []) items

pub there_push : (before items : List Item) (item : Item) → AreThere before items → AreFreesThere (before ++ items) [] (events_in item) → AreThere before (items ++ item ∷ [])
there_push before [] item there more =
    let P : List Item → Type 0 = λ all. AreFreesThere all [] (events_in item) in
    (subst P (append-nil before) more, tt)
there_push before (i ∷ is) item there more =
    let P : List Item → Type 0 = λ all. AreFreesThere all [] (events_in item) in
    (there.0, there_push (before ++ i ∷ []) is item there.1 (subst P (sym (append_assoc before (i ∷ []) is)) more))

there_at : (before items : List Item) (item : Item) (after : List Item) → AreThere before (items ++ item ∷ after) → AreFreesThere (before ++ items) [] (events_in item)
there_at before [] item after there =
    let P : List Item → Type 0 = λ all. AreFreesThere all [] (events_in item) in
    subst P (sym (append-nil before)) there.0
there_at before (i ∷ is) item after there =
    let P : List Item → Type 0 = λ all. AreFreesThere all [] (events_in item) in
    subst P (append_assoc before (i ∷ []) is) (there_at (before ++ i ∷ []) is item after there.1)

-- ---- any free of a trace

pub there_in : (trace : Trace) → AreThere [] trace.items → (before : List Item) (earlier : List Event) (event : Event) (object : ℕ) → IsEventAt trace before earlier event → event.act ≡ act.Free object
    → IsThere before earlier event.worker object
there_in trace there before earlier event object at is =
    let P : List Item → Type 0 = λ items. AreThere [] items in
    let Q : List Event → Type 0 = λ events. AreFreesThere before [] events in
    let R : Act → Type 0 = λ a. IfSome (freed a) (λ o. IsThere before earlier event.worker o) in
    let whole : AreFreesThere before [] at.round.events = there_at [] before (Round at.round) at.after (subst P at.items there) in
    subst R is (frees_at before [] earlier event at.later (subst Q at.events whole))
