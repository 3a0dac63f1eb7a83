-- Trims are of names of the trace.
use Rattle.std.proofs.Common.{◌≡◌, ℕ, List, [], length, slice_index_or, sym, subst, arith, inl, inr}
use Rattle.std.specs.Prelude.{All}
use Rattle.std.specs.List.{range_with_len}
use Rattle.std.proofs.lemmas.List.{get_or_past}
use Rattle.std.proofs.lemmas.Bool.{cases_lt}
use Rattle.std.proofs.lemmas.List.Elements.{All-filter, All-map}
use Rattle.std.proofs.lemmas.List.FromFn.{length-map-range_with_len}
use Rattle.slub_trace.specs.declared.event.Event.{Event}
use Rattle.slub_slabinfo_text.specs.Texts.{IsNamed}
use Rattle.slub_turn_text.specs.Labels.{RoundLabels, AreNamed, no_event, events_of, share_of, shares_of}

-- what holds of all elements and of another value holds of each that is read
at-or : {X : Type 0} (P : X → Type 0) (xs : List X) (i : ℕ) (d : X) → All P xs → P d → P (slice_index_or xs i d)
at-or P xs i d all none = elim (cases_lt i (length xs)) [
  | inl within ↦ all i d within
  | inr past ↦ subst P (sym (get_or_past xs i d past)) none
]

-- those of a worker are
pub events-named : (labels : RoundLabels) (worker : ℕ) → AreNamed labels → All (λ event. IsNamed labels.names event.act) (events_of labels worker)
unfolding events_of
events-named labels worker named =
    let P : Event → Type 0 = λ event. IsNamed labels.names event.act in
    at-or (All P) labels.events worker [] named (λ k d within. absurd (omega (arith, within)))

-- the event of a number is, where all are
pub event-named : (names : List (List ℕ)) (events : List Event) (number : ℕ) → All (λ event. IsNamed names event.act) events
    → IsNamed names (slice_index_or events number no_event).act
event-named names events number named =
    let P : Event → Type 0 = λ event. IsNamed names event.act in
    at-or P events number no_event named tt

-- the shares of events that are
pub shares-named : (names : List (List ℕ)) (events : List Event) (workers : ℕ) → All (λ event. IsNamed names event.act) events
    → All (All (λ event. IsNamed names event.act)) (shares_of events workers)
unfolding share_of
shares-named names events workers named =
    let P : Event → Type 0 = λ event. IsNamed names event.act in
    All-map (All P) (share_of events) (range_with_len 0 workers)
    (λ k d within. All-filter _ P events named)

pub shares-length : (events : List Event) (workers : ℕ) → length (shares_of events workers) ≡ workers
shares-length events workers = length-map-range_with_len (share_of events) 0 workers
