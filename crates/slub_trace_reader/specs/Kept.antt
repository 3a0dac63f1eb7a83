-- For proofs and private clauses: what is kept while a load is made.
use Rattle.std.specs.Prelude.{◌≡◌, ℕ, List, [], ◌++◌, slice_index_or}
use Rattle.slub_trace.specs.declared.event.Event.{Event}
use Rattle.slub_trace.specs.Sound.{objects_of}
use Rattle.slub_trace_reader.specs.Load.{freed_of, events_of}

-- these are what each worker holds after events, longest held first: all that it allocated are
-- those that it freed, and behind them these
abbrev pub AreHeld : List Event → List (List ℕ) → Type 0
AreHeld events held = (worker : ℕ) →
    objects_of (events_of worker events)
    ≡ freed_of (events_of worker events) ++ slice_index_or held worker []
