-- What lines name: the caches of the machine, and the events of the round.
use Rattle.std.specs.Prelude.{ℕ, ◌-◌, ◌==◌, is_some, if◌then◌else◌, List, [], length, map, filter, slice_index_or, Option, None, unwrap_or, All}
use Rattle.std.specs.List.{range_with_len}
use Rattle.slub_trace.specs.declared.event.Event.{Event}
use Rattle.slub_trace.specs.declared.event.Act.TheVariants.{Flush}
use Rattle.slub_slabinfo_text.specs.Texts.{IsNamed, act_words}
use Rattle.slub_core.specs.Local.{Local}
use Rattle.slub_core.specs.Spots.{doing}

pub record RoundLabels : Type 0 where
  -- those of the trace
  pub names : List (List ℕ)
  -- of each live cache its title, by the cache's number
  pub titles : List (Option (List ℕ))
  -- of each worker its events, in the order of the text
  pub events : List (List Event)

-- each trim is of a name of the trace
abbrev pub AreNamed : RoundLabels → Type 0
AreNamed labels = All (All (λ event. IsNamed labels.names event.act)) labels.events

-- the events of a worker
unfoldable pub share_of : List Event → ℕ → List Event
share_of events worker = filter (λ event. event.worker == worker) events

-- those of each worker of a round
abbrev pub shares_of : List Event → ℕ → List (List Event)
shares_of events workers = map (share_of events) (range_with_len 0 workers)

-- how many workers there are
abbrev pub workers_in : RoundLabels → ℕ
workers_in labels = length labels.events

unfoldable pub title_of : RoundLabels → ℕ → List ℕ
title_of labels cache = unwrap_or (slice_index_or labels.titles cache None) []

-- ---- the event that a worker is in

-- where there is none
abbrev pub no_event : Event
no_event = record { line = 0; worker = 0; cpu = 0; act = Flush }

-- the events of this worker
unfoldable pub events_of : RoundLabels → ℕ → List Event
events_of labels worker = slice_index_or labels.events worker []

-- its event of this number, from 0 on
unfoldable pub event_at : RoundLabels → ℕ → ℕ → Event
event_at labels worker number = slice_index_or (events_of labels worker) number no_event

-- which of its events a worker is in: the first without a reply; or the last with one, where its
-- call was answered and goes on
unfoldable pub event_number : Local → ℕ
event_number l = if is_some (doing l.spot) then length l.done else length l.done - 1

-- how an event is named: `alloc 3`, `write 7 2`, `trim dentry`
unfoldable pub event_words : RoundLabels → Event → List ℕ
event_words labels event = act_words labels.names event.cpu event.act

-- the event of a worker's number, named
abbrev pub label_at : RoundLabels → ℕ → ℕ → List ℕ
label_at labels worker number = event_words labels (event_at labels worker number)
