-- What the workers of a load do, and the trace that says so.
use Rattle.std.specs.Prelude.{ℕ, zero, suc, ◌+◌, ◌*◌, ◌%◌, ◌==◌, ◌&&◌, ◌||◌, nat_lt, if◌then◌else◌, Bool, true, false, Option, Some, None, List, [], ◌∷◌, ◌++◌, length, drop, fold, map, filter, filter_map, flat_map, max, slice_index, codes}
use Rattle.std.specs.List.{range_with_len}
use Rattle.slub_trace.specs.declared.event.Act.{Act}
use Rattle.slub_trace.specs.declared.event.Act.TheVariants.{Alloc, Free, Write, Read, Poke, Trim, Flush}
use Rattle.slub_trace.specs.declared.event.Event.{Event}
use Rattle.slub_object_layout.specs.declared.layout.Flags.{Flags}
use Rattle.slub_trace.specs.declared.trace.Item.{Item}
use Rattle.slub_trace.specs.declared.trace.Item.TheVariants.{Cache, Round, Shrink}
use Rattle.slub_trace.specs.declared.trace.Trace.{Trace}
use Rattle.slub_trace.specs.Sound.{objects_of}
use Rattle.slub_trace_reader.specs.Generator.{number}

-- ---- who holds what

-- the object that an act frees, where it frees one
abbrev pub freed : Act → Option ℕ
freed (Alloc place object) = None
freed (Free object) = Some object
freed (Write word object value) = None
freed (Read word object) = None
freed (Poke object offset byte) = None
freed (Trim place) = None
freed Flush = None

-- the objects that events free, in their order
abbrev pub freed_of : List Event → List ℕ
freed_of events = filter_map (λ event. freed event.act) events

-- the events of a worker
abbrev pub events_of : ℕ → List Event → List Event
events_of worker events = filter (λ event. event.worker == worker) events

-- what a worker holds after events, longest held first: the objects that it allocated, but for
-- as many at the front as it freed
unfoldable pub held_by : ℕ → List Event → List ℕ
held_by worker events =
    drop (length (freed_of (events_of worker events))) (objects_of (events_of worker events))

-- ---- one event

-- a worker frees an object
abbrev pub free_by : ℕ → ℕ → ℕ → Event
free_by worker cpu object = record {
  line = 0;
  worker = worker;
  cpu = cpu;
  act = Free object;
}

-- a worker allocates an object of the cache at this place of the names
abbrev pub alloc_by : ℕ → ℕ → ℕ → ℕ → Event
alloc_by worker cpu place object = record {
  line = 0;
  worker = worker;
  cpu = cpu;
  act = Alloc place object;
}

-- a worker that holds these frees at this number below 8, and else allocates
abbrev pub is_free : List ℕ → ℕ → Bool
is_free held eighth = (length held == 64) || (nat_lt eighth 3 && nat_lt 0 (length held))

-- the event of a worker that holds these, where `fresh` is the next object number
unfoldable pub event_of : List ℕ → ℕ → ℕ → ℕ → Event
event_of held worker eighth fresh =
    if is_free held eighth then free_by worker ((worker + eighth) % 4) (slice_index held 0)
    else alloc_by worker (worker % 4) (eighth % 3) fresh

-- the event behind others of a worker
unfoldable pub event_behind : List Event → ℕ → ℕ → Event
event_behind events worker eighth =
    event_of (held_by worker events) worker eighth (length (objects_of events) + 1)

-- ---- all events

-- the first events, so many: the one behind `before` others is of the two numbers that are drawn
-- after two for each of those
unfoldable pub drawn_events : ℕ → ℕ → ℕ → List Event
drawn_events seed workers zero = []
drawn_events seed workers (suc before) =
    drawn_events seed workers before
    ++ event_behind (drawn_events seed workers before) (number seed (2 * before) % workers)
    (number seed (2 * before + 1) % 8)
    ∷ []

-- a worker frees what it holds after events, longest held first
unfoldable pub last_frees : List Event → ℕ → List Event
last_frees events worker = map (free_by worker (worker % 4)) (held_by worker events)

-- events, and behind them each worker from 0 on frees what it still holds
unfoldable pub emptied : ℕ → List Event → List Event
emptied workers events = events ++ flat_map (last_frees events) (range_with_len 0 workers)

-- the events of a load
unfoldable pub load_events : ℕ → ℕ → ℕ → List Event
load_events seed count workers = emptied workers (drawn_events seed workers count)

-- ---- the trace

-- no flags
abbrev pub plain : Flags
plain = record {
  line = false;
  reclaim = false;
  checks = false;
  zones = false;
  poison = false;
  user = false;
  trace = false;
  fail = false;
}

-- the names of the caches
unfoldable pub cache_names : List (List ℕ)
cache_names = codes "dentry" ∷ codes "filp" ∷ codes "node" ∷ []

-- the creation of a cache of this size whose objects are aligned to a word
abbrev pub create : ℕ → ℕ → Flags → Item
create name size flags = Cache name (record { size = size; align = 8; flags = flags })

-- the creations of the caches
abbrev pub creations : List Item
creations =
    create 0 192 (record plain { reclaim = true }) ∷ create 1 256 (record plain { line = true })
    ∷ create 2 128 plain ∷ []

-- what there is to do: creations, one round, shrinks
abbrev pub items_of : ℕ → List Event → List Item
items_of workers events =
    creations ++ Round (record { workers = workers; events = events })
    ∷ Shrink 0 ∷ Shrink 1 ∷ Shrink 2 ∷ []

-- the trace that does these events
abbrev pub trace_of : ℕ → List Event → Trace
trace_of workers events = record {
  version = 1;
  frames = 4096;
  cpus = 4;
  tid = 0;
  objects = fold max 0 (objects_of events);
  names = cache_names;
  items = items_of workers events;
}

-- the load of a seed: so many drawn events of so many workers
unfoldable pub load_of : ℕ → ℕ → ℕ → Trace
load_of seed count workers = trace_of workers (load_events seed count workers)
