-- Traces in which each object is allocated once and freed at most once, by a worker that has it
-- then.
use Rattle.std.specs.Prelude.{◌≡◌, ℕ, ◌⊎◌, List, ◌∷◌, ◌++◌, filter_map, flat_map, Option, Some, None, All, Contains, nat_eq, ⊤}
use Rattle.std.specs.List.{IsDistinct}
use Rattle.slub_trace.specs.declared.event.Act.{Act}
use Rattle.slub_trace.specs.declared.event.Act.TheVariants as act
use Rattle.slub_trace.specs.declared.event.Event.{Event}
use Rattle.slub_trace.specs.declared.event.Round.{Round as Events}
use Rattle.slub_trace.specs.declared.trace.Item.{Item}
use Rattle.slub_trace.specs.declared.trace.Item.TheVariants.{Cache, Round, Slabinfo, Tune}
use Rattle.slub_trace.specs.declared.trace.Trace.{Trace}
use Rattle.slub_trace.specs.Sound.{events_in, objects_in, objects_of}
use Rattle.slub_calls.specs.Calls.{events_by}

-- ---- what is in it

-- the object that an act frees, where it frees one
abbrev pub freed : Act → Option ℕ
freed (act.Free object) = Some object
freed _ = None

-- the objects that events free, in their order
abbrev pub freed_of : List Event → List ℕ
freed_of events = filter_map (λ event. freed event.act) events

-- all events of a trace, in their order
abbrev pub events_of : Trace → List Event
events_of trace = flat_map events_in trace.items

-- an allocation or a free
abbrev pub IsPairingAct : Act → Type 0
IsPairingAct (act.Alloc place object) = ⊤
IsPairingAct (act.Free object) = ⊤
IsPairingAct _ = ⊥

-- a cache or a setting of one, slabinfo, or a round of allocations and frees
abbrev pub IsPairingItem : Item → Type 0
IsPairingItem (Cache name spec) = ⊤
IsPairingItem (Tune name setting) = ⊤
IsPairingItem Slabinfo = ⊤
IsPairingItem (Round round) = All (λ event. IsPairingAct event.act) round.events
IsPairingItem _ = ⊥

-- ---- who has what

-- an event of a trace: behind these items, and in its round behind these events
pub record IsEventAt (trace : Trace) (before : List Item) (earlier : List Event)
    (event : Event) : Type 0 where
  pub round : Events
  pub after : List Item
  pub later : List Event
  pub items : trace.items ≡ before ++ Round round ∷ after
  pub events : round.events ≡ earlier ++ event ∷ later

-- the worker allocated the object in its round, or somebody in a round before
abbrev pub IsThere : List Item → List Event → ℕ → ℕ → Type 0
IsThere before earlier worker object =
    Contains (objects_of (events_by worker earlier)) object
    ⊎ Contains (flat_map objects_in before) object

-- ---- the trace

-- that no object is allocated twice holds of every sound trace
pub record IsPaired (trace : Trace) : Type 0 where
  pub items : All IsPairingItem trace.items
  -- no object is freed twice
  pub once : IsDistinct nat_eq (freed_of (events_of trace))
  -- each is freed behind its allocation, by the worker that has it, or in a later round by any
  pub there : (before : List Item) (earlier : List Event) (event : Event) (object : ℕ)
      → IsEventAt trace before earlier event → event.act ≡ act.Free object
      → IsThere before earlier event.worker object
