-- What holds of every trace that is read, in the words of the trace alone.
use Rattle.std.specs.Prelude.{◌≡◌, ℕ, ◌+◌, ◌-◌, ◌^◌, ◌<◌, ◌≤◌, pos, neg_ℤ, ◌≤ℤ◌, Bool, true, false, ◌==◌, ◌&&◌, ◌||◌, if◌then◌else◌, List, [], ◌∷◌, length, Option, Some, None, All, filter_map, flat_map, nat_eq, ⊤}
use Rattle.std.specs.List.{IsDistinct, range_with_len}
use Rattle.std.specs.Str.{bytes_eq}
use Rattle.slub_trace.specs.declared.event.Act.{Act}
use Rattle.slub_trace.specs.declared.event.Act.TheVariants as act
use Rattle.slub_trace.specs.declared.event.Event.{Event}
use Rattle.slub_trace.specs.declared.event.Round.{Round as Events}
use Rattle.slub_object_layout.specs.Name.{IsName}
use Rattle.slub_object_layout.specs.declared.layout.Setting.{Setting}
use Rattle.slub_object_layout.specs.declared.layout.Setting.TheVariants.{MinPartial, CpuPartial}
use Rattle.slub_trace.specs.declared.trace.Client.{Client as Asked}
use Rattle.slub_trace.specs.declared.trace.Client.TheVariants.{Kmalloc, Kget, Krealloc, Bulk, Bulkfree, Mempool, Mget, Mput}
use Rattle.slub_trace.specs.declared.trace.Item.{Item}
use Rattle.slub_trace.specs.declared.trace.Item.TheVariants.{Cache, Round, Shrink, Destroy, Slabinfo, Tune, Client}
use Rattle.slub_trace.specs.declared.trace.Trace.{Trace}
use Rattle.slub_trace.specs.Ranges.{IsAskedSize, IsTid}

-- ---- objects

-- the object that an act allocates, where it allocates one
abbrev pub allocated : Act → Option ℕ
allocated (act.Alloc place object) = Some object
allocated (act.Free object) = None
allocated (act.Write word object value) = None
allocated (act.Read word object) = None
allocated (act.Poke object offset byte) = None
allocated (act.Trim place) = None
allocated act.Flush = None

-- the objects that events allocate, in their order
abbrev pub objects_of : List Event → List ℕ
objects_of events = filter_map (λ event. allocated event.act) events

-- the numbers that a client may allocate
abbrev pub asked_objects : Asked → List ℕ
asked_objects Kmalloc = []
asked_objects (Kget cpu size object) = object ∷ []
asked_objects (Krealloc cpu object size fresh) = fresh ∷ []
asked_objects (Bulk cpu place first count) = range_with_len first count
asked_objects (Bulkfree cpu first count) = []
asked_objects (Mempool pool place min first) = range_with_len first min
asked_objects (Mget cpu pool object) = object ∷ []
asked_objects (Mput cpu pool object) = []

-- the objects that an item may allocate
abbrev pub objects_in : Item → List ℕ
objects_in (Cache name spec) = []
objects_in (Round round) = objects_of round.events
objects_in (Shrink name) = []
objects_in (Destroy name) = []
objects_in Slabinfo = []
objects_in (Tune name setting) = []
objects_in (Client client) = asked_objects client

-- the events of an item
abbrev pub events_in : Item → List Event
events_in (Cache name spec) = []
events_in (Round round) = round.events
events_in (Shrink name) = []
events_in (Destroy name) = []
events_in Slabinfo = []
events_in (Tune name setting) = []
events_in (Client client) = []

-- ---- events

-- object numbers of the trace, words and offsets of their ranges
abbrev pub IsSoundAct : Trace → Act → Type 0
IsSoundAct trace (act.Alloc place object) =
    (place < length trace.names) × (1 ≤ object) × (object ≤ trace.objects)
IsSoundAct trace (act.Free object) = (1 ≤ object) × (object ≤ trace.objects)
IsSoundAct trace (act.Write word object value) =
    (1 ≤ object) × (object ≤ trace.objects) × (word ≤ 4095)
IsSoundAct trace (act.Read word object) = (1 ≤ object) × (object ≤ trace.objects) × (word ≤ 4095)
IsSoundAct trace (act.Poke object offset byte) =
    (1 ≤ object) × (object ≤ trace.objects) × (neg_ℤ (pos 32768) ≤ℤ offset) × (offset ≤ℤ pos 32767)
IsSoundAct trace (act.Trim place) = place < length trace.names
IsSoundAct trace act.Flush = ⊤

-- CPU 0 is named where an act needs none
abbrev pub IsSoundCpu : Act → ℕ → Type 0
IsSoundCpu (act.Alloc place object) cpu = ⊤
IsSoundCpu (act.Free object) cpu = ⊤
IsSoundCpu (act.Write word object value) cpu = cpu ≡ 0
IsSoundCpu (act.Read word object) cpu = cpu ≡ 0
IsSoundCpu (act.Poke object offset byte) cpu = cpu ≡ 0
IsSoundCpu (act.Trim place) cpu = cpu ≡ 0
IsSoundCpu act.Flush cpu = ⊤

-- by a worker of its round, on a CPU of the machine
pub record IsSoundEvent (trace : Trace) (workers : ℕ) (event : Event) : Type 0 where
  pub worker : event.worker < workers
  pub cpu : event.cpu < trace.cpus
  pub act : IsSoundAct trace event.act
  pub idle : IsSoundCpu event.act event.cpu

-- ---- reads

-- an act of a worker bears on whether a word of an object was written by this one
abbrev pub written_after : Act → Bool → ℕ → ℕ → Bool → Bool
written_after (act.Alloc place other) same object word before =
    if other == object then false else before
written_after (act.Write at other value) same object word before =
    (same && (other == object) && (at == word)) || before
written_after _ same object word before = before

-- among these events, the last one first, the worker wrote the word of the object, and after that
-- nobody allocated the object
abbrev pub is_written : List Event → ℕ → ℕ → ℕ → Bool
is_written [] worker object word = false
is_written (event ∷ events) worker object word =
    written_after event.act (event.worker == worker) object word
    (is_written events worker object word)

-- a read is of a word that its worker wrote before in the round
abbrev pub IsReadable : List Event → Event → Act → Type 0
IsReadable before event (act.Read word object) =
    is_written before event.worker object word ≡ true
IsReadable before event _ = ⊤

-- so is each of these events, by those before it, the last one first
abbrev pub AreReadable : List Event → List Event → Type 0
AreReadable before [] = ⊤
AreReadable before (event ∷ events) =
    IsReadable before event event.act × AreReadable (event ∷ before) events

-- ---- items

pub record IsSoundRound (trace : Trace) (round : Events) : Type 0 where
  pub workers : (1 ≤ round.workers) × (round.workers ≤ 16)
  pub events : All (IsSoundEvent trace round.workers) round.events
  pub readable : AreReadable [] round.events

-- the number that is set of a cache is in its range
abbrev pub IsSoundSetting : Setting → Type 0
IsSoundSetting (MinPartial number) = number ≤ 4096
IsSoundSetting (CpuPartial number) = number ≤ 4096

-- an object number of the trace
abbrev pub IsSoundObject : Trace → ℕ → Type 0
IsSoundObject trace object = (1 ≤ object) × (object ≤ trace.objects)

-- at most so many object numbers of the trace, from the first on
abbrev pub AreSoundObjects : Trace → ℕ → ℕ → ℕ → Type 0
AreSoundObjects trace most first count =
    (1 ≤ first) × (1 ≤ count) × (count ≤ most) × (first + count - 1 ≤ trace.objects)

-- on CPUs of the machine, with places, names and object numbers of the trace
abbrev pub IsSoundClient : Trace → Asked → Type 0
IsSoundClient trace Kmalloc = ⊤
IsSoundClient trace (Kget cpu size object) =
    (cpu < trace.cpus) × IsAskedSize size × IsSoundObject trace object
IsSoundClient trace (Krealloc cpu object size fresh) =
    (cpu < trace.cpus) × IsSoundObject trace object × IsAskedSize size × IsSoundObject trace fresh
IsSoundClient trace (Bulk cpu place first count) =
    (cpu < trace.cpus) × (place < length trace.names) × AreSoundObjects trace 1024 first count
IsSoundClient trace (Bulkfree cpu first count) =
    (cpu < trace.cpus) × AreSoundObjects trace 1024 first count
IsSoundClient trace (Mempool pool place min first) =
    IsName pool × (place < length trace.names) × AreSoundObjects trace 64 first min
IsSoundClient trace (Mget cpu pool object) =
    (cpu < trace.cpus) × IsName pool × IsSoundObject trace object
IsSoundClient trace (Mput cpu pool object) =
    (cpu < trace.cpus) × IsName pool × IsSoundObject trace object

abbrev pub IsSoundItem : Trace → Item → Type 0
IsSoundItem trace (Cache name spec) = name < length trace.names
IsSoundItem trace (Round round) = IsSoundRound trace round
IsSoundItem trace (Shrink name) = name < length trace.names
IsSoundItem trace (Destroy name) = name < length trace.names
IsSoundItem trace Slabinfo = ⊤
IsSoundItem trace (Tune name setting) = (name < length trace.names) × IsSoundSetting setting
IsSoundItem trace (Client client) = IsSoundClient trace client

-- ---- the trace

pub record IsSound (trace : Trace) : Type 0 where
  pub version : (1 ≤ trace.version) × (trace.version ≤ 4)
  pub frames : (2 ≤ trace.frames) × (trace.frames ≤ 4096)
  pub cpus : (1 ≤ trace.cpus) × (trace.cpus ≤ 16)
  pub tid : IsTid trace.cpus (Some trace.tid)
  pub objects : trace.objects ≤ 1048576
  pub few : length trace.names < 2 ^ 32
  pub named : All IsName trace.names
  pub differ : IsDistinct bytes_eq trace.names
  pub items : All (IsSoundItem trace) trace.items
  -- no object number is allocated twice
  pub distinct : IsDistinct nat_eq (flat_map objects_in trace.items)
  -- each event has a line
  pub brief : length (flat_map events_in trace.items) ≤ 16777216
