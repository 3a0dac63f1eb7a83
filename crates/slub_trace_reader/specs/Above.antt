-- What the lines above a line say.
use Rattle.std.specs.Prelude.{ℕ, ◌+◌, Bool, true, false, ◌&&◌, ◌||◌, nat_eq, List, [], ◌∷◌, ◌++◌, unwrap_or, if◌then◌else◌, pos, neg_ℤ, ℤ, fold, max}
use Rattle.std.specs.List.{list_any, position_or_len}
use Rattle.std.specs.Str.{bytes_eq}
use Rattle.slub_trace.specs.declared.event.Act.{Act}
use Rattle.slub_trace.specs.declared.event.Act.TheVariants as act
use Rattle.slub_trace.specs.declared.event.Event.{Event}
use Rattle.slub_object_layout.specs.declared.layout.Setting.{Setting}
use Rattle.slub_object_layout.specs.declared.layout.Setting.TheVariants as setting
use Rattle.slub_object_layout.specs.declared.layout.Spec.{Spec}
use Rattle.slub_trace_reader.specs.declared.client.ClientLine.{ClientLine}
use Rattle.slub_trace_reader.specs.declared.client.ClientLine.TheVariants.{Kmalloc, Kget, Krealloc, Bulk, Bulkfree, Mempool, Mget, Mput}
use Rattle.slub_trace_reader.specs.declared.line.Knob.{Knob}
use Rattle.slub_trace_reader.specs.declared.line.Knob.TheVariants.{MinPartial, CpuPartial}
use Rattle.slub_trace_reader.specs.declared.line.Line.{Line}
use Rattle.slub_trace_reader.specs.declared.line.Line.TheVariants.{Passed, Slubtrace, Machine, Cache, Shrink, Destroy, Tune, Slabinfo, Client, Round, Alloc, Free, Write, Read, Poke, Trim, Flush, Done, End}
use Rattle.slub_trace_reader.specs.declared.place.Place.{Place}
use Rattle.slub_trace_reader.specs.declared.place.Place.TheVariants.{First, Second, Between, Within, After}
use Rattle.slub_trace.specs.declared.trace.Client.{Client as Asked}
use Rattle.slub_trace.specs.declared.trace.Client.TheVariants as client
use Rattle.slub_trace.specs.declared.trace.Item.{Item}
use Rattle.slub_trace.specs.declared.trace.Item.TheVariants as item
use Rattle.slub_trace.specs.declared.trace.Trace.{Trace}
use Rattle.slub_trace.specs.Classes.{class_names}
use Rattle.slub_trace_reader.specs.Numbers.{client_allocates}

-- what some lines say, passed-over lines counted
pub record Above : Type 0 where
  -- how many lines there are
  pub count : ℕ
  -- what may come next
  pub place : Place
  pub version : ℕ
  pub frames : ℕ
  pub cpus : ℕ
  pub tid : ℕ
  -- each name of a cache line once, in the order of the first lines that have them; a kmalloc line
  -- counts as one of each class
  pub names : List (List ℕ)
  -- each name of a mempool's reserve once
  pub pools : List (List ℕ)
  -- a kmalloc line is among them
  pub kmalloc : Bool
  -- the numbers that they may allocate
  pub objects : List ℕ
  -- how many rounds they begin, each client's line counted as two
  pub rounds : ℕ
  -- the worker, object and word of the write lines of the last round, each once
  pub written : List (ℕ × ℕ × ℕ)
  -- the items but a round that isn't ended, and the events of that
  pub items : List Item
  pub events : List Event

-- no lines
abbrev pub start : Above
start = record {
  count = 0;
  place = First;
  version = 0;
  frames = 0;
  cpus = 0;
  tid = 0;
  names = [];
  pools = [];
  kmalloc = false;
  objects = [];
  rounds = 0;
  written = [];
  items = [];
  events = [];
}

-- the thing stands last, where none that is equal to it stands there
abbrev pub with_one : {X : Type 0} → (X → X → Bool) → List X → X → List X
with_one eq things x = if list_any (eq x) things then things else things ++ x ∷ []

-- ---- names

-- where a name stands, or would stand last
abbrev pub place_of : List ℕ → List (List ℕ) → ℕ
place_of name names = position_or_len (bytes_eq name) names

-- each name once
abbrev pub with_name : List (List ℕ) → List ℕ → List (List ℕ)
with_name names name = with_one bytes_eq names name

-- some more names, each once
unfoldable pub with_names : List (List ℕ) → List (List ℕ) → List (List ℕ)
with_names names more = fold with_name names more

-- ---- words

-- the same worker, object and word
abbrev pub is_spot : ℕ × ℕ × ℕ → ℕ × ℕ × ℕ → Bool
is_spot x y = (nat_eq x.0 y.0 && nat_eq x.1 y.1) && nat_eq x.2 y.2

-- ---- events

-- an offset by its sign and its size
abbrev pub offset_of : Bool → ℕ → ℤ
offset_of true size = neg_ℤ (pos size)
offset_of false size = pos size

-- one event more, on the line that comes next
abbrev pub with_event : Above → ℕ → ℕ → Act → Above
with_event a worker cpu act = record a {
  count = a.count + 1;
  events = a.events ++ record { line = a.count + 1; worker = worker; cpu = cpu; act = act } ∷ [];
}

-- one item more
abbrev pub with_item : Above → Item → Above
with_item a item = record a { count = a.count + 1; items = a.items ++ item ∷ [] }

-- ---- items

-- what a tune line sets, and to which number
abbrev pub setting_of : Knob → ℕ → Setting
setting_of MinPartial number = setting.MinPartial number
setting_of CpuPartial number = setting.CpuPartial number

-- what a client's line asks, by the place of its name
abbrev pub asked_of : List (List ℕ) → ClientLine → Asked
asked_of names Kmalloc = client.Kmalloc
asked_of names (Kget cpu size object) = client.Kget cpu size object
asked_of names (Krealloc cpu object size fresh) = client.Krealloc cpu object size fresh
asked_of names (Bulk cpu name first count) = client.Bulk cpu (place_of name names) first count
asked_of names (Bulkfree cpu first count) = client.Bulkfree cpu first count
asked_of names (Mempool pool name min first) = client.Mempool pool (place_of name names) min first
asked_of names (Mget cpu pool object) = client.Mget cpu pool object
asked_of names (Mput cpu pool object) = client.Mput cpu pool object

-- the names of caches below a client's line
abbrev pub names_below : List (List ℕ) → ClientLine → List (List ℕ)
names_below names Kmalloc = with_names names class_names
names_below names _ = names

-- the names of reserves below a client's line
abbrev pub pools_below : List (List ℕ) → ClientLine → List (List ℕ)
pools_below pools (Mempool pool name min first) = with_name pools pool
pools_below pools _ = pools

abbrev pub is_kmalloc : ClientLine → Bool
is_kmalloc Kmalloc = true
is_kmalloc _ = false

-- a client's line more
abbrev pub with_client : Above → ClientLine → Above
with_client a line = record (with_item a (item.Client (asked_of a.names line))) {
  names = names_below a.names line;
  pools = pools_below a.pools line;
  kmalloc = a.kmalloc || is_kmalloc line;
  objects = a.objects ++ client_allocates line;
  rounds = a.rounds + 2;
}

-- the workers of the round that isn't ended
abbrev pub workers_in : Place → ℕ
workers_in First = 0
workers_in Second = 0
workers_in Between = 0
workers_in (Within workers) = workers
workers_in After = 0

-- ---- one line more

abbrev pub after : Above → Line → Above
after a Passed = record a { count = a.count + 1 }
after a (Slubtrace version) = record a { count = a.count + 1; place = Second; version = version }
after a (Machine frames cpus tid) =
    record a {
      count = a.count + 1;
      place = Between;
      frames = frames;
      cpus = cpus;
      tid = unwrap_or tid 0;
    }
after a (Cache name size align flags) =
    let spec : Spec = record { size = size; align = align; flags = flags } in
    record (with_item a (item.Cache (place_of name a.names) spec)) {
      names = with_name a.names name;
    }
after a (Shrink name) = with_item a (item.Shrink (place_of name a.names))
after a (Destroy name) = with_item a (item.Destroy (place_of name a.names))
after a (Tune name knob number) =
    with_item a (item.Tune (place_of name a.names) (setting_of knob number))
after a Slabinfo = with_item a item.Slabinfo
after a (Client line) = with_client a line
after a (Round workers) =
    record a {
      count = a.count + 1;
      place = Within workers;
      rounds = a.rounds + 1;
      written = [];
      events = [];
    }
after a (Alloc worker cpu name object) =
    record (with_event a worker cpu (act.Alloc (place_of name a.names) object))
    { objects = a.objects ++ object ∷ [] }
after a (Free worker cpu object) = with_event a worker cpu (act.Free object)
after a (Write worker object word value) =
    record (with_event a worker 0 (act.Write word object value))
    { written = with_one is_spot a.written (worker, object, word) }
after a (Read worker object word) = with_event a worker 0 (act.Read word object)
after a (Poke worker object negative offset byte) =
    with_event a worker 0 (act.Poke object (offset_of negative offset) byte)
after a (Trim worker name) = with_event a worker 0 (act.Trim (place_of name a.names))
after a (Flush worker cpu) = with_event a worker cpu act.Flush
after a Done =
    record (with_item a (item.Round (record { workers = workers_in a.place; events = a.events })))
    { place = Between; events = [] }
after a End = record a { count = a.count + 1; place = After }

-- what lines say, the first of them below those above
abbrev pub after_all : Above → List Line → Above
after_all a lines = fold after a lines

-- the trace of all lines
abbrev pub trace_of : Above → Trace
trace_of a = record {
  version = a.version;
  frames = a.frames;
  cpus = a.cpus;
  tid = a.tid;
  objects = fold max 0 a.objects;
  names = a.names;
  items = a.items;
}
