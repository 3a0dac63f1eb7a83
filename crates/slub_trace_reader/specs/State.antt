-- For proofs and private clauses: what the reader keeps of the lines above.
use Rattle.std.specs.Prelude.{◌≡◌, ℕ, ◌+◌, ◌*◌, ◌<◌, ◌≤◌, ◌^◌, ◌++◌, ◌∷◌, [], List, Bool, true, false, ◌||◌, if◌then◌else◌, length, fold, get_or, slice_get, max, nat_eq, Option, Some, None, IsSome, ⊤}
use Rattle.std.specs.List.{list_any}
use Rattle.slub_trace_reader.specs.declared.client.ClientLine.{ClientLine}
use Rattle.slub_trace_reader.specs.declared.client.ClientLine.TheVariants.{Kmalloc, Kget, Krealloc, Bulk, Bulkfree, Mempool, Mget, Mput}
use Rattle.slub_trace_reader.specs.declared.line.Line.{Line}
use Rattle.slub_trace_reader.specs.declared.line.Line.TheVariants.{Slubtrace, Machine, Alloc, Free, Write, Read, Poke, Trim, Flush}
use Rattle.slub_trace_reader.specs.declared.objects.Objects.{Objects}
use Rattle.slub_trace_reader.specs.declared.reading.Why.{Why}
use Rattle.slub_trace_reader.specs.declared.reading.Why.TheVariants.{Unfinished, AfterEnd, Form, Range, TooManyRounds, UnknownCache, ObjectTwice, UnknownObject, ReadBeforeWrite, NoEnd}
use Rattle.slub_trace_reader.specs.declared.state.State.{State}
use Rattle.slub_trace_reader.specs.declared.written.Written.{Written}
use Rattle.slub_trace.specs.declared.event.Act.TheVariants as act
use Rattle.slub_trace_reader.specs.Above.{Above, is_spot, workers_in, with_event}
use Rattle.slub_trace_reader.specs.Grammar.{MayStand, InRange, HasRoom, HasCache, IsFresh, IsKnown, IsWritten}

-- what the lines above say, as it is kept
abbrev pub above : State → Above
above s = record {
  count = s.count;
  place = s.place;
  version = s.version;
  frames = s.frames;
  cpus = s.cpus;
  tid = s.tid;
  names = s.names.keys;
  pools = s.pools.keys;
  kmalloc = s.kmalloc;
  objects = s.objects.keys;
  rounds = s.rounds;
  written = s.written.keys;
  items = s.items;
  events = s.events;
}

-- one allocation more, from the cache whose name has this place
abbrev pub with_alloc : Above → ℕ → ℕ → ℕ → ℕ → Above
with_alloc a worker cpu cache object =
    record (with_event a worker cpu (act.Alloc cache object))
    { objects = a.objects ++ object ∷ [] }

-- the marks say which numbers are among them
abbrev pub IsMarked : Objects → Type 0
IsMarked objects = (n : ℕ) → get_or objects.marks.items n false ≡ list_any (nat_eq n) objects.keys

-- the write, where there is one and it is of this object
abbrev pub when_of : ℕ → Option (ℕ × ℕ × ℕ) → Option (ℕ × ℕ × ℕ)
when_of object None = None
when_of object (Some spot) = if nat_eq spot.1 object then Some spot else None

-- the write to which an object's place leads, where it is one of that object
abbrev pub noted_of : List (ℕ × ℕ × ℕ) → List ℕ → ℕ → Option (ℕ × ℕ × ℕ)
noted_of keys places object = when_of object (slice_get keys (get_or places object 0))

-- that write is this one
abbrev pub is_noted : ℕ × ℕ × ℕ → Option (ℕ × ℕ × ℕ) → Bool
is_noted spot None = false
is_noted spot (Some first) = is_spot spot first

-- of each object that has a write its place leads to one, and every other write of it is among the
-- others
pub record AreNoted (keys : List (ℕ × ℕ × ℕ)) (places : List ℕ) (more : List (ℕ × ℕ × ℕ))
    : Type 0 where
  pub each : (spot : ℕ × ℕ × ℕ)
      → list_any (is_spot spot) keys
      ≡ (is_noted spot (noted_of keys places spot.1) || list_any (is_spot spot) more)
  pub led : (spot : ℕ × ℕ × ℕ) → list_any (is_spot spot) keys ≡ true
      → IsSome (noted_of keys places spot.1)

abbrev pub IsNoted : Written → Type 0
IsNoted written = AreNoted written.keys written.places.items written.more.keys

-- the greatest object is kept beside them, a line brings thirteen names and one write at most, and
-- marks and places hold
pub record Keeps (s : State) : Type 0 where
  pub greatest : s.greatest ≡ fold max 0 s.objects.keys
  pub names : length s.names.keys ≤ 13 * s.count
  pub writes : length s.written.keys ≤ s.count
  pub marked : IsMarked s.objects
  pub noted : IsNoted s.written

-- the numbers that a client's line may allocate have 32 bits
abbrev pub AreSmall : ClientLine → Type 0
AreSmall Kmalloc = ⊤
AreSmall (Kget cpu size object) = object < 2 ^ 31
AreSmall (Krealloc cpu object size fresh) = fresh < 2 ^ 31
AreSmall (Bulk cpu name first count) = first + count < 2 ^ 31
AreSmall (Bulkfree cpu first count) = ⊤
AreSmall (Mempool pool name min first) = first + min < 2 ^ 31
AreSmall (Mget cpu pool object) = object < 2 ^ 31
AreSmall (Mput cpu pool object) = ⊤

-- the workers of the round and the CPUs are few
pub record IsModest (a : Above) : Type 0 where
  pub workers : workers_in a.place ≤ 16
  pub cpus : a.cpus ≤ 16

-- the line may come next
pub record IsFit (a : Above) (line : Line) : Type 0 where
  pub stands : MayStand line a.version a.place
  pub range : InRange a line
  pub room : HasRoom a line
  pub named : HasCache a line
  pub fresh : IsFresh a line
  pub known : IsKnown a line
  pub written : IsWritten a line

-- the first or the second line
abbrev pub IsHead : Line → Type 0
IsHead (Slubtrace version) = ⊤
IsHead (Machine frames cpus tid) = ⊤
IsHead _ = ⊥

-- a line of a round but its end
abbrev pub IsEvent : Line → Type 0
IsEvent (Alloc worker cpu name object) = ⊤
IsEvent (Free worker cpu object) = ⊤
IsEvent (Write worker object word value) = ⊤
IsEvent (Read worker object word) = ⊤
IsEvent (Poke worker object negative offset byte) = ⊤
IsEvent (Trim worker name) = ⊤
IsEvent (Flush worker cpu) = ⊤
IsEvent _ = ⊥

-- one of the others
abbrev pub IsItem : Line → Type 0
IsItem line = ¬ IsHead line × ¬ IsEvent line

-- the first thing that the line lacks, where it lacks one
abbrev pub Lacks : Above → Line → Option Why → Type 0
Lacks a line None = IsFit a line
Lacks a line (Some Unfinished) = ⊥
Lacks a line (Some AfterEnd) = ⊥
Lacks a line (Some Form) = ¬ MayStand line a.version a.place
Lacks a line (Some Range) = MayStand line a.version a.place × ¬ InRange a line
Lacks a line (Some TooManyRounds) =
    MayStand line a.version a.place × InRange a line × ¬ HasRoom a line
Lacks a line (Some UnknownCache) =
    MayStand line a.version a.place × InRange a line × HasRoom a line × ¬ HasCache a line
Lacks a line (Some ObjectTwice) =
    MayStand line a.version a.place × InRange a line × HasRoom a line × HasCache a line
    × ¬ IsFresh a line
Lacks a line (Some UnknownObject) =
    MayStand line a.version a.place × InRange a line × HasRoom a line × HasCache a line
    × IsFresh a line × ¬ IsKnown a line
Lacks a line (Some ReadBeforeWrite) =
    MayStand line a.version a.place × InRange a line × HasRoom a line × HasCache a line
    × IsFresh a line × IsKnown a line × ¬ IsWritten a line
Lacks a line (Some NoEnd) = ⊥
