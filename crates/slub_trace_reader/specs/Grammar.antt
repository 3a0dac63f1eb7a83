-- Which lines may stand where, and which bytes are a trace.
use Rattle.std.specs.Prelude.{◌≡◌, ℕ, ◌+◌, ◌-◌, ◌<◌, ◌≤◌, Bool, true, false, List, [], ◌∷◌, ◌++◌, length, All, ⊤, ◌≢◌, nat_eq}
use Rattle.slub_trace_reader.specs.declared.client.ClientLine.{ClientLine}
use Rattle.slub_trace_reader.specs.declared.client.ClientLine.TheVariants.{Kmalloc, Kget, Krealloc, Bulk, Bulkfree, Mempool, Mget, Mput}
use Rattle.slub_trace_reader.specs.declared.line.Line.{Line}
use Rattle.slub_trace_reader.specs.declared.line.Line.TheVariants.{Passed, Slubtrace, Machine, Cache, Shrink, Destroy, Tune, Slabinfo, Client, Round, Alloc, Free, Write, Read, Poke, Trim, Flush, Done, End}
use Rattle.slub_trace_reader.specs.declared.place.Place.{Place}
use Rattle.slub_trace_reader.specs.declared.place.Place.TheVariants.{First, Second, Between, Within, After}
use Rattle.slub_trace.specs.declared.trace.Trace.{Trace}
use Rattle.slub_trace_reader.specs.Above.{Above, start, after, after_all, trace_of, workers_in, is_spot}
use Rattle.slub_trace.specs.Ranges.{IsAskedSize, IsTid}
use Rattle.std.specs.List.{list_any}
use Rattle.std.specs.Str.{bytes_eq}
use Rattle.slub_trace_reader.specs.Lines.{Says}
use Rattle.slub_trace_reader.specs.Numbers.{allocates, needs}

-- ---- places

-- a round isn't ended
abbrev pub IsInRound : Place → Type 0
IsInRound First = ⊥
IsInRound Second = ⊥
IsInRound Between = ⊥
IsInRound (Within workers) = ⊤
IsInRound After = ⊥

-- where a line of this form may stand, in a trace of this version
abbrev pub MayStand : Line → ℕ → Place → Type 0
MayStand Passed version place = ⊤
MayStand (Slubtrace named) version place = place ≡ First
MayStand (Machine frames cpus tid) version place = place ≡ Second
MayStand (Cache name size align flags) version place = place ≡ Between
MayStand (Shrink name) version place = place ≡ Between
MayStand (Destroy name) version place = place ≡ Between
MayStand (Tune name knob number) version place = (2 ≤ version) × (place ≡ Between)
MayStand Slabinfo version place = place ≡ Between
MayStand (Client line) version place = (3 ≤ version) × (place ≡ Between)
MayStand (Round workers) version place = place ≡ Between
MayStand (Alloc worker cpu name object) version place = IsInRound place
MayStand (Free worker cpu object) version place = IsInRound place
MayStand (Write worker object word value) version place = IsInRound place
MayStand (Read worker object word) version place = IsInRound place
MayStand (Poke worker object negative offset byte) version place = IsInRound place
MayStand (Trim worker name) version place = (4 ≤ version) × IsInRound place
MayStand (Flush worker cpu) version place = (4 ≤ version) × IsInRound place
MayStand Done version place = IsInRound place
MayStand End version place = place ≡ Between

-- ---- ranges

abbrev pub IsObject : ℕ → Type 0
IsObject object = (1 ≤ object) × (object ≤ 1048576)

-- a worker of this round
abbrev pub IsWorker : Above → ℕ → Type 0
IsWorker a worker = worker < workers_in a.place

-- below an object's address, or not
abbrev pub IsOffset : Bool → ℕ → Type 0
IsOffset true size = size ≤ 32768
IsOffset false size = size ≤ 32767

-- some numbers from the first on, at most so many, the last in its range
abbrev pub AreObjects : ℕ → ℕ → ℕ → Type 0
AreObjects most first count =
    IsObject first × (1 ≤ count) × (count ≤ most) × (first + count - 1 ≤ 1048576)

-- each number of the client's line is in its range
abbrev pub ClientInRange : Above → ClientLine → Type 0
ClientInRange a Kmalloc = ⊤
ClientInRange a (Kget cpu size object) = (cpu < a.cpus) × IsAskedSize size × IsObject object
ClientInRange a (Krealloc cpu object size fresh) =
    (cpu < a.cpus) × IsObject object × IsAskedSize size × IsObject fresh
ClientInRange a (Bulk cpu name first count) = (cpu < a.cpus) × AreObjects 1024 first count
ClientInRange a (Bulkfree cpu first count) = (cpu < a.cpus) × AreObjects 1024 first count
ClientInRange a (Mempool pool name min first) = AreObjects 64 first min
ClientInRange a (Mget cpu pool object) = (cpu < a.cpus) × IsObject object
ClientInRange a (Mput cpu pool object) = (cpu < a.cpus) × IsObject object

-- each number of the line is in its range
abbrev pub InRange : Above → Line → Type 0
InRange a Passed = ⊤
InRange a (Slubtrace version) = ⊤
InRange a (Machine frames cpus tid) =
    (2 ≤ frames) × (frames ≤ 4096) × (1 ≤ cpus) × (cpus ≤ 16) × IsTid cpus tid
InRange a (Cache name size align flags) = (size ≤ 4294967295) × (align ≤ 4294967295)
InRange a (Shrink name) = ⊤
InRange a (Destroy name) = ⊤
InRange a (Tune name knob number) = number ≤ 4096
InRange a Slabinfo = ⊤
InRange a (Client line) = ClientInRange a line
InRange a (Round workers) = (1 ≤ workers) × (workers ≤ 16)
InRange a (Alloc worker cpu name object) = IsWorker a worker × (cpu < a.cpus) × IsObject object
InRange a (Free worker cpu object) = IsWorker a worker × (cpu < a.cpus) × IsObject object
InRange a (Write worker object word value) =
    IsWorker a worker × IsObject object × (word ≤ 4095) × (value ≤ 18446744073709551615)
InRange a (Read worker object word) = IsWorker a worker × IsObject object × (word ≤ 4095)
InRange a (Poke worker object negative offset byte) =
    IsWorker a worker × IsObject object × IsOffset negative offset
InRange a (Trim worker name) = IsWorker a worker
InRange a (Flush worker cpu) = IsWorker a worker × (cpu < a.cpus)
InRange a Done = ⊤
InRange a End = ⊤

-- ---- what has to stand above

-- the rounds are 256 at most, a client's line counted as two
abbrev pub HasRoom : Above → Line → Type 0
HasRoom a (Round workers) = a.rounds + 1 ≤ 256
HasRoom a (Client line) = a.rounds + 2 ≤ 256
HasRoom a _ = ⊤

-- the name is among these
abbrev pub IsNamed : List ℕ → List (List ℕ) → Type 0
IsNamed name names = list_any (bytes_eq name) names ≡ true

-- a client's line has what it takes from: a cache line for its name, a mempool line for its
-- reserve, a kmalloc line
abbrev pub HasSource : Above → ClientLine → Type 0
HasSource a Kmalloc = ⊤
HasSource a (Kget cpu size object) = a.kmalloc ≡ true
HasSource a (Krealloc cpu object size fresh) = a.kmalloc ≡ true
HasSource a (Bulk cpu name first count) = IsNamed name a.names
HasSource a (Bulkfree cpu first count) = ⊤
HasSource a (Mempool pool name min first) = IsNamed name a.names
HasSource a (Mget cpu pool object) = IsNamed pool a.pools
HasSource a (Mput cpu pool object) = IsNamed pool a.pools

-- the line's name has a cache line above, and a client's line has what it takes from
abbrev pub HasCache : Above → Line → Type 0
HasCache a (Shrink name) = IsNamed name a.names
HasCache a (Destroy name) = IsNamed name a.names
HasCache a (Tune name knob number) = IsNamed name a.names
HasCache a (Client line) = HasSource a line
HasCache a (Alloc worker cpu name object) = IsNamed name a.names
HasCache a (Trim worker name) = IsNamed name a.names
HasCache a _ = ⊤

-- no line above may allocate one of the numbers that the line may allocate
abbrev pub IsFresh : Above → Line → Type 0
IsFresh a line = All (λ object. list_any (nat_eq object) a.objects ≡ false) (allocates line)

-- a line above may allocate each number that the line needs
abbrev pub IsKnown : Above → Line → Type 0
IsKnown a line = All (λ object. list_any (nat_eq object) a.objects ≡ true) (needs line)

-- a write above in this round has the worker, object and word
abbrev pub IsWritten : Above → Line → Type 0
IsWritten a (Read worker object word) = list_any (is_spot (worker, object, word)) a.written ≡ true
IsWritten a _ = ⊤

-- ---- traces

-- a line that may stand below those that say this
pub record IsLine (a : Above) (text : List ℕ) (line : Line) : Type 0 where
  pub says : Says text line
  pub stands : MayStand line a.version a.place
  pub range : InRange a line
  pub room : HasRoom a line
  pub named : HasCache a line
  pub fresh : IsFresh a line
  pub known : IsKnown a line
  pub written : IsWritten a line

-- no line feed stands in the text
abbrev pub IsOneLine : List ℕ → Type 0
IsOneLine text = All (λ b. b ≢ 10) text

-- the bytes are these lines, each with its line feed and each below those before it
abbrev pub AreLines : Above → List ℕ → List Line → Type 0
AreLines a bytes [] = bytes ≡ []
AreLines a bytes (line ∷ lines) =
    (text rest : List ℕ) × (bytes ≡ text ++ 10 ∷ rest) × IsOneLine text × IsLine a text line
    × AreLines (after a line) rest lines

-- the bytes spell this trace: lines that end with `end`, the passed-over aside
pub record IsTrace (bytes : List ℕ) (trace : Trace) : Type 0 where
  pub short : length bytes ≤ 16777216
  pub lines : List Line
  pub are : AreLines start bytes lines
  pub ended : (after_all start lines).place ≡ After
  pub gives : trace ≡ trace_of (after_all start lines)
