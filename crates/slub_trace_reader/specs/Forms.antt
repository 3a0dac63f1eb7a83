-- Reading one line: a function on lists of bytes, which takes one word after the other off the
-- front.
use Rattle.std.specs.Prelude.{◌≡◌, ℕ, ◌+◌, ◌-◌, ◌*◌, ◌==◌, ◌&&◌, Bool, true, false, List, [], ◌∷◌, Option, Some, None, option_and_then, option_map, if◌then◌else◌, codes, nat_eq, nat_le}
use Rattle.std.specs.Cmp.Lexicographic.{pointwise}
use Rattle.slub_common.specs.Numbers.{number_of}
use Rattle.slub_object_layout.specs.declared.layout.Flags.{Flags}
use Rattle.slub_trace_reader.specs.declared.client.ClientLine.{ClientLine}
use Rattle.slub_trace_reader.specs.declared.client.ClientLine.TheVariants.{Kmalloc, Kget, Krealloc, Bulk, Bulkfree, Mempool, Mget, Mput}
use Rattle.slub_trace_reader.specs.declared.line.Knob.{Knob}
use Rattle.slub_trace_reader.specs.declared.line.Knob.TheVariants.{MinPartial, CpuPartial}
use Rattle.slub_trace_reader.specs.declared.line.Line.{Line}
use Rattle.slub_trace_reader.specs.declared.line.Line.TheVariants.{Passed, Slubtrace, Machine, Cache, Shrink, Destroy, Tune, Slabinfo, Client, Round, Alloc, Free, Write, Read, Poke, Trim, Flush, Done, End}
use Rattle.slub_trace.specs.Names.{is_name}
use Rattle.slub_trace_reader.specs.Words.{are_flags, flags_in, is_hex, hex_value}

infixl 10 ◌>>=◌
abbrev pub ◌>>=◌ : {A B : Type 0} → Option A → (A → Option B) → Option B
o >>= f = option_and_then f o

-- an answer of the code is that of reading, seen by a view
abbrev pub Gives : {X Y : Type 0} → (X → Y) → Option X → Option Y → Type 0
Gives view None read = read ≡ None
Gives view (Some x) read = read ≡ Some (view x)

-- ---- words

-- what follows a fixed text
unfoldable pub strip : List ℕ → List ℕ → Option (List ℕ)
strip [] bytes = Some bytes
strip (t ∷ ts) [] = None
strip (t ∷ ts) (b ∷ bs) = if t == b then strip ts bs else None

-- the word up to the first space, and what follows that
unfoldable pub field : List ℕ → Option (List ℕ × List ℕ)
field [] = None
field (b ∷ bs) = if b == 32 then Some ([], bs) else option_map (λ f. (b ∷ f.0, f.1)) (field bs)

-- the sign and the size of an offset
unfoldable pub offset_of : List ℕ → Option (Bool × ℕ)
offset_of [] = None
offset_of (c ∷ cs) =
    if c == 45 then option_map (λ n. (true, n)) (number_of cs)
    else option_map (λ n. (false, n)) (number_of (c ∷ cs))

unfoldable pub name_of : List ℕ → Option (List ℕ)
name_of word = if is_name word then Some word else None

unfoldable pub flags_of : List ℕ → Option Flags
flags_of word = if are_flags word then Some (flags_in word) else None

unfoldable pub byte_of : List ℕ → Option ℕ
byte_of [] = None
byte_of (h ∷ []) = None
byte_of (h ∷ l ∷ []) = if is_hex h && is_hex l then Some (16 * hex_value h + hex_value l) else None
byte_of (h ∷ l ∷ x ∷ xs) = None

-- what a tune line sets
unfoldable pub knob_of : List ℕ → Option Knob
knob_of word =
    if pointwise nat_eq word (codes "min_partial") then Some MinPartial
    else (if pointwise nat_eq word (codes "cpu_partial") then Some CpuPartial else None)

-- the version of a digit from 1 to 4
unfoldable pub version_of : List ℕ → Option ℕ
version_of [] = None
version_of (c ∷ []) = if nat_le 49 c && nat_le c 52 then Some (c - 48) else None
version_of (c ∷ d ∷ cs) = None

-- ---- a word and a space in front

unfoldable pub number_at : List ℕ → Option (ℕ × List ℕ)
number_at bytes = do
  f ← field bytes
  n ← number_of f.0
  Some (n, f.1)

unfoldable pub name_at : List ℕ → Option (List ℕ × List ℕ)
name_at bytes = do
  f ← field bytes
  n ← name_of f.0
  Some (n, f.1)

unfoldable pub offset_at : List ℕ → Option ((Bool × ℕ) × List ℕ)
offset_at bytes = do
  f ← field bytes
  n ← offset_of f.0
  Some (n, f.1)

unfoldable pub knob_at : List ℕ → Option (Knob × List ℕ)
knob_at bytes = do
  f ← field bytes
  k ← knob_of f.0
  Some (k, f.1)

-- ---- the forms

-- an empty line, or a comment
abbrev pub is_passed : List ℕ → Bool
is_passed [] = true
is_passed (c ∷ cs) = c == 35

-- the end of a machine line, by the field in front of it
abbrev pub machine_tail : ℕ → List ℕ → Option (List ℕ × List ℕ) → Option Line
machine_tail frames bytes None = option_map (λ cpus. Machine frames cpus None) (number_of bytes)
machine_tail frames bytes (Some f) = do
  cpus ← number_of f.0
  word ← strip (codes "tid ") f.1
  tid ← number_of word
  Some (Machine frames cpus (Some tid))

unfoldable pub machine_end : ℕ → List ℕ → Option Line
machine_end frames bytes = machine_tail frames bytes (field bytes)

unfoldable pub slubtrace_line : List ℕ → Option Line
slubtrace_line bytes = do
  rest ← strip (codes "slubtrace ") bytes
  version ← version_of rest
  Some (Slubtrace version)

unfoldable pub machine_line : List ℕ → Option Line
machine_line bytes = do
  rest ← strip (codes "machine ") bytes
  frames ← number_at rest
  machine_end frames.0 frames.1

unfoldable pub cache_line : List ℕ → Option Line
cache_line bytes = do
  rest ← strip (codes "cache ") bytes
  name ← name_at rest
  size ← number_at name.1
  align ← number_at size.1
  flags ← flags_of align.1
  Some (Cache name.0 size.0 align.0 flags)

unfoldable pub shrink_line : List ℕ → Option Line
shrink_line bytes = do
  rest ← strip (codes "shrink ") bytes
  name ← name_of rest
  Some (Shrink name)

unfoldable pub destroy_line : List ℕ → Option Line
destroy_line bytes = do
  rest ← strip (codes "destroy ") bytes
  name ← name_of rest
  Some (Destroy name)

unfoldable pub tune_line : List ℕ → Option Line
tune_line bytes = do
  rest ← strip (codes "tune ") bytes
  name ← name_at rest
  knob ← knob_at name.1
  number ← number_of knob.1
  Some (Tune name.0 knob.0 number)

unfoldable pub round_line : List ℕ → Option Line
round_line bytes = do
  rest ← strip (codes "round ") bytes
  workers ← number_of rest
  Some (Round workers)

unfoldable pub alloc_line : List ℕ → Option Line
alloc_line bytes = do
  rest ← strip (codes "alloc ") bytes
  worker ← number_at rest
  cpu ← number_at worker.1
  name ← name_at cpu.1
  object ← number_of name.1
  Some (Alloc worker.0 cpu.0 name.0 object)

unfoldable pub free_line : List ℕ → Option Line
free_line bytes = do
  rest ← strip (codes "free ") bytes
  worker ← number_at rest
  cpu ← number_at worker.1
  object ← number_of cpu.1
  Some (Free worker.0 cpu.0 object)

unfoldable pub write_line : List ℕ → Option Line
write_line bytes = do
  rest ← strip (codes "write ") bytes
  worker ← number_at rest
  object ← number_at worker.1
  word ← number_at object.1
  value ← number_of word.1
  Some (Write worker.0 object.0 word.0 value)

unfoldable pub read_line : List ℕ → Option Line
read_line bytes = do
  rest ← strip (codes "read ") bytes
  worker ← number_at rest
  object ← number_at worker.1
  word ← number_of object.1
  Some (Read worker.0 object.0 word)

unfoldable pub poke_line : List ℕ → Option Line
poke_line bytes = do
  rest ← strip (codes "poke ") bytes
  worker ← number_at rest
  object ← number_at worker.1
  offset ← offset_at object.1
  byte ← byte_of offset.1
  Some (Poke worker.0 object.0 offset.0.0 offset.0.1 byte)

unfoldable pub trim_line : List ℕ → Option Line
trim_line bytes = do
  rest ← strip (codes "trim ") bytes
  worker ← number_at rest
  name ← name_of worker.1
  Some (Trim worker.0 name)

unfoldable pub flush_line : List ℕ → Option Line
flush_line bytes = do
  rest ← strip (codes "flush ") bytes
  worker ← number_at rest
  cpu ← number_of worker.1
  Some (Flush worker.0 cpu)

-- ---- the forms of clients

unfoldable pub kmalloc_line : List ℕ → Option ClientLine
kmalloc_line bytes = if pointwise nat_eq bytes (codes "kmalloc") then Some Kmalloc else None

unfoldable pub kget_line : List ℕ → Option ClientLine
kget_line bytes = do
  rest ← strip (codes "kget ") bytes
  cpu ← number_at rest
  size ← number_at cpu.1
  object ← number_of size.1
  Some (Kget cpu.0 size.0 object)

unfoldable pub krealloc_line : List ℕ → Option ClientLine
krealloc_line bytes = do
  rest ← strip (codes "krealloc ") bytes
  cpu ← number_at rest
  object ← number_at cpu.1
  size ← number_at object.1
  fresh ← number_of size.1
  Some (Krealloc cpu.0 object.0 size.0 fresh)

unfoldable pub bulk_line : List ℕ → Option ClientLine
bulk_line bytes = do
  rest ← strip (codes "bulk ") bytes
  cpu ← number_at rest
  name ← name_at cpu.1
  first ← number_at name.1
  count ← number_of first.1
  Some (Bulk cpu.0 name.0 first.0 count)

unfoldable pub bulkfree_line : List ℕ → Option ClientLine
bulkfree_line bytes = do
  rest ← strip (codes "bulkfree ") bytes
  cpu ← number_at rest
  first ← number_at cpu.1
  count ← number_of first.1
  Some (Bulkfree cpu.0 first.0 count)

unfoldable pub mempool_line : List ℕ → Option ClientLine
mempool_line bytes = do
  rest ← strip (codes "mempool ") bytes
  pool ← name_at rest
  name ← name_at pool.1
  min ← number_at name.1
  first ← number_of min.1
  Some (Mempool pool.0 name.0 min.0 first)

unfoldable pub mget_line : List ℕ → Option ClientLine
mget_line bytes = do
  rest ← strip (codes "mget ") bytes
  cpu ← number_at rest
  pool ← name_at cpu.1
  object ← number_of pool.1
  Some (Mget cpu.0 pool.0 object)

unfoldable pub mput_line : List ℕ → Option ClientLine
mput_line bytes = do
  rest ← strip (codes "mput ") bytes
  cpu ← number_at rest
  pool ← name_at cpu.1
  object ← number_of pool.1
  Some (Mput cpu.0 pool.0 object)

-- ---- all forms

-- a line of one word, or one that is passed over
unfoldable pub plain_line : List ℕ → Option Line
plain_line bytes =
    if is_passed bytes then Some Passed
    else (if pointwise nat_eq bytes (codes "done") then Some Done
    else (if pointwise nat_eq bytes (codes "slabinfo") then Some Slabinfo
    else (if pointwise nat_eq bytes (codes "end") then Some End else None)))

-- the first answer that is there
infixr 9 ◌or_else◌
abbrev pub ◌or_else◌ : {A : Type 0} → Option A → Option A → Option A
None or_else other = other
(Some x) or_else other = Some x

unfoldable pub event_line : List ℕ → Option Line
event_line bytes =
    alloc_line bytes or_else free_line bytes or_else write_line bytes or_else read_line bytes
    or_else poke_line bytes or_else trim_line bytes or_else flush_line bytes

unfoldable pub item_line : List ℕ → Option Line
item_line bytes =
    round_line bytes or_else shrink_line bytes or_else destroy_line bytes or_else cache_line bytes
    or_else tune_line bytes or_else machine_line bytes
    or_else slubtrace_line bytes

unfoldable pub client_line : List ℕ → Option ClientLine
client_line bytes =
    kmalloc_line bytes or_else kget_line bytes or_else krealloc_line bytes or_else bulk_line bytes
    or_else bulkfree_line bytes or_else mempool_line bytes
    or_else mget_line bytes or_else mput_line bytes

-- the line that a text says
unfoldable pub line_of : List ℕ → Option Line
line_of bytes =
    plain_line bytes or_else event_line bytes or_else item_line bytes
    or_else option_map Client (client_line bytes)
