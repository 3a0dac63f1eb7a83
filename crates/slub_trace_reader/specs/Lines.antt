-- What a line says: its form, and the values of its words.
use Rattle.std.specs.Prelude.{◌≡◌, ℕ, ◌+◌, ◌≤◌, List, [], ◌∷◌, Option, Some, None, ⊤, codes}
use Rattle.std.specs.List.{join_with_byte}
use Rattle.slub_common.specs.Numbers.{Writes}
use Rattle.slub_object_layout.specs.Name.{IsName}
use Rattle.slub_trace_reader.specs.declared.client.ClientLine.{ClientLine}
use Rattle.slub_trace_reader.specs.declared.client.ClientLine.TheVariants.{Kmalloc, Kget, Krealloc, Bulk, Bulkfree, Mempool, Mget, Mput}
use Rattle.slub_trace_reader.specs.declared.line.Knob.{Knob}
use Rattle.slub_trace_reader.specs.declared.line.Knob.TheVariants.{MinPartial, CpuPartial}
use Rattle.slub_trace_reader.specs.declared.line.Line.{Line}
use Rattle.slub_trace_reader.specs.declared.line.Line.TheVariants.{Passed, Slubtrace, Machine, Cache, Shrink, Destroy, Tune, Slabinfo, Client, Round, Alloc, Free, Write, Read, Poke, Trim, Flush, Done, End}
use Rattle.slub_trace_reader.specs.Words.{WritesOffset, WritesFlags, WritesByte}

-- words parted by one space
abbrev pub parted : List (List ℕ) → List ℕ
parted words = join_with_byte 32 words

-- empty, or a comment, which begins with `#`
abbrev pub IsPassed : List ℕ → Type 0
IsPassed [] = ⊤
IsPassed (c ∷ cs) = c ≡ 35

-- the end of a machine line: nothing, or the transaction id
abbrev pub SaysTid : List (List ℕ) → Option ℕ → Type 0
SaysTid words None = words ≡ []
SaysTid words (Some tid) = (t : List ℕ) × Writes t tid × (words ≡ codes "tid" ∷ t ∷ [])

-- the word of what a tune line sets
abbrev pub knob_word : Knob → List ℕ
knob_word MinPartial = codes "min_partial"
knob_word CpuPartial = codes "cpu_partial"

-- the text of a client's line says this
abbrev pub SaysClient : List ℕ → ClientLine → Type 0
SaysClient text Kmalloc = text ≡ codes "kmalloc"
SaysClient text (Kget cpu size object) =
    (c s o : List ℕ) × Writes c cpu × Writes s size × Writes o object
    × (text ≡ parted (codes "kget" ∷ c ∷ s ∷ o ∷ []))
SaysClient text (Krealloc cpu object size fresh) =
    (c o s n : List ℕ) × Writes c cpu × Writes o object × Writes s size × Writes n fresh
    × (text ≡ parted (codes "krealloc" ∷ c ∷ o ∷ s ∷ n ∷ []))
SaysClient text (Bulk cpu name first count) =
    (c f n : List ℕ) × Writes c cpu × IsName name × Writes f first × Writes n count
    × (text ≡ parted (codes "bulk" ∷ c ∷ name ∷ f ∷ n ∷ []))
SaysClient text (Bulkfree cpu first count) =
    (c f n : List ℕ) × Writes c cpu × Writes f first × Writes n count
    × (text ≡ parted (codes "bulkfree" ∷ c ∷ f ∷ n ∷ []))
SaysClient text (Mempool pool name min first) =
    (m f : List ℕ) × IsName pool × IsName name × Writes m min × Writes f first
    × (text ≡ parted (codes "mempool" ∷ pool ∷ name ∷ m ∷ f ∷ []))
SaysClient text (Mget cpu pool object) =
    (c o : List ℕ) × Writes c cpu × IsName pool × Writes o object
    × (text ≡ parted (codes "mget" ∷ c ∷ pool ∷ o ∷ []))
SaysClient text (Mput cpu pool object) =
    (c o : List ℕ) × Writes c cpu × IsName pool × Writes o object
    × (text ≡ parted (codes "mput" ∷ c ∷ pool ∷ o ∷ []))

-- the text of the line, without its line feed, says this; its numbers may be any
abbrev pub Says : List ℕ → Line → Type 0
Says text Passed = IsPassed text
Says text (Slubtrace version) =
    (1 ≤ version) × (version ≤ 4) × (text ≡ parted (codes "slubtrace" ∷ ((48 + version) ∷ []) ∷ []))
Says text (Machine frames cpus tid) =
    (f c : List ℕ) × (rest : List (List ℕ)) × Writes f frames × Writes c cpus × SaysTid rest tid
    × (text ≡ parted (codes "machine" ∷ f ∷ c ∷ rest))
Says text (Cache name size align flags) =
    (s a f : List ℕ) × IsName name × Writes s size × Writes a align × WritesFlags f flags
    × (text ≡ parted (codes "cache" ∷ name ∷ s ∷ a ∷ f ∷ []))
Says text (Shrink name) = IsName name × (text ≡ parted (codes "shrink" ∷ name ∷ []))
Says text (Destroy name) = IsName name × (text ≡ parted (codes "destroy" ∷ name ∷ []))
Says text (Tune name knob number) =
    (n : List ℕ) × IsName name × Writes n number
    × (text ≡ parted (codes "tune" ∷ name ∷ knob_word knob ∷ n ∷ []))
Says text Slabinfo = text ≡ codes "slabinfo"
Says text (Client line) = SaysClient text line
Says text (Round workers) =
    (w : List ℕ) × Writes w workers × (text ≡ parted (codes "round" ∷ w ∷ []))
Says text (Alloc worker cpu name object) =
    (w c o : List ℕ) × Writes w worker × Writes c cpu × IsName name × Writes o object
    × (text ≡ parted (codes "alloc" ∷ w ∷ c ∷ name ∷ o ∷ []))
Says text (Free worker cpu object) =
    (w c o : List ℕ) × Writes w worker × Writes c cpu × Writes o object
    × (text ≡ parted (codes "free" ∷ w ∷ c ∷ o ∷ []))
Says text (Write worker object word value) =
    (w o k v : List ℕ) × Writes w worker × Writes o object × Writes k word × Writes v value
    × (text ≡ parted (codes "write" ∷ w ∷ o ∷ k ∷ v ∷ []))
Says text (Read worker object word) =
    (w o k : List ℕ) × Writes w worker × Writes o object × Writes k word
    × (text ≡ parted (codes "read" ∷ w ∷ o ∷ k ∷ []))
Says text (Poke worker object negative offset byte) =
    (w o z b : List ℕ) × Writes w worker × Writes o object × WritesOffset z negative offset
    × WritesByte b byte
    × (text ≡ parted (codes "poke" ∷ w ∷ o ∷ z ∷ b ∷ []))
Says text (Trim worker name) =
    (w : List ℕ) × Writes w worker × IsName name × (text ≡ parted (codes "trim" ∷ w ∷ name ∷ []))
Says text (Flush worker cpu) =
    (w c : List ℕ) × Writes w worker × Writes c cpu × (text ≡ parted (codes "flush" ∷ w ∷ c ∷ []))
Says text Done = text ≡ codes "done"
Says text End = text ≡ codes "end"
