-- Which word a step is made on, as its column has it.
use Rattle.std.specs.Prelude.{ℕ, ◌-◌, ◌/◌, ◌%◌, ◌==◌, if◌then◌else◌, List, [], ◌∷◌, ◌++◌, codes}
use Rattle.std.specs.Fmt.{decimal}
use Rattle.slub_core.specs.declared.call.Call.{Call}
use Rattle.slub_core.specs.declared.call.Call.TheVariants.{Write, Read}
use Rattle.slub_core.specs.declared.step.Place.{Place}
use Rattle.slub_core.specs.declared.step.Place.TheVariants.{LockOf, ListOf, CpuOf, SlabOf, BoardOf, MemoryOf, LinkOf}
use Rattle.slub_core.specs.declared.spot.Spot.{Spot}
use Rattle.slub_core.specs.declared.spot.Spot.TheVariants.{InAlloc, InPutAway, WriteWord, ReadWord}
use Rattle.slub_core.specs.declared.spot.AllocSpot.TheVariants.{LoadNext, LinkNew, LoadReady}
use Rattle.slub_core.specs.declared.spot.PutAwaySpot.TheVariants.{WalkChain, LinkLast}
use Rattle.slub_core.specs.Local.{Local, here, hand_of, run_of, call_of}
use Rattle.slub_core.specs.Alloc.{reached}
use Rattle.slub_turn_text.specs.declared.object.Object.{Object}
use Rattle.slub_turn_text.specs.Labels.{RoundLabels, title_of}
use Rattle.slub_turn_text.specs.Fields.{object_text}

-- ---- words of memory

-- the object of a worker's call
abbrev pub own_object : Local → Object
own_object l =
    record { cache = (here l).cache; frame = (here l).frame; index = (here l).index }

-- an object of the cache that it has come to, by its index plus one
abbrev pub object_of : Local → ℕ → ℕ → Object
object_of l frame head = record { cache = l.cache; frame = frame; index = head - 1 }

-- an object of the run in hand
abbrev pub object_in_run : Local → ℕ → Object
object_in_run l index = record { cache = l.cache; frame = (run_of l).frame; index = index }

-- the object whose free pointer is loaded or stored at a spot: the head of the CPU freelist, the
-- next one of a new slab, the first or the last one of a chain in hand, the one that is freed
unfoldable pub pointed : Local → Spot → Object
pointed l (InAlloc LoadNext) = object_of l l.cpu_word.frame l.cpu_word.head
pointed l (InAlloc (LinkNew i)) = object_in_run l i
pointed l (InAlloc LoadReady) = object_of l (hand_of l).frame (hand_of l).head
pointed l (InPutAway WalkChain away) = object_of l (hand_of l).frame (reached (hand_of l))
pointed l (InPutAway LinkLast away) = object_of l (hand_of l).frame (hand_of l).last
pointed l s = own_object l

-- `next F.I`
abbrev pub next_text : Object → List ℕ
next_text o = codes "next " ++ object_text o.frame o.index

-- the word that a write or a read is of, behind a blank; no other call has one
abbrev pub word_of_call : Call → List ℕ
word_of_call (Write object place word value) = 32 ∷ decimal word
word_of_call (Read object place word) = 32 ∷ decimal word
word_of_call _ = []

-- `word F.I N`
unfoldable pub used_text : Local → List ℕ
used_text l =
    codes "word " ++ object_text (here l).frame (here l).index ++ word_of_call (call_of l)

-- a holder's word, or a free pointer
unfoldable pub memory_text : Local → Spot → List ℕ
memory_text l WriteWord = used_text l
memory_text l ReadWord = used_text l
memory_text l s = next_text (pointed l s)

-- ---- all words

-- `lock pool`, `lock node TITLE`
unfoldable pub lock_text : RoundLabels → ℕ → List ℕ
lock_text labels n = if n == 0 then codes "lock pool"
    else codes "lock node " ++ title_of labels (n - 1)

-- `cpu C TITLE`, `list C TITLE`
abbrev pub of_cpu : RoundLabels → List ℕ → ℕ → List ℕ
of_cpu labels word n = word ++ decimal (n % 16) ++ 32 ∷ title_of labels (n / 16)

unfoldable pub word_text : RoundLabels → Local → Place → List ℕ
word_text labels l (LockOf n) = lock_text labels n
word_text labels l (ListOf n) = of_cpu labels (codes "list ") n
word_text labels l (CpuOf n) = of_cpu labels (codes "cpu ") n
word_text labels l (SlabOf frame) = codes "slab " ++ decimal frame
word_text labels l (BoardOf object) = codes "board " ++ decimal object
word_text labels l (MemoryOf place) = memory_text l l.spot
word_text labels l (LinkOf frame) = codes "link " ++ decimal frame
