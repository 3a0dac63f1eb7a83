-- What is said of a change of a checked cache's slabs.
use Rattle.std.specs.Prelude.{ℕ, ℤ, ◌+◌, ◌-◌, ◌*◌, ◌/◌, ◌%◌, ◌^◌, ◌==◌, Bool, true, false, is_some, if◌then◌else◌, List, [], ◌∷◌, ◌++◌, slice_index_or, codes, Option, Some, None}
use Rattle.std.specs.Fmt.{decimal, signed_decimal}
use Rattle.slub_object_layout.specs.declared.layout.Layout.{Layout}
use Rattle.slub_trace.specs.declared.damage.Report.{Report}
use Rattle.slub_trace.specs.declared.reply.Reply.{Reply}
use Rattle.slub_trace.specs.declared.reply.Reply.TheVariants.{Given, Corrupt, Value, Poked}
use Rattle.slub_red_zone.specs.State.{CheckedState}
use Rattle.slub_slabinfo_text.specs.Texts.{damage_words, hex_byte}
use Rattle.slub_core.specs.declared.call.Call.{Call}
use Rattle.slub_core.specs.declared.call.Call.TheVariants.{Alloc, Free, Write, Read, Poke, Trim, Flush}
use Rattle.slub_core.specs.declared.local.FrameRun.{FrameRun}
use Rattle.slub_core.specs.Local.{Local, here, run_of}
use Rattle.slub_turn_text.specs.Fields.{object_text, run_text}

-- ---- slabs that are set aside

-- a slab begins at the frame
abbrev pub begins_at : CheckedState → ℕ → Bool
begins_at s frame = is_some (slice_index_or s.slabs frame None)

-- where the slab of a frame begins: a run of 1, 2, 4 or 8 frames begins at a multiple of as many
abbrev pub begin_of : CheckedState → ℕ → ℕ
begin_of s frame =
    if begins_at s frame then frame
    else if begins_at s (frame - frame % 2) then frame - frame % 2
    else if begins_at s (frame - frame % 4) then frame - frame % 4 else frame - frame % 8

-- the frame of an address, of 4096 bytes; a frame's number has 16 bits
abbrev pub frame_of_address : ℕ → ℕ
frame_of_address address = address / 4096 % 2 ^ 16

-- the first frame of the slab in which an address lies
unfoldable pub slab_of_address : CheckedState → ℕ → ℕ
slab_of_address s address = begin_of s (frame_of_address address)

-- the index of the object at an address
unfoldable pub index_at : Layout → ℕ → ℕ → ℕ
index_at layout frame address = if layout.size == 0 then 0
    else (address - (4096 * frame + layout.left_pad)) / layout.size

-- `sets slab F aside, F.I ZONE offset K found XX wanted YY`
unfoldable pub aside_text : CheckedState → Report → List ℕ
aside_text s report =
    let frame = slab_of_address s report.address in
    codes "sets slab " ++ decimal frame ++ codes " aside, "
    ++ object_text frame (index_at s.layout frame report.address) ++ 32 ∷ damage_words report.damage

-- ---- calls

-- the object of the call
unfoldable pub own_text : Local → List ℕ
own_text l = object_text (here l).frame (here l).index

-- (`alloc_single_from_partial`)
unfoldable pub alloc_says : Local → Option Reply → List ℕ
alloc_says l (Some (Given address)) = codes "gives " ++ own_text l
alloc_says l _ = codes "has no free object"

-- its slab goes where a run is in hand after it; none begins at frame 0
unfoldable pub off_text : Local → List ℕ
off_text l = if (run_of l).frame == 0 then []
    else codes ", takes slab " ++ decimal (here l).frame ++ codes " off"

-- (`free_debug_processing`)
unfoldable pub free_says : Local → Option Reply → List ℕ
free_says l (Some (Corrupt damage)) = codes "finds " ++ own_text l ++ 32 ∷ damage_words damage
free_says l _ = codes "takes " ++ own_text l ++ codes " back" ++ off_text l

-- `writes word N of F.I, V`
unfoldable pub use_text : List ℕ → Local → ℕ → ℕ → List ℕ
use_text words l word value =
    words ++ decimal word ++ codes " of " ++ own_text l ++ codes ", " ++ decimal value

unfoldable pub read_says : Local → ℕ → Option Reply → List ℕ
read_says l word (Some (Value value)) = use_text (codes "reads word ") l word value
read_says l word _ = []

-- `pokes byte OFFSET of F.I, XX`
unfoldable pub byte_text : Local → ℤ → ℕ → List ℕ
byte_text l offset byte =
    codes "pokes byte " ++ signed_decimal offset ++ codes " of " ++ own_text l ++ codes ", "
    ++ hex_byte byte

-- the byte was written
abbrev pub is_poked : Option Reply → Bool
is_poked (Some Poked) = true
is_poked _ = false

unfoldable pub poke_says : Local → ℤ → ℕ → Option Reply → List ℕ
poke_says l offset byte reply =
    if is_poked reply then byte_text l offset byte else codes "pokes nothing"

-- the call, after which the worker is so, with this reply
unfoldable pub do_says : Local → Call → Option Reply → List ℕ
do_says l (Alloc cpu cache object place) reply = alloc_says l reply
do_says l (Free cpu object place) reply = free_says l reply
do_says l (Write object place word value) reply = use_text (codes "writes word ") l word value
do_says l (Read object place word) reply = read_says l word reply
do_says l (Poke object place offset byte) reply = poke_says l offset byte reply
do_says l (Trim cache) reply = []
do_says l (Flush cpu) reply = []

-- ---- new slabs (`alloc_single_from_new_slab`)

unfoldable pub added_says : FrameRun → List ℕ
added_says run =
    codes "adds slab " ++ decimal run.frame ++ codes ", gives " ++ object_text run.frame 0

unfoldable pub refused_says : FrameRun → List ℕ
refused_says run = codes "has no memory, puts frames " ++ run_text run.frame run.order ++ codes " back"

-- of the run that was in hand before it
unfoldable pub add_says : FrameRun → Option Reply → List ℕ
add_says run (Some (Given address)) = added_says run
add_says run _ = refused_says run
