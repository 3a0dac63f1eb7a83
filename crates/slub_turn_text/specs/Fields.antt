-- Values as texts, what a field becomes, and the fields of packed words.
use Rattle.std.specs.Prelude.{ℕ, ◌+◌, ◌-◌, ◌^◌, min, Bool, ◌&&◌, ◌==◌, if◌then◌else◌, List, [], ◌∷◌, ◌++◌, codes, Option, Some, None}
use Rattle.std.specs.Fmt.{decimal}
use Rattle.slub_words.specs.declared.board.BoardWord.{BoardWord}
use Rattle.slub_words.specs.declared.cpu.CpuWord.{CpuWord}
use Rattle.slub_words.specs.declared.slab.SlabWord.{SlabWord}
use Rattle.slub_cpu_partial.specs.declared.words.ListWord.{ListWord}
use Rattle.slub_core.specs.World.{one_if}
use Rattle.slub_core.specs.Words.{board_in}
use Rattle.slub_turn_text.specs.declared.fields.Form.{Form}
use Rattle.slub_turn_text.specs.declared.fields.Form.TheVariants.{Number, Index, Frame, Holder}

-- ---- values

-- an object's index, which stands as one more in a packed word; 0 is no object
abbrev pub index_text : ℕ → List ℕ
index_text n = if n == 0 then codes "none" else decimal (n - 1)

-- the frame where a slab begins; 0 is no slab
abbrev pub frame_text : ℕ → List ℕ
frame_text n = if n == 0 then codes "none" else decimal n

-- a lock's word: the number of the worker that has it plus one
abbrev pub holder_text : ℕ → List ℕ
holder_text n = if n == 0 then codes "free" else codes "w" ++ decimal (n - 1)

-- an object: `F.I`
unfoldable pub object_text : ℕ → ℕ → List ℕ
object_text frame index = decimal frame ++ 46 ∷ decimal index

-- the last of 2 ^ order frames; orders end at 10 (`MAX_ORDER`)
abbrev pub last_of : ℕ → ℕ → ℕ
last_of frame order = frame + 2 ^ min order 10 - 1

-- 2 ^ order frames: `F..G`, or `F` alone
unfoldable pub run_text : ℕ → ℕ → List ℕ
run_text frame order = if order == 0 then decimal frame
    else decimal frame ++ codes ".." ++ decimal (last_of frame order)

unfoldable pub text_as : Form → ℕ → List ℕ
text_as Number n = decimal n
text_as Index n = index_text n
text_as Frame n = frame_text n
text_as Holder n = holder_text n

-- ---- fields

-- a value alone, where it doesn't change; `old->new` where it does
unfoldable pub became : Form → ℕ → ℕ → List ℕ
became form old new =
    text_as form old ++ (if old == new then [] else codes "->" ++ text_as form new)

-- a field with its name, where what was found isn't what was noted
unfoldable pub unlike : List ℕ → Form → ℕ → ℕ → List ℕ
unlike name form noted found = if noted == found then [] else name ++ text_as form found

-- ---- CPU words

-- `tid 2->4 slab 1 head 0->1`
unfoldable pub cpu_change : CpuWord → CpuWord → List ℕ
cpu_change old new =
    codes "tid " ++ became Number old.tid new.tid ++ codes " slab "
    ++ became Frame old.frame new.frame ++ codes " head " ++ became Index old.head new.head

-- ` tid 4 head 1`
unfoldable pub cpu_unlike : CpuWord → CpuWord → List ℕ
cpu_unlike noted found =
    unlike (codes " tid ") Number noted.tid found.tid
    ++ unlike (codes " slab ") Frame noted.frame found.frame
    ++ unlike (codes " head ") Index noted.head found.head

-- ---- words of partial lists

-- `front none->1 count 0->1`
unfoldable pub list_change : ListWord → ListWord → List ℕ
list_change old new =
    codes "front " ++ became Frame old.front new.front ++ codes " count "
    ++ became Number old.count new.count

unfoldable pub list_unlike : ListWord → ListWord → List ℕ
list_unlike noted found =
    unlike (codes " front ") Frame noted.front found.front
    ++ unlike (codes " count ") Number noted.count found.count

-- ---- slab words

-- `frozen 1->0 listed 0`
unfoldable pub marks_change : SlabWord → SlabWord → List ℕ
marks_change old new =
    codes " frozen " ++ became Number (one_if old.frozen) (one_if new.frozen)
    ++ codes " listed " ++ became Number (one_if old.listed) (one_if new.listed)

-- `head none->0 inuse 21->20 objects 21 frozen 1 listed 0`
unfoldable pub slab_change : SlabWord → SlabWord → List ℕ
slab_change old new =
    codes "head " ++ became Index old.head new.head ++ codes " inuse "
    ++ became Number old.inuse new.inuse ++ codes " objects "
    ++ became Number old.objects new.objects ++ marks_change old new

-- ` head 0 inuse 3`
unfoldable pub counts_unlike : SlabWord → SlabWord → List ℕ
counts_unlike noted found =
    unlike (codes " head ") Index noted.head found.head
    ++ unlike (codes " inuse ") Number noted.inuse found.inuse
    ++ unlike (codes " objects ") Number noted.objects found.objects

unfoldable pub marks_unlike : SlabWord → SlabWord → List ℕ
marks_unlike noted found =
    unlike (codes " frozen ") Number (one_if noted.frozen) (one_if found.frozen)
    ++ unlike (codes " listed ") Number (one_if noted.listed) (one_if found.listed)

-- all that is told is the same
unfoldable pub is_told_same : SlabWord → SlabWord → Bool
is_told_same noted found =
    (noted.head == found.head) && (noted.inuse == found.inuse) && (noted.objects == found.objects)
    && (one_if noted.frozen == one_if found.frozen) && (one_if noted.listed == one_if found.listed)

-- the cache is told where nothing else differs
unfoldable pub slab_unlike : SlabWord → SlabWord → List ℕ
slab_unlike noted found =
    if is_told_same noted found then codes " cache " ++ decimal found.cache
    else counts_unlike noted found ++ marks_unlike noted found

-- ---- board words

unfoldable pub place_text : Option BoardWord → List ℕ
place_text None = codes "none"
place_text (Some b) = object_text b.frame b.index

-- `1.0->none`
unfoldable pub board_change : ℕ → ℕ → List ℕ
board_change old new =
    place_text (board_in old)
    ++ (if old == new then [] else codes "->" ++ place_text (board_in new))
