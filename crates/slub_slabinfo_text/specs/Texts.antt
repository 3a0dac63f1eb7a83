-- The texts to the byte. Every line ends with a line feed.
use Rattle.std.specs.Prelude.{ℕ, ◌-◌, ◌/◌, ◌%◌, ◌<◌, Bool, true, false, List, [], ◌∷◌, ◌++◌, length, flat_map, replicate, codes, slice_index_or, Result, Ok, Err}
use Rattle.std.specs.Fmt.{decimal, digit_glyph, signed_decimal}
use Rattle.slub_trace.specs.declared.event.Act.{Act}
use Rattle.slub_trace.specs.declared.event.Act.TheVariants.{Alloc, Free, Write, Read, Poke, Trim, Flush}
use Rattle.slub_trace.specs.declared.event.Event.{Event}
use Rattle.slub_object_layout.specs.declared.layout.Layout.{Layout}
use Rattle.slub_object_layout.specs.declared.layout.LayoutRefusal.{LayoutRefusal}
use Rattle.slub_object_layout.specs.declared.layout.LayoutRefusal.TheVariants as refusal
use Rattle.slub_trace.specs.declared.damage.Damage.{Damage}
use Rattle.slub_trace.specs.declared.damage.Report.{Report}
use Rattle.slub_trace.specs.declared.damage.Zone.{Zone}
use Rattle.slub_trace.specs.declared.damage.Zone.TheVariants as zone
use Rattle.slub_trace.specs.declared.reply.Reply.{Reply}
use Rattle.slub_trace.specs.declared.reply.Reply.TheVariants as reply
use Rattle.slub_slabinfo_text.specs.declared.counts.Counts.{Counts}
use Rattle.slub_slabinfo_text.specs.declared.counts.InfoRow.{InfoRow}
use Rattle.slub_slabinfo_text.specs.declared.text.ItemWord.{ItemWord}
use Rattle.slub_slabinfo_text.specs.declared.text.ItemWord.TheVariants as word
use Rattle.slub_slabinfo_text.specs.declared.text.ItemAnswer.{ItemAnswer}
use Rattle.slub_slabinfo_text.specs.declared.text.ItemAnswer.TheVariants as answer

-- ---- damage

-- a byte as two hexadecimal digits in lower case
abbrev pub hex_digit : ℕ → ℕ
hex_digit n = digit_glyph false n

abbrev pub hex_byte : ℕ → List ℕ
hex_byte byte = hex_digit (byte / 16) ∷ hex_digit (byte % 16) ∷ []

abbrev pub zone_text : Zone → List ℕ
zone_text zone.Left = codes "left"
zone_text zone.Right = codes "right"
zone_text zone.Poison = codes "poison"
zone_text zone.End = codes "end"
zone_text zone.Padding = codes "padding"

-- `ZONE offset K found XX wanted YY`
abbrev pub damage_words : Damage → List ℕ
damage_words damage =
    zone_text damage.zone ++ codes " offset " ++ signed_decimal damage.offset
    ++ codes " found " ++ hex_byte damage.found ++ codes " wanted " ++ hex_byte damage.wanted

-- `damage TITLE ADDRESS: `, and what was found
abbrev pub damage_line : List ℕ → Report → List ℕ
damage_line title report =
    codes "damage " ++ title ++ 32 ∷ decimal report.address ++ codes ": "
    ++ damage_words report.damage ++ 10 ∷ []

-- ---- replies

abbrev pub reply_answer : Reply → List ℕ
reply_answer (reply.Given address) = codes "given " ++ decimal address
reply_answer reply.NoFrames = codes "no frames"
reply_answer reply.NoSuchCache = codes "no such cache"
reply_answer reply.NoMemory = codes "no memory"
reply_answer (reply.Freed address) = codes "freed " ++ decimal address
reply_answer reply.NotHeld = codes "not held"
reply_answer (reply.Corrupt damage) = codes "corrupt " ++ damage_words damage
reply_answer reply.Wrote = codes "wrote"
reply_answer (reply.Value value) = codes "value " ++ decimal value
reply_answer reply.OutOfObject = codes "out of object"
reply_answer reply.Poked = codes "poked"
reply_answer reply.OutOfSlot = codes "out of slot"
reply_answer reply.NotChecked = codes "not checked"
reply_answer (reply.IdsSpent tid) = codes "ids spent " ++ decimal tid
reply_answer (reply.Trimmed slabs) = codes "discarded " ++ decimal slabs
reply_answer reply.Checked = codes "checked"
reply_answer (reply.Flushed slabs) = codes "moved " ++ decimal slabs

-- a trim is of the cache that one of these names names
abbrev pub IsNamed : List (List ℕ) → Act → Type 0
IsNamed names (Trim place) = place < length names
IsNamed names _ = Unit {0}

-- what the line of an act says before the answer; the name of a trim and the CPU of a flush too
abbrev pub act_words : List (List ℕ) → ℕ → Act → List ℕ
act_words names cpu (Alloc cache object) = codes "alloc " ++ decimal object
act_words names cpu (Free object) = codes "free " ++ decimal object
act_words names cpu (Write word object value) =
    codes "write " ++ decimal object ++ 32 ∷ decimal word
act_words names cpu (Read word object) = codes "read " ++ decimal object ++ 32 ∷ decimal word
act_words names cpu (Poke object offset byte) =
    codes "poke " ++ decimal object ++ 32 ∷ signed_decimal offset
act_words names cpu (Trim place) = codes "trim " ++ slice_index_or names place []
act_words names cpu Flush = codes "flush " ++ decimal cpu

-- `alloc O: `, `write O WORD: ` or the like, and the answer
abbrev pub reply_text : List (List ℕ) → Event → Reply → List ℕ
reply_text names event reply =
    act_words names event.cpu event.act ++ codes ": " ++ reply_answer reply ++ 10 ∷ []

-- ---- items

abbrev pub word_text : ItemWord → List ℕ
word_text word.Cache = codes "cache"
word_text word.Shrink = codes "shrink"
word_text word.Destroy = codes "destroy"
word_text word.Tune = codes "tune"

abbrev pub answer_text : ItemAnswer → List ℕ
answer_text answer.Fresh = codes "new"
answer_text (answer.MergedWith title) = codes "merged with " ++ title
answer_text answer.NameTaken = codes "name taken"
answer_text answer.TooMany = codes "too many caches"
answer_text answer.BadSize = codes "bad size"
answer_text answer.BadAlign = codes "bad alignment"
answer_text answer.BadFlags = codes "bad flags"
answer_text answer.SlabsRemain = codes "slabs remain"
answer_text answer.NoSlabs = codes "no slabs"
answer_text answer.Destroyed = codes "destroyed"
answer_text answer.NameDropped = codes "name dropped"
answer_text (answer.Busy objects) = codes "busy " ++ decimal objects
answer_text answer.NoSuchCache = codes "no such cache"
answer_text answer.Set = codes "set"
answer_text answer.Checked = codes "checked"

-- an answer that is no refusal: its line is written with `--replies` alone
abbrev pub is_ok_answer : ItemAnswer → Bool
is_ok_answer answer.NameTaken = false
is_ok_answer answer.TooMany = false
is_ok_answer answer.BadSize = false
is_ok_answer answer.BadAlign = false
is_ok_answer answer.BadFlags = false
is_ok_answer (answer.Busy objects) = false
is_ok_answer answer.NoSuchCache = false
is_ok_answer answer.Checked = false
is_ok_answer _ = true

-- `cache N: ` or the like, and the answer
abbrev pub item_line : ItemWord → List ℕ → ItemAnswer → List ℕ
item_line word name answer =
    word_text word ++ 32 ∷ name ++ codes ": " ++ answer_text answer ++ 10 ∷ []

-- ---- slabinfo, version 2.1 of `/proc/slabinfo` (`print_slabinfo_header`, `cache_show`)

-- a number with spaces before it, up to this width
abbrev pub right : ℕ → ℕ → List ℕ
right width n = replicate (width - length (decimal n)) 32 ++ decimal n

-- a text with spaces behind it, up to this width; a longer one is not cut
abbrev pub left : ℕ → List ℕ → List ℕ
left width text = text ++ replicate (width - length text) 32

abbrev pub header_text : List ℕ
header_text =
    codes "slabinfo - version: 2.1" ++ 10 ∷ codes "# name            <active_objs> <num_objs> "
    ++ codes "<objsize> <objperslab> <pagesperslab> : tunables <limit> <batchcount> "
    ++ codes "<sharedfactor> : slabdata <active_slabs> <num_slabs> <sharedavail>" ++ 10 ∷ []

-- a space and a number: ` %6lu` is the column of width 6
abbrev pub column : ℕ → ℕ → List ℕ
column width n = 32 ∷ right width n

-- ` %6lu %6lu %6u %4u %4d`
abbrev pub row_objects : Counts → List ℕ
row_objects counts =
    column 6 counts.active_objs ++ column 6 counts.num_objs ++ column 6 counts.objsize
    ++ column 4 counts.objperslab ++ column 4 counts.pagesperslab

-- ` %6lu %6lu %6lu` and the end of the line: all slabs count as active
abbrev pub row_slabs : ℕ → List ℕ
row_slabs slabs = column 6 slabs ++ column 6 slabs ++ column 6 0 ++ 10 ∷ []

-- ` : tunables %4u %4u %4u : slabdata` stands between the two
abbrev pub row_numbers : Counts → List ℕ
row_numbers counts =
    row_objects counts ++ codes " : tunables" ++ column 4 0 ++ column 4 0 ++ column 4 0
    ++ codes " : slabdata" ++ row_slabs counts.num_slabs

-- the title, as `%-17s`, and the numbers
abbrev pub row_text : InfoRow → List ℕ
row_text row = left 17 row.title ++ row_numbers row.counts

-- the two header lines and a line for each row
abbrev pub info_text : List InfoRow → List ℕ
info_text rows = header_text ++ flat_map row_text rows

-- ---- the total

abbrev pub total_line : ℕ → ℕ → ℕ → ℕ → ℕ → ℕ → ℕ → ℕ → List ℕ
total_line given freed live free aside frozen slabs frames =
    codes "total given " ++ decimal given ++ codes " freed " ++ decimal freed
    ++ codes " live " ++ decimal live ++ codes " free " ++ decimal free
    ++ codes " aside " ++ decimal aside ++ codes " frozen " ++ decimal frozen
    ++ codes " slabs " ++ decimal slabs ++ codes " frames " ++ decimal frames ++ 10 ∷ []

-- ---- the layout

-- a line of a name and a number
abbrev pub number_line : List ℕ → ℕ → List ℕ
number_line name n = name ++ 32 ∷ decimal n ++ 10 ∷ []

-- the lines on a slot
abbrev pub slot_lines : Layout → List ℕ
slot_lines layout =
    number_line (codes "object_size") layout.object_size ++ number_line (codes "inuse") layout.inuse
    ++ number_line (codes "offset") layout.offset ++ number_line (codes "left_pad") layout.left_pad
    ++ number_line (codes "size") layout.size ++ number_line (codes "align") layout.align

-- the lines on slabs
abbrev pub slab_lines : Layout → List ℕ
slab_lines layout =
    number_line (codes "order") layout.order ++ number_line (codes "objects") layout.objects
    ++ number_line (codes "min_order") layout.min_order
    ++ number_line (codes "min_objects") layout.min_objects_slab
    ++ number_line (codes "min_partial") layout.min_partial
    ++ number_line (codes "cpu_partial_slabs") layout.cpu_partial_slabs

-- the twelve lines of a layout, and the line of a refusal
unfoldable pub layout_lines : Result Layout LayoutRefusal → List ℕ
layout_lines (Ok layout) = slot_lines layout ++ slab_lines layout
layout_lines (Err refusal.BadSize) = codes "layout: bad size" ++ 10 ∷ []
layout_lines (Err refusal.BadAlign) = codes "layout: bad alignment" ++ 10 ∷ []
layout_lines (Err refusal.BadFlags) = codes "layout: bad flags" ++ 10 ∷ []
