-- The rows of a cache's slabs.
use Rattle.std.specs.Prelude.{ℕ, ◌-◌, ◌==◌, if◌then◌else◌, Bool, List, [], ◌++◌, flat_map, filter, length, slice_get, codes, Option, Some, None}
use Rattle.std.specs.List.{range_with_len}
use Rattle.std.specs.Option.{option_map_or}
use Rattle.slub_red_zone.specs.State.{CheckedState, SlabState, is_aside, objects_in, slab_of as checked_slab}
use Rattle.slub_words.specs.declared.slab.SlabWord.{SlabWord}
use Rattle.slub_lists.specs.declared.lists.Slab.{Slab}
use Rattle.slub_lists.specs.State.{State}
use Rattle.slub_lists.specs.Alloc.{checked_of, own_free, slab_of}
use Rattle.slub_state_text.specs.Fields.{row, numbered, field, slab_word_text}
use Rattle.slub_state_text.specs.Ranges.{ranges_text}
use Rattle.slub_law_opening.specs.Opening.{head_of, plain_word}

-- the word of an unchecked slab with this freelist of its own
abbrev pub word_with : Slab → List ℕ → Bool → SlabWord
word_with slab free listed = record {
  head = head_of free;
  inuse = slab.objects - length free;
  objects = slab.objects;
  frozen = slab.frozen;
  listed = listed;
  cache = slab.cache;
}

-- what it says, and the freelist, front first
abbrev pub word_fields : SlabWord → List ℕ → List ℕ
word_fields word free = slab_word_text word ++ codes " freelist" ++ ranges_text free

-- the same of an unchecked slab of a machine
abbrev pub plain_fields : State → ℕ → Slab → List ℕ
plain_fields s frame slab = word_fields (plain_word s frame slab) (own_free s frame)

-- an object of this index is set aside
abbrev pub is_aside_at : SlabState → ℕ → Bool
is_aside_at slab index = option_map_or is_aside (slice_get slab.states index) Bool.false

-- the objects that are set aside, by rising index
abbrev pub aside_of : SlabState → List ℕ
aside_of slab = filter (is_aside_at slab) (range_with_len 0 (objects_in slab))

-- what a checked slab has: objects, those that are free, the first given first, and those set aside
abbrev pub objects_fields : ℕ → List ℕ → List ℕ → List ℕ
objects_fields objects free aside =
    field (codes "objects") objects ++ codes " free" ++ ranges_text free
    ++ codes " aside" ++ ranges_text aside

abbrev pub checked_fields : Slab → SlabState → List ℕ
checked_fields slab objects = objects_fields slab.objects objects.free (aside_of objects)

-- the fields of a slab of a cache, which is checked or isn't
abbrev pub fields_of : State → Option CheckedState → ℕ → Slab → List ℕ
fields_of s None frame slab = plain_fields s frame slab
fields_of s (Some slabs) frame slab = checked_fields slab (checked_slab slabs frame)

-- the row of the slab that begins at a frame, where it is one of the cache
abbrev pub slab_text : State → ℕ → ℕ → Option Slab → List ℕ
slab_text s cache frame None = []
slab_text s cache frame (Some slab) = if slab.cache == cache
    then row (numbered (codes "slab") frame) (fields_of s (checked_of s cache) frame slab) else []

abbrev pub slab_row : State → ℕ → ℕ → List ℕ
slab_row s cache frame = slab_text s cache frame (slab_of s frame)

-- the rows of a cache's slabs, by frame
abbrev pub slab_rows : State → ℕ → List ℕ
slab_rows s cache = flat_map (slab_row s cache) (range_with_len 0 s.frames)
