-- The layout of a cache: the equations of `calculate_sizes`, `calculate_alignment` and
-- `calculate_order` of Linux 6.1.
use Rattle.std.specs.Prelude.{◌≡◌, ℕ, ◌+◌, ◌-◌, ◌*◌, ◌/◌, ◌%◌, ◌^◌, ◌<◌, ◌≤◌, min, max, ◌⊎◌, ◌≢◌, Bool, false, ◌||◌, ◌&&◌, ◌==◌, nat_lt, if◌then◌else◌}
use Rattle.std.specs.Int.{IsPowerOfTwo, div_ceil, leading_zeros, w32}
use Rattle.slub_object_layout.specs.declared.layout.Flags.{Flags}
use Rattle.slub_object_layout.specs.declared.layout.Layout.{Layout}
use Rattle.slub_object_layout.specs.declared.layout.Spec.{Spec}

-- ---- what a layout is made for

-- an object has 1 to 16384 bytes
abbrev pub IsSize : ℕ → Type 0
IsSize size = (1 ≤ size) × (size ≤ 16384)

-- no demand, or a power of two up to 4096
abbrev pub IsAlign : ℕ → Type 0
IsAlign align = (align ≤ 4096) × ((align ≡ 0) ⊎ IsPowerOfTwo align)

-- none of user tracking, tracing and failslab is asked for (profile)
abbrev pub IsSupported : Flags → Type 0
IsSupported flags = (flags.user ≡ false) × (flags.trace ≡ false) × (flags.fail ≡ false)

-- there is a layout for this spec
pub record IsAccepted (spec : Spec) : Type 0 where
  pub size : IsSize spec.size
  pub align : IsAlign spec.align
  pub flags : IsSupported spec.flags

-- ---- the slot

-- the least multiple of a that is x or more (`ALIGN`)
abbrev pub align_up : ℕ → ℕ → ℕ
align_up x a = (x + (a - 1)) / a * a

-- the greatest multiple of a that is at most x (`ALIGN_DOWN`)
abbrev pub align_down : ℕ → ℕ → ℕ
align_down x a = x / a * a

-- the least of 8, 16, 32 and 64 that an object of this size fits in, and 64 for a larger one
-- (`calculate_alignment`)
abbrev pub line_of : ℕ → ℕ
line_of size =
    if nat_lt 32 size then 64
    else (if nat_lt 16 size then 32 else (if nat_lt 8 size then 16 else 8))

-- the greatest of what is asked for, the line where H is set, and a word (`calculate_alignment`)
unfoldable pub alignment_of : Spec → ℕ
alignment_of spec =
    align_up (max (max spec.align (if spec.flags.line then line_of spec.size else 8)) 8) 8

-- up to the end of the right red zone: an object that ends with its last word gets a word more
unfoldable pub inuse_of : Spec → ℕ
inuse_of spec =
    align_up spec.size 8
    + (if spec.flags.zones && (align_up spec.size 8 == spec.size) then 8 else 0)

-- the free pointer stands behind the object, which is never written while it is free
abbrev pub has_pointer_behind : Spec → Bool
has_pointer_behind spec = spec.flags.poison || (spec.flags.zones && nat_lt spec.size 8)

-- the free pointer is behind the object, or in the last word that begins at or before its middle
unfoldable pub offset_of : Spec → ℕ
offset_of spec = if has_pointer_behind spec then inuse_of spec else align_down (spec.size / 2) 8

-- the left red zone, so long that the object keeps its alignment
unfoldable pub left_pad_of : Spec → ℕ
left_pad_of spec = if spec.flags.zones then align_up 8 (alignment_of spec) else 0

-- the object with its right red zone, a free pointer behind it, and a word and the left red zone
-- where Z is set
unfoldable pub used_of : Spec → ℕ
used_of spec =
    inuse_of spec + (if has_pointer_behind spec then 8 else 0)
    + (if spec.flags.zones then 8 else 0) + left_pad_of spec

-- the size of a slot (`calculate_sizes`)
unfoldable pub slot_of : Spec → ℕ
slot_of spec = align_up (used_of spec) (alignment_of spec)

-- ---- the order

-- the least order whose frames hold these bytes (`get_order`)
pub record IsLeastOrder (bytes order : ℕ) : Type 0 where
  pub holds : bytes ≤ 4096 * 2 ^ order
  pub least : (o : ℕ) → bytes ≤ 4096 * 2 ^ o → order ≤ o

-- the number of binary digits of a number below 2 ^ 32 (`fls`)
abbrev pub fls : ℕ → ℕ
fls x = 32 - leading_zeros w32 x

-- the most objects that are asked of a slab
abbrev pub most_objects : ℕ → ℕ → ℕ
most_objects size cpus = min (4 * (fls cpus + 1)) (32768 / size)

-- 2 ^ order frames, at most 8, hold these objects, and what is left over is at most this part of
-- them (profile)
pub record Fits (size objects fraction order : ℕ) : Type 0 where
  pub holds : objects * size ≤ 4096 * 2 ^ order
  pub small : order ≤ 3
  pub spare : (4096 * 2 ^ order) % size ≤ 4096 * 2 ^ order / fraction

-- some order fits
abbrev pub SomeFits : ℕ → ℕ → ℕ → Type 0
SomeFits size objects fraction = (order : ℕ) × Fits size objects fraction order

-- the least order that fits (`calc_slab_order`)
pub record IsLeastFit (size objects fraction order : ℕ) : Type 0 where
  pub fits : Fits size objects fraction order
  pub least : (o : ℕ) → Fits size objects fraction o → order ≤ o

-- one of the fractions 16, 8 and 4 has an order for so many objects
abbrev pub HasOrder : ℕ → ℕ → Type 0
HasOrder size objects = SomeFits size objects 16 ⊎ SomeFits size objects 8 ⊎ SomeFits size objects 4

-- the least order of the first of the fractions 16, 8 and 4 that has one
pub data IsFirstFit (size objects order : ℕ) : Type 0 where
  sixteenth : IsLeastFit size objects 16 order → IsFirstFit size objects order
  eighth : ¬ SomeFits size objects 16 → IsLeastFit size objects 8 order
      → IsFirstFit size objects order
  quarter : ¬ SomeFits size objects 16 → ¬ SomeFits size objects 8
      → IsLeastFit size objects 4 order → IsFirstFit size objects order

-- the greatest number of objects, above 1 and at most `most`, that has an order
pub record IsGreatest (size most objects : ℕ) : Type 0 where
  pub above_one : 1 < objects
  pub within : objects ≤ most
  pub some : HasOrder size objects
  pub greatest : (m : ℕ) → 1 < m → m ≤ most → HasOrder size m → m ≤ objects

-- the order of a slab: that of the greatest number of objects that has one, else the least for one
-- object (`calculate_order`)
pub data IsOrder (size cpus order : ℕ) : Type 0 where
  greatest : (objects : ℕ) → IsGreatest size (most_objects size cpus) objects
      → IsFirstFit size objects order → IsOrder size cpus order
  single : ((m : ℕ) → 1 < m → m ≤ most_objects size cpus → ¬ HasOrder size m)
      → IsLeastOrder size order → IsOrder size cpus order

-- ---- the lists

-- the slabs that the node list keeps: half the binary logarithm of the slot size, from 5 to 10
-- (`kmem_cache_open`)
unfoldable pub min_partial_of : ℕ → ℕ
min_partial_of size = max 5 (min 10 ((fls size - 1) / 2))

-- the objects that a CPU's partial list is to hold (`set_cpu_partial`; the numbers as the profile
-- has them)
unfoldable pub cpu_partial_of : ℕ → ℕ
cpu_partial_of size =
    if nat_lt size 256 then 120
    else (if nat_lt size 1024 then 52 else (if nat_lt size 4096 then 24 else 6))

-- as many slabs, each taken as half full (`slub_set_cpu_partial`)
abbrev pub cpu_partial_slabs_of : ℕ → ℕ → ℕ
cpu_partial_slabs_of cpu_partial objects = div_ceil (2 * cpu_partial) objects

-- a cache is checked where F, Z or P is set
abbrev pub is_checked : Flags → Bool
is_checked flags = flags.checks || flags.zones || flags.poison

-- ---- the layout

-- the solution of the equations for this spec and this number of CPUs
pub record IsLayout (spec : Spec) (cpus : ℕ) (layout : Layout) : Type 0 where
  pub object_size : layout.object_size ≡ spec.size
  pub inuse : layout.inuse ≡ inuse_of spec
  pub offset : layout.offset ≡ offset_of spec
  pub left_pad : layout.left_pad ≡ left_pad_of spec
  pub size : layout.size ≡ slot_of spec
  pub align : layout.align ≡ alignment_of spec
  pub order : IsOrder layout.size cpus layout.order
  pub objects : layout.objects ≡ 4096 * 2 ^ layout.order / layout.size
  pub min_order : IsLeastOrder layout.size layout.min_order
  pub min_objects_slab : layout.min_objects_slab ≡ 4096 * 2 ^ layout.min_order / layout.size
  pub min_partial : layout.min_partial ≡ min_partial_of layout.size
  pub cpu_partial_slabs :
      layout.cpu_partial_slabs ≡ (if is_checked spec.flags then 0
      else cpu_partial_slabs_of (cpu_partial_of layout.size) layout.objects)

-- what holds of every layout
pub record IsWithinBounds (layout : Layout) : Type 0 where
  pub object_size : (1 ≤ layout.object_size) × (layout.object_size ≤ 16384)
  pub size : (8 ≤ layout.size) × (layout.size ≤ 24576)
  pub size_in_words : layout.size % 8 ≡ 0
  pub inuse : (layout.object_size ≤ layout.inuse) × (layout.inuse ≤ layout.size - layout.left_pad)
  pub left_pad : layout.left_pad ≤ layout.size
  pub left_pad_in_words : layout.left_pad % 8 ≡ 0
  pub offset : layout.offset + 8 ≤ layout.size - layout.left_pad
  pub offset_in_words : layout.offset % 8 ≡ 0
  pub order : layout.order ≤ 3
  pub min_order : layout.min_order ≤ layout.order
  pub objects : (1 ≤ layout.objects) × (layout.objects ≤ 512)
  pub min_objects_slab : (1 ≤ layout.min_objects_slab) × (layout.min_objects_slab ≤ layout.objects)
  pub objects_fit : layout.objects * layout.size ≤ 4096 * 2 ^ layout.order
  pub min_objects_fit : layout.min_objects_slab * layout.size ≤ 4096 * 2 ^ layout.min_order
  pub within_eight_frames : layout.objects * layout.size ≤ 32768
  pub orders_differ : layout.order ≢ layout.min_order → layout.objects ≢ layout.min_objects_slab
  pub min_partial : (5 ≤ layout.min_partial) × (layout.min_partial ≤ 10)
  pub cpu_partial_slabs : layout.cpu_partial_slabs ≤ 240

-- ---- places in a slab

-- the address of an object of the slab that begins at this frame, in bytes: past the left red zone
-- of its slot (`fixup_red_left`)
abbrev pub address_of : ℕ → ℕ → Layout → ℕ
address_of frame index layout = frame * 4096 + index * layout.size + layout.left_pad

-- the byte at this address lies in the object's slot: from its left red zone to the end of its
-- padding
pub record IsInSlot (frame index : ℕ) (layout : Layout) (byte : ℕ) : Type 0 where
  pub from : address_of frame index layout ≤ byte + layout.left_pad
  pub below : byte + layout.left_pad < address_of frame index layout + layout.size

-- the byte at this address lies in the 2 ^ order frames from this one on
pub record IsInRun (frame order byte : ℕ) : Type 0 where
  pub from : frame * 4096 ≤ byte
  pub below : byte < (frame + 2 ^ order) * 4096

-- the byte at this address is one of an object's free pointer
pub record IsInPointer (frame index : ℕ) (layout : Layout) (byte : ℕ) : Type 0 where
  pub from : address_of frame index layout + layout.offset ≤ byte
  pub below : byte < address_of frame index layout + layout.offset + 8

-- the byte at this address is one of an object, or of its right red zone
pub record IsInUse (frame index : ℕ) (layout : Layout) (byte : ℕ) : Type 0 where
  pub from : address_of frame index layout ≤ byte
  pub below : byte < address_of frame index layout + layout.inuse

-- where there is no cache
abbrev pub no_layout : Layout
no_layout = record {
  object_size = 0;
  inuse = 0;
  offset = 0;
  left_pad = 0;
  size = 0;
  align = 0;
  order = 0;
  objects = 0;
  min_order = 0;
  min_objects_slab = 0;
  min_partial = 0;
  cpu_partial_slabs = 0;
}

-- the order of a slab of so many objects (`oo_order`)
abbrev pub order_for : Layout → ℕ → ℕ
order_for layout objects = if objects == layout.objects then layout.order else layout.min_order

-- the order and the number of objects are the layout's, or its least ones
abbrev pub IsSized : Layout → ℕ → ℕ → Type 0
IsSized layout order objects =
    ((order ≡ layout.order) × (objects ≡ layout.objects))
    ⊎ ((order ≡ layout.min_order) × (objects ≡ layout.min_objects_slab))
