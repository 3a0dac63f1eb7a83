-- Profile: where objects, their words and their free pointers stand, and what a slab and a list
-- have of them.
use Rattle.std.specs.Prelude.{◌≡◌, ℕ, ◌+◌, ◌/◌, ◌^◌, ◌<◌, ◌≤◌, ◌==◌, if◌then◌else◌, [], true, false, Some, None}
use Rattle.std.specs.Option.{option_map_or}
use Rattle.slub_object_layout.specs.declared.layout.Layout.{Layout}
use Rattle.slub_object_layout.specs.Layout.{IsInSlot, address_of, no_layout, order_for}
use Rattle.slub_lists.specs.declared.lists.Slab.{Slab}
use Rattle.slub_lists.specs.State.{State}
use Rattle.slub_lists.specs.Alloc.{cache_of, checked_of, own_free, slab_of}
use Rattle.slub_lists.specs.Coherent.{times_current, times_partial}

-- the layout of the live cache of a number
abbrev pub layout_at : State → ℕ → Layout
layout_at s cache = option_map_or (λ live. live.layout) (cache_of s cache) no_layout

-- the number of the memory word that is an object's free pointer while it is free
abbrev pub pointer_at : Layout → ℕ → ℕ → ℕ
pointer_at layout frame index = (address_of frame index layout + layout.offset) / 8

-- the byte at this address lies in the slot of this object of a live slab, given or not
pub record IsByteOf (s : State) (frame index byte : ℕ) : Type 0 where
  pub slab : Slab
  pub there : slab_of s frame ≡ Some slab
  pub below : index < slab.objects
  pub inside : IsInSlot frame index (layout_at s slab.cache) byte

-- a live slab: its frames are the machine's and none is frame 0, and its order follows from its
-- number of objects
pub record IsWithin (s : State) (frame : ℕ) (slab : Slab) : Type 0 where
  pub above : 0 < frame
  pub below : frame + 2 ^ slab.order ≤ s.frames
  pub order : slab.order ≡ order_for (layout_at s slab.cache) slab.objects
  pub objects : (1 ≤ slab.objects) × (slab.objects ≤ 512)

-- a slab that no CPU owns, on no list here, and with no freelist here
pub record IsOff (s : State) (frame : ℕ) (slab : Slab) : Type 0 where
  pub unfrozen : slab.frozen ≡ false
  pub unlisted : times_current s frame + times_partial s frame ≡ 0
  pub unfree : own_free s frame ≡ []

-- a slab that a CPU allocates a cache's objects from: a frozen slab of the cache, which is not
-- checked
pub record IsCurrent (s : State) (cache frame : ℕ) : Type 0 where
  pub slab : Slab
  pub there : slab_of s frame ≡ Some slab
  pub own : slab.cache ≡ cache
  pub frozen : slab.frozen ≡ true
  pub unchecked : checked_of s cache ≡ None
