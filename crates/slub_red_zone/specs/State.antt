-- What contracts see of a checked cache's slabs.
use Rattle.std.specs.Prelude.{◌≡◌, ℕ, ◌+◌, ◌*◌, ◌++◌, Bool, true, false, is_some, List, [], length, take, drop, count_by, sum_by, slice_get, slice_index_or, slice_set, slice_range, Option, None, Some, IsSome, unwrap_or}
use Rattle.slub_object_layout.specs.declared.layout.Flags.{Flags}
use Rattle.slub_object_layout.specs.declared.layout.Layout.{Layout}
use Rattle.slub_trace.specs.declared.damage.Report.{Report}
use Rattle.slub_red_zone.specs.declared.slab.ObjectState.{ObjectState}
use Rattle.slub_red_zone.specs.declared.slab.ObjectState.TheVariants.{Free, Used, Aside}
use Rattle.slub_red_zone.specs.declared.checked.Slot.{Slot}

-- a slab
pub record SlabState : Type 0 where
  pub order : ℕ
  -- the bytes of its slots, one slot after the other
  pub bytes : List ℕ
  -- by index: what each object is
  pub states : List ObjectState
  -- the free objects, front first
  pub free : List ℕ

-- the slabs of a cache
pub record CheckedState : Type 0 where
  pub layout : Layout
  pub flags : Flags
  -- the number of the cache
  pub cache : ℕ
  -- by frame: the slab whose run begins there
  pub slabs : List (Option SlabState)
  -- the slabs with a free object, front first
  pub listed : List ℕ
  -- what was found so far, oldest first
  pub reports : List Report

-- ---- a slab

-- a slab of no object, where there is none
abbrev pub no_slab : SlabState
no_slab = record { order = 0; bytes = []; states = []; free = [] }

abbrev pub is_free : ObjectState → Bool
is_free Free = true
is_free Used = false
is_free Aside = false

abbrev pub is_used : ObjectState → Bool
is_used Free = false
is_used Used = true
is_used Aside = false

abbrev pub is_aside : ObjectState → Bool
is_aside Free = false
is_aside Used = false
is_aside Aside = true

-- how many objects it has, and how many of them are free, used and set aside
abbrev pub objects_in : SlabState → ℕ
objects_in slab = length slab.states

abbrev pub free_in : SlabState → ℕ
free_in slab = count_by is_free slab.states

abbrev pub used_in : SlabState → ℕ
used_in slab = count_by is_used slab.states

abbrev pub aside_in : SlabState → ℕ
aside_in slab = count_by is_aside slab.states

-- the bytes of an object's slot
abbrev pub slot_of : Layout → List ℕ → ℕ → List ℕ
slot_of layout bytes index =
    slice_range bytes (index * layout.size) (index * layout.size + layout.size)

-- the bytes with these in the place of a slot's
abbrev pub with_slot : Layout → List ℕ → ℕ → List ℕ → List ℕ
with_slot layout bytes index slot =
    take (index * layout.size) bytes ++ slot ++ drop (index * layout.size + layout.size) bytes

-- ---- the cache

-- a slab's run begins at this frame
abbrev pub Has : CheckedState → ℕ → Type 0
Has s frame = IsSome (slice_index_or s.slabs frame None)

-- the slab whose run begins at this frame
abbrev pub slab_at : List (Option SlabState) → ℕ → SlabState
slab_at slabs frame = unwrap_or (slice_index_or slabs frame None) no_slab

abbrev pub slab_of : CheckedState → ℕ → SlabState
slab_of s frame = slab_at s.slabs frame

-- the bytes of an object's slot
abbrev pub bytes_of : CheckedState → Slot → List ℕ
bytes_of s slot = slot_of s.layout (slab_of s slot.frame).bytes slot.index

-- what an object is, None where there is no such object
abbrev pub state_of : CheckedState → Slot → Option ObjectState
state_of s slot = slice_get (slab_of s slot.frame).states slot.index

-- it is used
abbrev pub IsUsed : CheckedState → Slot → Type 0
IsUsed s slot = state_of s slot ≡ Some Used

-- the same slabs, but for one
abbrev pub with_slab : CheckedState → ℕ → SlabState → CheckedState
with_slab s frame slab = record s { slabs = slice_set s.slabs frame (Some slab) }

-- how many objects are free, used and set aside, and how many slabs there are
abbrev pub free_count : CheckedState → ℕ
free_count s = sum_by (λ slab. free_in (unwrap_or slab no_slab)) s.slabs

abbrev pub used_count : CheckedState → ℕ
used_count s = sum_by (λ slab. used_in (unwrap_or slab no_slab)) s.slabs

abbrev pub aside_count : CheckedState → ℕ
aside_count s = sum_by (λ slab. aside_in (unwrap_or slab no_slab)) s.slabs

abbrev pub slab_count : CheckedState → ℕ
slab_count s = count_by is_some s.slabs
