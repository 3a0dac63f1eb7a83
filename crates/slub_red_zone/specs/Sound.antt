-- What holds of a checked cache's slabs between any two calls.
use Rattle.std.specs.Prelude.{◌≡◌, ℕ, ◌*◌, ◌<◌, ◌≤◌, nat_lt, if◌then◌else◌, Bool, List, length, count_by, slice_index_or, None, IfSome, IsTrue, ◌⊎◌, Option, Some, false}
use Rattle.slub_common.specs.Times.{times}
use Rattle.slub_object_layout.specs.declared.layout.Flags.{Flags}
use Rattle.slub_object_layout.specs.declared.layout.Layout.{Layout}
use Rattle.slub_object_layout.specs.declared.layout.Spec.{Spec}
use Rattle.slub_object_layout.specs.Layout.{IsAccepted, IsLayout, IsWithinBounds, is_checked, IsSized}
use Rattle.slub_red_zone.specs.declared.slab.ObjectState.{ObjectState}
use Rattle.slub_red_zone.specs.declared.slab.ObjectState.TheVariants.{Aside}
use Rattle.slub_red_zone.specs.State.{SlabState, CheckedState, Has, is_free, objects_in, aside_count}

-- the layout is the one for a spec with these flags on a machine of some number of CPUs
pub record IsLayoutFor (flags : Flags) (layout : Layout) : Type 0 where
  pub spec : Spec
  pub cpus : ℕ
  pub same_flags : spec.flags ≡ flags
  pub accepted : IsAccepted spec
  pub some_cpu : (1 ≤ cpus) × (cpus ≤ 16)
  pub solved : IsLayout spec cpus layout
  pub bounds : IsWithinBounds layout

-- each free object is in the list of free objects once, and nothing else is
pub record IsFreeList (states : List ObjectState) (free : List ℕ) : Type 0 where
  pub once : (index : ℕ)
      → times index free ≡ (if is_free (slice_index_or states index Aside) then 1 else 0)
  pub count : length free ≡ count_by is_free states

-- what holds of each slab
pub record IsSlab (layout : Layout) (slab : SlabState) : Type 0 where
  pub sized : IsSized layout slab.order (objects_in slab)
  pub bytes : length slab.bytes ≡ objects_in slab * layout.size
  pub free : IsFreeList slab.states slab.free

-- there is a slab, and it has a free object
abbrev pub is_stocked : Option SlabState → Bool
is_stocked None = false
is_stocked (Some slab) = nat_lt 0 (length slab.free)

pub record IsSound (s : CheckedState) : Type 0 where
  pub cache : s.cache < 32
  pub checked : IsTrue (is_checked s.flags)
  pub layout : IsLayoutFor s.flags s.layout
  pub frames : length s.slabs ≡ 4096
  pub first_frame : ¬ Has s 0
  pub slab : (frame : ℕ) → IfSome (slice_index_or s.slabs frame None) (IsSlab s.layout)
  -- each slab with a free object is listed once, and nothing else is
  pub listed : (frame : ℕ)
      → times frame s.listed ≡ (if is_stocked (slice_index_or s.slabs frame None) then 1 else 0)
  pub listed_count : length s.listed ≡ count_by is_stocked s.slabs
  -- each report came with an object that was set aside
  pub reported : length s.reports ≤ aside_count s
