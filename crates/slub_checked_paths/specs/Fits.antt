-- `alloc_single_from_partial`, `free_debug_processing`: what a change under the lock of a checked
-- cache finds there.
use Rattle.std.specs.Prelude.{◌≡◌, ◌+◌, ◌*◌, ◌<◌, ◌≤◌, List}
use Rattle.slub_page_pool.specs.Block.{CanPut}
use Rattle.slub_red_zone.specs.State.{CheckedState, Has, IsUsed}
use Rattle.slub_object_layout.specs.Layout.{IsSized}
use Rattle.slub_core.specs.declared.call.CallKind.{CallKind}
use Rattle.slub_core.specs.declared.call.CallKind.TheVariants.{Alloc, Free, Write, Read, Poke, Trim, Flush}
use Rattle.slub_core.specs.declared.spot.CheckedSpot.{CheckedSpot}
use Rattle.slub_core.specs.declared.spot.CheckedSpot.TheVariants.{DoChecked, MoveRun, AddSlab}
use Rattle.slub_core.specs.Setup.{node_lock, pool_lock}
use Rattle.slub_core.specs.World.{pool_in}
use Rattle.slub_core.specs.Local.{Local, run_of, call_of}
use Rattle.slub_core.specs.Checked.{slot_of}
use Rattle.slub_core.specs.declared.guarded.Guarded.{Guarded}
use Rattle.slub_core.specs.Calls.{call_kind, call_word}
use Rattle.slub_core.specs.Values.{values_of, HasPool}
use Rattle.slub_checked_paths.specs.Slabs.{IsCheckedValue, slabs_at}

-- the call is of this kind
abbrev pub IsOfKind : Local → CallKind → Type 0
IsOfKind l kind = call_kind (call_of l) ≡ kind

-- the object is used, and the word lies in it
abbrev pub MayUse : Local → CheckedState → Type 0
MayUse l s = IsUsed s (slot_of l) × (8 * (call_word (call_of l) + 1) ≤ s.layout.object_size)

-- what a free, a write or a read is of is used, and a write, a read and a poke are the call's
abbrev pub MayDo : Local → CheckedState → CallKind → Type 0
MayDo l s Alloc = Unit {0}
MayDo l s Free = IsUsed s (slot_of l)
MayDo l s Write = IsOfKind l Write × MayUse l s
MayDo l s Read = IsOfKind l Read × MayUse l s
MayDo l s Poke = IsOfKind l Poke
MayDo l s Trim = Unit {0}
MayDo l s Flush = Unit {0}

-- the run in hand can come back to the pool, which stands behind its lock
abbrev pub MayPut : List Guarded → Local → Type 0
MayPut guarded l =
    HasPool guarded
    × CanPut (pool_in (values_of guarded pool_lock)) (run_of l).frame (run_of l).order

abbrev pub MayMove : List Guarded → Local → CallKind → Type 0
MayMove guarded l Alloc = HasPool guarded
MayMove guarded l kind = MayPut guarded l

-- the run in hand can become a slab of the cache
pub record MayAdd (s : CheckedState) (l : Local) : Type 0 where
  pub new : ¬ Has s (run_of l).frame
  pub frame : (1 ≤ (run_of l).frame) × ((run_of l).frame < 4096)
  pub sized : IsSized s.layout (run_of l).order (run_of l).objects

abbrev pub CheckedFits : List Guarded → Local → CheckedSpot → CallKind → Type 0
CheckedFits guarded l DoChecked kind = IsCheckedValue (values_of guarded (node_lock l.cache))
    × MayDo l (slabs_at (values_of guarded (node_lock l.cache))) kind
CheckedFits guarded l MoveRun kind = MayMove guarded l kind
CheckedFits guarded l AddSlab kind = IsCheckedValue (values_of guarded (node_lock l.cache))
    × MayAdd (slabs_at (values_of guarded (node_lock l.cache))) l × MayPut guarded l
CheckedFits guarded l _ kind = Unit {0}
