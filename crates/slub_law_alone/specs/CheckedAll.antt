-- Whichever way a call of a checked cache goes, a worker alone does what the lists do.
use Rattle.std.specs.Prelude.{◌≡◌, ℕ, ◌+◌, Some, None}
use Rattle.slub_red_zone.specs.State.{CheckedState}
use Rattle.slub_lists.specs.declared.lists.Held.{Held}
use Rattle.slub_lists.specs.State.{State}
use Rattle.slub_lists.specs.Alloc.{checked_of}
use Rattle.slub_lists.specs.Coherent.{held_under}
use Rattle.slub_core.specs.declared.call.Call.{Call}
use Rattle.slub_core.specs.declared.call.CallKind.TheVariants.{Free}
use Rattle.slub_core.specs.Calls.{call_kind, call_object}
use Rattle.slub_core.specs.World.{World}
use Rattle.slub_core.specs.Run.{System}
use Rattle.slub_law_opening.specs.Opening.{Beside}
use Rattle.slub_law_alone.specs.Alone.{worker_at, IsAtRest, IsNext}
use Rattle.slub_law_alone.specs.Laws.{FreesAlone}
use Rattle.slub_law_alone.specs.Ready.{IsReady}
use Rattle.slub_law_alone.specs.Allocs.{AllocatesSome}
use Rattle.slub_law_alone.specs.CheckedAlone.{IsCheckedAlloc, IsCheckedFree}

-- an object of a listed slab is given, or the first one of a new slab, or there are no frames
-- (`alloc_single_from_partial`, `alloc_single_from_new_slab`)
abbrev pub CheckedAllocationsAreThoseOfLists : Type 0
CheckedAllocationsAreThoseOfLists =
    (opening : World) (s : State) (b : Beside) (system : System) (worker : ℕ) (call : Call)
    (place cache : ℕ) (slabs : CheckedState) → IsAtRest opening s b system
    → IsNext system worker call → IsCheckedAlloc s call place cache slabs
    → AllocatesSome opening s b system worker call place cache

-- by some turns of the worker alone, one at least, its free is that of the lists, and no CPU word
-- was changed
pub record FreesLocked (opening : World) (s : State) (b : Beside) (system : System)
    (worker : ℕ) (call : Call) : Type 0 where
  pub turns : ℕ
  pub frees : FreesAlone opening s b system worker call (1 + turns) b

-- a free of an object that the worker holds: it is damaged, and stays held; or it is whole, and its
-- slab stays or goes (`free_debug_processing`, `discard_slab`)
abbrev pub CheckedFreesAreThoseOfLists : Type 0
CheckedFreesAreThoseOfLists =
    (opening : World) (s : State) (b : Beside) (system : System) (worker : ℕ) (call : Call)
    (slabs : CheckedState) → IsReady opening s b system worker → IsNext system worker call
    → IsCheckedFree s (worker_at system worker) call slabs
    → FreesLocked opening s b system worker call

-- and of one that is on the board, and is taken from there first
abbrev pub CheckedBoardFreesAreThoseOfLists : Type 0
CheckedBoardFreesAreThoseOfLists =
    (opening : World) (s : State) (b : Beside) (system : System) (worker : ℕ) (call : Call)
    (held : Held) (slabs : CheckedState) → IsAtRest opening s b system
    → IsNext system worker call → call_kind call ≡ Free
    → held_under s (call_object call) ≡ Some held
    → held.worker ≡ None → checked_of s held.cache ≡ Some slabs
    → FreesLocked opening s b system worker call
