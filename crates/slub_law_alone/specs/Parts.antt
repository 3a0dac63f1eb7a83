-- Each step of the page pool and of a checked cache's slabs has one outcome.
use Rattle.std.specs.Prelude.{ℕ, ℤ, Option, Result}
use Rattle.slub_page_pool.specs.FreeFrames.{FreeFrames}
use Rattle.slub_page_pool.specs.Block.{Takes, TakesOrNotes}
use Rattle.slub_object_layout.specs.declared.layout.Layout.{Layout}
use Rattle.slub_trace.specs.declared.damage.Damage.{Damage}
use Rattle.slub_red_zone.specs.declared.checked.CheckedGive.{CheckedGive}
use Rattle.slub_red_zone.specs.declared.checked.OutOfSlot.{OutOfSlot}
use Rattle.slub_red_zone.specs.declared.checked.Run.{Run as SlabRun}
use Rattle.slub_red_zone.specs.declared.checked.Slot.{Slot}
use Rattle.slub_red_zone.specs.State.{CheckedState}
use Rattle.slub_red_zone.specs.Steps.{Gives, Pokes, TakesBack, TakesEmpty}
use Rattle.slub_lists.specs.declared.lists.Run.{Run}
use Rattle.slub_lists.specs.Alloc.{FindsRun}
use Rattle.slub_law_alone.specs.Outcome.{HasOneOutcome}

-- ---- the page pool

-- a take of an order (`__rmqueue_smallest`)
abbrev pub TakesHaveOneOutcome : Type 0
TakesHaveOneOutcome =
    (pool : FreeFrames) (order : ℕ) → HasOneOutcome (Option ℕ) FreeFrames (Takes pool order)

-- and one that is counted where no block is there
abbrev pub NotedTakesHaveOneOutcome : Type 0
NotedTakesHaveOneOutcome =
    (pool : FreeFrames) (order : ℕ)
    → HasOneOutcome (Option ℕ) FreeFrames (TakesOrNotes pool order)

-- the search for a run of frames for a new slab, of the order or of the least order
-- (`allocate_slab`)
abbrev pub SearchesHaveOneOutcome : Type 0
SearchesHaveOneOutcome =
    (pool : FreeFrames) (layout : Layout)
    → HasOneOutcome (Option Run) FreeFrames (FindsRun pool layout)

-- ---- the slabs of a checked cache

-- an object is given, after slabs that are found damaged (`alloc_single_from_partial`)
abbrev pub GivesHaveOneOutcome : Type 0
GivesHaveOneOutcome =
    (slabs : CheckedState) → HasOneOutcome CheckedGive CheckedState (Gives slabs)

-- an object is taken back, or its damage told (`free_debug_processing`)
abbrev pub TakingsBackHaveOneOutcome : Type 0
TakingsBackHaveOneOutcome =
    (slabs : CheckedState) (slot : Slot)
    → HasOneOutcome (Result (Unit {0}) Damage) CheckedState (TakesBack slabs slot)

-- a slab without objects in use is taken out where so many are listed
abbrev pub TakingsOutHaveOneOutcome : Type 0
TakingsOutHaveOneOutcome =
    (slabs : CheckedState) (frame limit : ℕ)
    → HasOneOutcome (Option SlabRun) CheckedState (TakesEmpty slabs frame limit)

-- a byte of a slot is written
abbrev pub SlotPokesHaveOneOutcome : Type 0
SlotPokesHaveOneOutcome =
    (slabs : CheckedState) (slot : Slot) (offset : ℤ) (byte : ℕ)
    → HasOneOutcome (Result (Unit {0}) OutOfSlot) CheckedState (Pokes slabs slot offset byte)
