-- `alloc_single_from_partial`, `free_debug_processing`, for proofs and private clauses: what the
-- steps of an operation on a checked cache hand to one another.
use Rattle.std.specs.Prelude.{◌≡◌, ℕ, ◌≤◌, false, Option, Some, Result, IfOk, OnSome}
use Rattle.slub_page_pool.specs.FreeFrames.{FreeFrames, IsPool}
use Rattle.slub_object_layout.specs.declared.layout.Layout.{Layout}
use Rattle.slub_red_zone.specs.Objects.{AddsGivenSlab, findable, GivesObject, TakesObject, TakesSlab}
use Rattle.slub_red_zone.specs.Sound.{IsSound}
use Rattle.slub_red_zone.specs.State.{CheckedState}
use Rattle.slub_red_zone.specs.Steps.{Gives, GivesNew, TakesBack, TakesEmpty}
use Rattle.slub_red_zone.specs.declared.checked.CheckedGive.{CheckedGive}
use Rattle.slub_red_zone.specs.declared.checked.Run.{Run as SlabRun}
use Rattle.slub_red_zone.specs.declared.checked.Slot.{Slot}
use Rattle.slub_common.specs.declared.no_memory.NoMemory.{NoMemory}
use Rattle.slub_trace.specs.declared.damage.Damage.{Damage}
use Rattle.slub_lists.specs.declared.lists.Run.{Run}
use Rattle.slub_lists.specs.declared.lists.Slab.{Slab}
use Rattle.slub_lists.specs.State.{State}
use Rattle.slub_lists.specs.Alloc.{FindsRun, checked_of}
use Rattle.slub_lists.specs.Checked.{discarded_where, with_checked}

-- the slabs of one checked cache are others, and all else is as before
pub record Swaps (s : State) (cache : ℕ) (slabs rest : CheckedState) (after : State) : Type 0 where
  pub was : checked_of s cache ≡ Some slabs
  pub now : after ≡ with_checked s cache rest
  pub sound : IsSound rest

-- a run of frames is looked for
pub record FindsRunIn (s : State) (layout : Layout) (answer : Option Run)
    (after : State) : Type 0 where
  pub pool : FreeFrames
  pub found : FindsRun s.pool layout answer pool
  pub good : IsPool pool
  pub now : after ≡ record s { pool = pool }

-- the slab of a run, which no CPU owns
abbrev pub slab_of_run : ℕ → Run → Slab
slab_of_run cache run =
    record { cache = cache; order = run.order; objects = run.objects; frozen = false }

-- the run of a slab, as the cache's slabs have it
abbrev pub run_of : Run → SlabRun
run_of run = record { frame = run.frame; order = run.order }

-- a listed slab is asked for an object
pub record GivesIn (s : State) (cache : ℕ) (answer : CheckedGive) (after : State) : Type 0 where
  pub slabs : CheckedState
  pub rest : CheckedState
  pub swaps : Swaps s cache slabs rest after
  pub gives : Gives slabs answer rest
  pub objects : GivesObject slabs answer rest

-- a new slab is made, and gives its first object
pub record GivesNewIn (s : State) (cache : ℕ) (run : Run) (answer : Result Slot NoMemory)
    (after : State) : Type 0 where
  pub slabs : CheckedState
  pub rest : CheckedState
  pub swaps : Swaps s cache slabs rest after
  pub gives : GivesNew slabs (run_of run) run.objects answer rest
  pub slab : IfOk answer (λ slot. AddsGivenSlab slabs (run_of run) run.objects slot rest)

-- an object is taken back, or found damaged
pub record TakesBackIn (s : State) (cache : ℕ) (slot : Slot) (answer : Result (Unit {0}) Damage)
    (after : State) : Type 0 where
  pub slabs : CheckedState
  pub rest : CheckedState
  pub swaps : Swaps s cache slabs rest after
  pub taken : TakesBack slabs slot answer rest
  pub objects : TakesObject slabs slot answer rest

-- a slab is taken out where all of it is free and so many are listed
pub record TakesEmptyIn (s : State) (cache frame limit : ℕ) (answer : Option SlabRun)
    (after : State) : Type 0 where
  pub slabs : CheckedState
  pub rest : CheckedState
  pub swaps : Swaps s cache slabs rest after
  pub taken : TakesEmpty slabs frame limit answer rest
  pub slab : OnSome answer (TakesSlab slabs frame rest)

-- the slab goes, and its run comes back, where all of it is free and so many are listed
pub record DiscardsSpare (s : State) (cache frame limit : ℕ) (after : State) : Type 0 where
  pub slabs : CheckedState
  pub rest : CheckedState
  pub run : Option SlabRun
  pub was : checked_of s cache ≡ Some slabs
  pub taken : TakesEmpty slabs frame limit run rest
  pub now : after ≡ discarded_where (with_checked s cache rest) frame run
  -- it is listed no more
  pub bounded : findable rest ≤ findable slabs
  pub reports : rest.reports ≡ slabs.reports
