-- `__kmem_cache_shrink` of Linux 6.1: what shrinking a cache leaves, and which frames come free.
use Rattle.std.specs.Prelude.{◌≡◌, ℕ, ◌+◌, ◌^◌, ◌<◌, ◌≤◌, ◌↔◌, ◌⊎◌, false, Option, Some, None, Contains}
use Rattle.slub_lists.specs.declared.lists.Slab.{Slab}
use Rattle.slub_lists.specs.State.{State}
use Rattle.slub_lists.specs.Alloc.{marked, slab_of}

-- the numbers of frames and CPUs, the live caches, the board, what was freed and the counts are as
-- before
pub record KeepsHeld (old new : State) : Type 0 where
  pub frames : new.frames ≡ old.frames
  pub cpus : new.cpus ≡ old.cpus
  pub table : new.table ≡ old.table
  pub board : new.board ≡ old.board
  pub gone : new.gone ≡ old.gone
  pub live : new.live ≡ old.live

-- ---- slabs

-- a slab of another cache stays as it is; one of the cache stays as it is, or unfrozen, or goes
abbrev pub StaysOrGoes : ℕ → Option Slab → Option Slab → Type 0
StaysOrGoes cache None after = after ≡ None
StaysOrGoes cache (Some slab) after =
    (after ≡ Some slab)
    ⊎ ((slab.cache ≡ cache) × ((after ≡ Some (marked false slab)) ⊎ (after ≡ None)))

-- no slab comes, and none goes but of the cache
abbrev pub LeavesSlabs : State → ℕ → State → Type 0
LeavesSlabs s cache after = (frame : ℕ) → StaysOrGoes cache (slab_of s frame) (slab_of after frame)

-- ---- frames

-- the frame is in the run of a slab of the cache
pub record HasFrame (s : State) (cache frame : ℕ) : Type 0 where
  pub first : ℕ
  pub slab : Slab
  pub there : slab_of s first ≡ Some slab
  pub own : slab.cache ≡ cache
  pub from : first ≤ frame
  pub below : frame < first + 2 ^ slab.order

-- the frames that the cache had and has no more come free, and no other does
abbrev pub FreesLost : State → ℕ → State → Type 0
FreesLost s cache after =
    (frame : ℕ)
    → Contains after.pool.free frame
    ↔ (Contains s.pool.free frame ⊎ (HasFrame s cache frame × ¬ HasFrame after cache frame))

-- the free frames grow by exactly the frames of the cache
abbrev pub FreesAll : State → ℕ → State → Type 0
FreesAll s cache after =
    (frame : ℕ)
    → Contains after.pool.free frame ↔ (Contains s.pool.free frame ⊎ HasFrame s cache frame)
