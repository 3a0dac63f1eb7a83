-- A worker alone moves a CPU's whole partial list to the node list, as the operation on plain
-- lists does.
use Rattle.std.specs.Prelude.{◌≡◌, ℕ, suc, ◌<◌, ◌≤◌, false, [], length}
use Rattle.slub_lists.specs.State.{State}
use Rattle.slub_lists.specs.Alloc.{lists_of, own_free}
use Rattle.slub_lists.specs.Free.{is_frozen}
use Rattle.slub_lists.specs.Places.{layout_at}
use Rattle.slub_core.specs.declared.call.Call.{Call}
use Rattle.slub_core.specs.Calls.{call_cpu}
use Rattle.slub_core.specs.World.{World}
use Rattle.slub_core.specs.Run.{System}
use Rattle.slub_law_opening.specs.Opening.{Beside}
use Rattle.slub_law_alone.specs.Alone.{worker_at, known_at, IsNext}
use Rattle.slub_law_alone.specs.Ready.{IsReady}
use Rattle.slub_law_alone.specs.Laws.{IsFree, FreesAlone}

-- a CPU's partial list is full: it has a slab, and as many as the cache lets a CPU keep
pub record HasNoRoom (s : State) (cache cpu : ℕ) : Type 0 where
  pub some : 0 < length (lists_of s cache cpu).partial
  pub full : (layout_at s cache).cpu_partial_slabs ≤ length (lists_of s cache cpu).partial

-- a free of an object of a full slab that no CPU has, where the CPU's partial list is full: after
-- the object is freed, the whole list is taken, and under the node lock each slab of it, from the
-- front on, goes to the tail of the node list, or back to the pool where nothing of it is in use
-- and that list has as many slabs as it is to have (`put_cpu_partial`, `__unfreeze_partials`). Then
-- the slab comes to stand alone on the CPU's list
abbrev pub FullListsAreMoved : Type 0
FullListsAreMoved =
    (opening : World) (s : State) (b : Beside) (system : System) (worker : ℕ) (call : Call)
    → let known = known_at (worker_at system worker) call in IsReady opening s b system worker
    → IsNext system worker call → IsFree s (worker_at system worker) call
    → is_frozen s known.frame ≡ false → own_free s known.frame ≡ []
    → HasNoRoom s known.cache (call_cpu call)
    → (turns : ℕ) × FreesAlone opening s b system worker call (suc turns) b
