-- A free that empties a slab of a node list which is long enough: the slab is discarded.
use Rattle.std.specs.Prelude.{◌≡◌, ℕ, ◌≤◌, length}
use Rattle.slub_common.specs.Times.{times}
use Rattle.slub_lists.specs.State.{State}
use Rattle.slub_lists.specs.Alloc.{node_of}
use Rattle.slub_lists.specs.Free.{inuse_of}
use Rattle.slub_lists.specs.Places.{layout_at}
use Rattle.slub_core.specs.declared.call.Call.{Call}
use Rattle.slub_core.specs.World.{World}
use Rattle.slub_core.specs.Run.{System}
use Rattle.slub_law_opening.specs.Opening.{Beside}
use Rattle.slub_law_alone.specs.Alone.{worker_at, known_at, IsNext}
use Rattle.slub_law_alone.specs.Ready.{IsReady}
use Rattle.slub_law_alone.specs.Laws.{IsFree, FreesAlone}

-- a free of the last object in use of a slab of the node list, which has as many slabs as it is to
-- have, or more: the object goes to the slab's freelist under the node lock, and at once the slab
-- comes off the list; its word is cleared, its run goes back to the pool under the pool's lock, and
-- both locks are given back (`remove_partial` and `discard_slab` of `__slab_free`)
abbrev pub LastOfListedAreDiscarded : Type 0
LastOfListedAreDiscarded =
    (opening : World) (s : State) (b : Beside) (system : System) (worker : ℕ) (call : Call)
    → let known = known_at (worker_at system worker) call in IsReady opening s b system worker
    → IsNext system worker call → IsFree s (worker_at system worker) call
    → 1 ≤ times known.frame (node_of s known.cache) → inuse_of s known.frame ≡ 1
    → (layout_at s known.cache).min_partial ≤ length (node_of s known.cache)
    → FreesAlone opening s b system worker call 10 b
