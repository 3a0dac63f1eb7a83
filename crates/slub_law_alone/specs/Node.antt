-- Allocations that take slabs of a node list.
use Rattle.std.specs.Prelude.{◌≡◌, ℕ, ◌+◌, ◌*◌, List, [], ◌∷◌, length, take, None}
use Rattle.slub_lists.specs.State.{State}
use Rattle.slub_lists.specs.Alloc.{lists_of, node_of, batch_of}
use Rattle.slub_lists.specs.Places.{layout_at}
use Rattle.slub_core.specs.declared.call.Call.{Call}
use Rattle.slub_core.specs.Calls.{call_cpu}
use Rattle.slub_core.specs.Setup.{cpu_number}
use Rattle.slub_core.specs.World.{World}
use Rattle.slub_core.specs.Run.{System}
use Rattle.slub_law_opening.specs.Opening.{Beside}
use Rattle.slub_law_alone.specs.Alone.{IsAtRest, IsNext, HasIds}
use Rattle.slub_law_alone.specs.Laws.{IsAlloc, AllocatesAlone}
use Rattle.slub_calls.specs.Changes.{grown}

-- an allocation of a CPU without a slab of the cache, where the node list has slabs: it takes the
-- empty partial list, and takes the first slab off the node list under its lock and freezes it with
-- its whole freelist. Each of the next slabs, up to a batch of them, comes off the node list and
-- goes to the front of the CPU's partial list, in five turns: its word is loaded and the mark taken
-- off it, the list word is loaded, the slab linked to the list's front and the list word changed.
-- Then the lock is given back, the first object's free pointer and the CPU word are loaded again,
-- and the first slab becomes current with the rest (`get_partial_node`)
abbrev pub NodeSlabsAreTaken : Type 0
NodeSlabsAreTaken =
    (opening : World) (s : State) (b : Beside) (system : System) (worker : ℕ) (call : Call)
    (place cache frame : ℕ) (others : List ℕ) → IsAtRest opening s b system
    → IsNext system worker call → IsAlloc s call place cache
    → HasIds b (cpu_number cache (call_cpu call)) 1
    → (lists_of s cache (call_cpu call)).current ≡ None
    → (lists_of s cache (call_cpu call)).partial ≡ [] → node_of s cache ≡ frame ∷ others
    → AllocatesAlone opening s b system worker call place
    (9 + 5 * length (take (batch_of (layout_at s cache)) others))
    (grown b (cpu_number cache (call_cpu call)) 1)
