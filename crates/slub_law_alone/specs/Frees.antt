-- Whichever way a free goes of a number that names an object of an unchecked cache, or nothing, a
-- worker alone frees as the lists do.
use Rattle.std.specs.Prelude.{◌≡◌, ℕ, ◌+◌, ◌<◌, length, None, IfSome}
use Rattle.slub_lists.specs.State.{State}
use Rattle.slub_lists.specs.Alloc.{checked_of}
use Rattle.slub_lists.specs.Coherent.{held_under}
use Rattle.slub_core.specs.declared.call.Call.{Call}
use Rattle.slub_core.specs.declared.call.CallKind.TheVariants.{Free}
use Rattle.slub_core.specs.Calls.{call_kind, call_cpu, call_object}
use Rattle.slub_core.specs.Setup.{cpu_number}
use Rattle.slub_core.specs.World.{World}
use Rattle.slub_core.specs.Run.{System}
use Rattle.slub_law_opening.specs.Opening.{Beside}
use Rattle.slub_law_alone.specs.Alone.{worker_at, IsAtRest, IsNext, HasIds}
use Rattle.slub_law_alone.specs.Laws.{FreesAlone}
use Rattle.slub_calls.specs.Changes.{grown, changes_of_free, word_of_free}

-- no other worker has its number: what the lists say that a worker of this number holds, it holds
abbrev pub HasOwnNumber : System → ℕ → Type 0
HasOwnNumber system worker =
    (other : ℕ) → other < length system.locals
    → (worker_at system other).worker ≡ (worker_at system worker).worker → other ≡ worker

-- by some turns of the worker alone, one at least, its free is that of the lists, and no CPU word
-- was changed but this one
pub record FreesSome (opening : World) (s : State) (b : Beside) (system : System)
    (worker : ℕ) (call : Call) : Type 0 where
  pub turns : ℕ
  pub frees : FreesAlone opening s b system worker call (1 + turns)
      (grown b (word_of_free s (call_cpu call) (call_object call))
      (changes_of_free s (call_cpu call) (worker_at system worker).worker (call_object call)))

-- the number names nothing that the worker may free, and it finds nothing. Or it names what the
-- worker holds, or what it takes from the board first: that goes to the CPU's freelist where its
-- slab is current on the CPU, and else to the slab's own. Then the slab stays where it is; or it
-- was full, and goes to the CPU's partial list, which is moved to the node list first where it is
-- full; or no object of it is in use any more, and it is discarded where the node list is long
-- enough (`do_slab_free`, `__slab_free`, `put_cpu_partial`)
abbrev pub FreesAreThoseOfLists : Type 0
FreesAreThoseOfLists =
    (opening : World) (s : State) (b : Beside) (system : System) (worker : ℕ) (call : Call)
    → IsAtRest opening s b system → IsNext system worker call → HasOwnNumber system worker
    → call_kind call ≡ Free
    → IfSome (held_under s (call_object call))
    (λ held. (checked_of s held.cache ≡ None) × HasIds b (cpu_number held.cache (call_cpu call)) 1)
    → FreesSome opening s b system worker call
