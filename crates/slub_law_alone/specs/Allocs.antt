-- Whichever way an allocation of an unchecked cache goes, a worker alone allocates as the lists do.
use Rattle.std.specs.Prelude.{◌≡◌, ℕ, ◌+◌, Bool, false}
use Rattle.slub_trace.specs.declared.reply.Reply.TheVariants.{NoFrames}
use Rattle.slub_trace.specs.Kinds.{is_given}
use Rattle.slub_lists.specs.State.{State}
use Rattle.slub_core.specs.declared.call.Call.{Call}
use Rattle.slub_core.specs.Calls.{call_cpu}
use Rattle.slub_core.specs.Setup.{cpu_number}
use Rattle.slub_core.specs.World.{World}
use Rattle.slub_core.specs.Run.{System}
use Rattle.slub_law_opening.specs.Opening.{Beside}
use Rattle.slub_law_alone.specs.Alone.{IsAtRest, IsNext, HasIds}
use Rattle.slub_law_alone.specs.Laws.{IsAlloc, AllocatesAlone}
use Rattle.slub_calls.specs.Changes.{grown, changes_before_giving, changes_of_alloc}

-- by some turns of the worker alone, one at least, its allocation is that of the lists, and no CPU
-- word was changed but the call's
pub record AllocatesSome (opening : World) (s : State) (b : Beside) (system : System)
    (worker : ℕ) (call : Call) (place cache : ℕ) : Type 0 where
  pub turns : ℕ
  pub given : Bool
  pub allocates : AllocatesAlone opening s b system worker call place (1 + turns)
      (grown b (cpu_number cache (call_cpu call)) (changes_of_alloc s cache (call_cpu call) given))
  -- an object was given, or no run of frames was there. Memory is never refused
  pub gives : is_given allocates.reply ≡ given
  pub lacks : given ≡ false → allocates.reply ≡ NoFrames

-- an object of the CPU's freelist, of the current slab's own, of a slab of the CPU's partial list,
-- of one of the node list, or of a new slab; or no frames (`___slab_alloc`)
abbrev pub AllocationsAreThoseOfLists : Type 0
AllocationsAreThoseOfLists =
    (opening : World) (s : State) (b : Beside) (system : System) (worker : ℕ) (call : Call)
    (place cache : ℕ) → IsAtRest opening s b system → IsNext system worker call
    → IsAlloc s call place cache
    → HasIds b (cpu_number cache (call_cpu call))
    (1 + changes_before_giving s cache (call_cpu call))
    → AllocatesSome opening s b system worker call place cache
