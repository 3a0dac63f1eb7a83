-- Whichever way a call goes, be its cache checked or not, a worker alone does what the lists do.
use Rattle.std.specs.Prelude.{if◌then◌else◌, ◌≡◌, ℕ, ◌+◌, None, Some, IfSome, is_some}
use Rattle.slub_lists.specs.State.{State}
use Rattle.slub_lists.specs.Alloc.{checked_of, named}
use Rattle.slub_lists.specs.Coherent.{held_under}
use Rattle.slub_core.specs.declared.call.Call.{Call}
use Rattle.slub_core.specs.declared.call.CallKind.TheVariants.{Alloc, Free, Write, Read}
use Rattle.slub_core.specs.Calls.{call_kind, call_cpu, call_cache, call_object}
use Rattle.slub_core.specs.Setup.{cpu_number}
use Rattle.slub_core.specs.World.{World}
use Rattle.slub_core.specs.Run.{System}
use Rattle.slub_law_opening.specs.Opening.{Beside}
use Rattle.slub_law_alone.specs.Alone.{worker_at, known_at, IsAtRest, IsNext, HasIds}
use Rattle.slub_law_alone.specs.Allocs.{AllocatesSome}
use Rattle.slub_law_alone.specs.Frees.{HasOwnNumber, FreesSome}
use Rattle.slub_law_alone.specs.Laws.{WritesAlone, ReadsAlone}
use Rattle.slub_calls.specs.Changes.{changes_before_giving}

-- so many changes are made before the transaction id of the cache's word on this CPU is spent. The
-- words of a checked cache never change
abbrev pub HasIdsFor : State → Beside → ℕ → ℕ → ℕ → Type 0
HasIdsFor s b cache cpu times =
    checked_of s cache ≡ None → HasIds b (cpu_number cache cpu) times

-- ---- allocations

-- the call allocates from the cache that the name at this place names
pub record IsAllocOf (s : State) (call : Call) (place cache : ℕ) : Type 0 where
  pub kind : call_kind call ≡ Alloc
  pub named : named s place ≡ Some cache
  pub asks : call_cache call ≡ Some cache

-- every allocation is that of the lists
abbrev pub AllAllocationsAreThoseOfLists : Type 0
AllAllocationsAreThoseOfLists =
    (opening : World) (s : State) (b : Beside) (system : System) (worker : ℕ) (call : Call)
    (place cache : ℕ) → IsAtRest opening s b system → IsNext system worker call
    → IsAllocOf s call place cache
    → HasIdsFor s b cache (call_cpu call) (1 + changes_before_giving s cache (call_cpu call))
    → AllocatesSome opening s b system worker call place cache

-- ---- frees

-- every free is that of the lists, whatever the number names
abbrev pub AllFreesAreThoseOfLists : Type 0
AllFreesAreThoseOfLists =
    (opening : World) (s : State) (b : Beside) (system : System) (worker : ℕ) (call : Call)
    → IsAtRest opening s b system → IsNext system worker call → HasOwnNumber system worker
    → call_kind call ≡ Free
    → IfSome (held_under s (call_object call)) (λ held. HasIdsFor s b held.cache (call_cpu call) 1)
    → FreesSome opening s b system worker call

-- ---- words of objects

-- a write or a read of an object of this cache takes so many turns: those of a checked one take the
-- node lock first
abbrev pub turns_of_use : State → ℕ → ℕ
turns_of_use s cache = if is_some (checked_of s cache) then 2 else 1

-- every write that takes a step is that of the lists
abbrev pub WritesAreThoseOfLists : Type 0
WritesAreThoseOfLists =
    (opening : World) (s : State) (b : Beside) (system : System) (worker : ℕ) (call : Call)
    → IsAtRest opening s b system → IsNext system worker call → call_kind call ≡ Write
    → WritesAlone opening s b system worker call
    (turns_of_use s (known_at (worker_at system worker) call).cache)

-- and so is every read
abbrev pub ReadsAreThoseOfLists : Type 0
ReadsAreThoseOfLists =
    (opening : World) (s : State) (b : Beside) (system : System) (worker : ℕ) (call : Call)
    → IsAtRest opening s b system → IsNext system worker call → call_kind call ≡ Read
    → ReadsAlone opening s b system worker call
    (turns_of_use s (known_at (worker_at system worker) call).cache)
