-- Rounds of clients that can be done.
use Rattle.std.specs.Prelude.{ℕ, ◌^◌, ◌<◌, ◌≤◌, List, length, All, nat_eq}
use Rattle.std.specs.List.{IsDistinct}
use Rattle.slub_trace.specs.declared.trace.Trace.{Trace}
use Rattle.slub_calls.specs.Laws.{MayDo}
use Rattle.slub_slabinfo_text.specs.Asked.{frees_of, round_of}
use Rattle.slub_slabinfo_text.specs.Lawful.{IsUnheld}
use Rattle.slub_rounds.specs.Heap.{HeapState}
use Rattle.slub_rounds.specs.Asked.{IsOpenTo}
use Rattle.slub_rounds.specs.BulkLines.{allocs_of}

-- a number that the machine has; number 0 names nothing
abbrev pub IsNumber : HeapState → ℕ → Type 0
IsNumber h number = (1 ≤ number) × (number < length h.lists.board)

-- allocations under fresh numbers can be done
abbrev pub AllocationsMayBeDone : Type 0
AllocationsMayBeDone =
    (h : HeapState) (trace : Trace) (cpu place : ℕ) (numbers : List ℕ)
    → IsOpenTo h trace (length numbers) → cpu < trace.cpus → place < length trace.names
    → All (IsNumber h) numbers → All (IsUnheld h.lists) numbers → IsDistinct nat_eq numbers
    → MayDo h.lists trace (round_of cpu (allocs_of place numbers))

-- and so can frees, as many as 32 bits count
abbrev pub FreesMayBeDone : Type 0
FreesMayBeDone =
    (h : HeapState) (trace : Trace) (cpu : ℕ) (numbers : List ℕ)
    → IsOpenTo h trace 0 → cpu < trace.cpus → length numbers ≤ 2 ^ 32
    → All (IsNumber h) numbers → MayDo h.lists trace (round_of cpu (frees_of numbers))
