-- Which objects may be asked of a cache, and for how many events the ids of a heap last.
use Rattle.std.specs.Prelude.{ℕ, ◌+◌, ◌*◌, ◌^◌, ◌<◌, List, length, All, IfSome, nat_eq}
use Rattle.std.specs.List.{IsDistinct}
use Rattle.slub_trace.specs.declared.trace.Trace.{Trace}
use Rattle.slub_trace.specs.Ranges.{step_of}
use Rattle.slub_slabinfo_text.specs.Lawful.{IsUnheld}
use Rattle.slub_rounds.specs.Heap.{HeapState}
use Rattle.slub_rounds.specs.Asked.{IsOpenTo}
use Rattle.slub_rounds.specs.ClientLaws.{IsNumber}

-- an object under each of these numbers may be asked on a CPU of the cache that the name at a place
-- names: they are numbers of the heap that differ, and no object has one of them
pub record MayTake (h : HeapState) (trace : Trace) (cpu place : ℕ) (numbers : List ℕ)
    : Type 0 where
  pub heap : IsOpenTo h trace (length numbers)
  pub on_cpu : cpu < trace.cpus
  pub of_name : place < length trace.names
  pub known : All (IsNumber h) numbers
  pub unheld : All (IsUnheld h.lists) numbers
  pub distinct : IsDistinct nat_eq numbers

-- after so many events, each of which changed each CPU word twice, each id that stands beside the
-- lists would have room for one change more
abbrev pub IdsLastFor : HeapState → ℕ → Type 0
IdsLastFor h events =
    IfSome h.ids (All (λ id. id + (2 * events + 1) * step_of h.lists.cpus < 2 ^ 32))
