-- What a replay answers to a trace in which allocations and frees are paired, where each allocation
-- is given.
use Rattle.std.specs.Prelude.{◌≡◌, true, length, IfSome, All}
use Rattle.slub_trace.specs.declared.trace.Trace.{Trace}
use Rattle.slub_trace.specs.Kinds.{is_freed, is_given}
use Rattle.slub_trace.specs.Sound.{IsSound, allocated, objects_of}
use Rattle.slub_slabinfo_text.specs.declared.journal.Journal.{Journal}
use Rattle.slub_law_rounds.specs.Answered.{Answered}
use Rattle.slub_law_replay.specs.declared.way.Way.{Way}
use Rattle.slub_law_replay.specs.Freed.{answered}
use Rattle.slub_law_replay.specs.Runs.{IsLawful}
use Rattle.slub_law_recorded.specs.Paired.{IsPaired, events_of, freed, freed_of}

-- an allocation was given its object
abbrev pub IsAmple : Answered → Type 0
IsAmple (event, answer) = IfSome (allocated event.act) (λ object. is_given answer ≡ true)

-- a free was done
abbrev pub IsFreed : Answered → Type 0
IsFreed (event, answer) = IfSome (freed event.act) (λ object. is_freed answer ≡ true)

-- every free that was answered is done; where there is a total, its sums are those of all
-- allocations and of all frees of the trace
pub record IsReplayed (trace : Trace) (journal : Journal) : Type 0 where
  pub frees : All IsFreed (answered trace journal)
  pub sums : IfSome journal.total (λ total.
      (total.given ≡ length (objects_of (events_of trace)))
      × (total.freed ≡ length (freed_of (events_of trace))))

-- the law: by any way, with any number of workers
abbrev pub PairedTracesReplay : Type 0
PairedTracesReplay =
    (way : Way) (trace : Trace) (journal : Journal) → IsSound trace → IsPaired trace
    → IsLawful way trace journal → All IsAmple (answered trace journal)
    → IsReplayed trace journal
