-- What the trace of a recording allocates and frees, and what its replays answer.
use Rattle.std.specs.Prelude.{◌≡◌, ℕ, List, length, filter_map, Option, None, Some, IfSome, All}
use Rattle.slub_recording.specs.declared.recording.Recording.{Recording}
use Rattle.slub_recorded.specs.declared.convert.Options.{Options}
use Rattle.slub_recorded.specs.declared.told.Note.{Note}
use Rattle.slub_recorded.specs.declared.tunes.Tune.{Tune}
use Rattle.slub_recorded.specs.declared.turns.Turn.{Turn}
use Rattle.slub_recorded.specs.declared.turns.Turn.TheVariants.{Alloc, Free}
use Rattle.slub_recorded.specs.Converted.{IsConverted, turns_by}
use Rattle.slub_trace.specs.declared.trace.Trace.{Trace}
use Rattle.slub_trace.specs.Sound.{objects_of}
use Rattle.slub_trace_reader.specs.Grammar.{IsTrace}
use Rattle.slub_slabinfo_text.specs.declared.journal.Journal.{Journal}
use Rattle.slub_law_replay.specs.declared.way.Way.{Way}
use Rattle.slub_law_replay.specs.Freed.{answered}
use Rattle.slub_law_replay.specs.Runs.{IsLawful}
use Rattle.slub_law_recorded.specs.Paired.{IsPaired, events_of, freed_of}
use Rattle.slub_law_recorded.specs.Replay.{IsAmple, IsFreed}

-- ---- what turns do

-- the object that a turn allocates, where it allocates one
abbrev pub alloc_in : Turn → Option ℕ
alloc_in (Alloc cpu cache object) = Some object
alloc_in (Free cpu object) = None

-- the object that a turn frees, where it frees one
abbrev pub free_in : Turn → Option ℕ
free_in (Alloc cpu cache object) = None
free_in (Free cpu object) = Some object

-- the objects that turns allocate, in their order
abbrev pub allocs : List Turn → List ℕ
allocs turns = filter_map alloc_in turns

-- the objects that turns free, in their order
abbrev pub frees : List Turn → List ℕ
frees turns = filter_map free_in turns

-- ---- the trace

-- the trace is paired, and its events allocate and free the objects that the turns do, in their
-- order: as many, and the same
pub record IsOfTurns (turns : List Turn) (trace : Trace) : Type 0 where
  pub paired : IsPaired trace
  pub allocs_are : objects_of (events_of trace) ≡ allocs turns
  pub frees_are : freed_of (events_of trace) ≡ frees turns

-- the law: the trace that the text of a conversion spells is paired, and is of the turns that the
-- recording's allocations and frees come to
abbrev pub RecordedTracesArePaired : Type 0
RecordedTracesArePaired =
    (recording : Recording) (options : Options) (tunes : List Tune) (notes : List Note)
    (text : List ℕ) (trace : Trace)
    → (conv : IsConverted recording options tunes notes text) → IsTrace text trace
    → IsOfTurns (turns_by recording conv.places conv.cpus) trace

-- ---- its replay

-- every free that was answered is done; where there is a total, its sums are the numbers of the kept
-- allocations and of the kept frees
pub record HasReplayed (turns : List Turn) (trace : Trace) (journal : Journal) : Type 0 where
  pub all_freed : All IsFreed (answered trace journal)
  pub sums : IfSome journal.total (λ total.
      (total.given ≡ length (allocs turns)) × (total.freed ≡ length (frees turns)))

-- the law: so is every lawful replay of such a trace in which each allocation is given, by any way
abbrev pub RecordedTracesReplay : Type 0
RecordedTracesReplay =
    (recording : Recording) (options : Options) (tunes : List Tune) (notes : List Note)
    (text : List ℕ) (trace : Trace) (way : Way) (journal : Journal)
    → (conv : IsConverted recording options tunes notes text) → IsTrace text trace
    → IsLawful way trace journal → All IsAmple (answered trace journal)
    → HasReplayed (turns_by recording conv.places conv.cpus) trace journal
