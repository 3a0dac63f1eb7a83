-- Each event has one outcome on the lists.
use Rattle.std.specs.Prelude.{◌≡◌, ℕ, ℤ, None, IfSome}
use Rattle.slub_trace.specs.declared.event.Act.{Act}
use Rattle.slub_trace.specs.declared.event.Event.{Event}
use Rattle.slub_trace.specs.declared.reply.Reply.{Reply}
use Rattle.slub_lists.specs.State.{State}
use Rattle.slub_lists.specs.Alloc.{checked_of, named}
use Rattle.slub_lists.specs.Named.{AllocatesNamed}
use Rattle.slub_lists.specs.Freeing.{Frees}
use Rattle.slub_lists.specs.Words.{Pokes, Reads, Writes}
use Rattle.slub_lists.specs.Trim.{Trims}
use Rattle.slub_lists.specs.Flush.{Flushes}
use Rattle.slub_slabinfo_text.specs.Lawful.{Answers}
use Rattle.slub_law_alone.specs.Outcome.{HasOneOutcome, HasOneOutcomeByMemory}

-- an allocation from the cache that a name names
abbrev pub AllocationsHaveOneOutcome : Type 0
AllocationsHaveOneOutcome =
    (s : State) (place cpu worker object : ℕ)
    → HasOneOutcomeByMemory (AllocatesNamed s place cpu worker object)

-- an allocation from a cache that is not checked takes no memory
abbrev pub UncheckedAllocationsHaveOneOutcome : Type 0
UncheckedAllocationsHaveOneOutcome =
    (s : State) (place cpu worker object : ℕ)
    → IfSome (named s place) (λ cache. checked_of s cache ≡ None)
    → HasOneOutcome Reply State (AllocatesNamed s place cpu worker object)

-- a free of what a number names, of a checked cache or not
abbrev pub FreesHaveOneOutcome : Type 0
FreesHaveOneOutcome =
    (s : State) (cpu worker object : ℕ)
    → HasOneOutcome Reply State (Frees s cpu worker object)

-- a write of a word
abbrev pub WritesHaveOneOutcome : Type 0
WritesHaveOneOutcome =
    (s : State) (worker object word value : ℕ)
    → HasOneOutcome Reply State (Writes s worker object word value)

-- a read of one changes nothing
abbrev pub ReadsHaveOneReply : Type 0
ReadsHaveOneReply =
    (s : State) (worker object word : ℕ) (one other : Reply)
    → Reads s worker object word one → Reads s worker object word other → one ≡ other

-- a poke of a byte
abbrev pub PokesHaveOneOutcome : Type 0
PokesHaveOneOutcome =
    (s : State) (worker object : ℕ) (offset : ℤ) (byte : ℕ)
    → HasOneOutcome Reply State (Pokes s worker object offset byte)

-- a trim of a cache
abbrev pub TrimsHaveOneOutcome : Type 0
TrimsHaveOneOutcome = (s : State) (place : ℕ) → HasOneOutcome Reply State (Trims s place)

-- a flush of a CPU
abbrev pub FlushesHaveOneOutcome : Type 0
FlushesHaveOneOutcome = (s : State) (cpu : ℕ) → HasOneOutcome Reply State (Flushes s cpu)

-- each event
abbrev pub AnswersHaveOneOutcome : Type 0
AnswersHaveOneOutcome =
    (s : State) (event : Event) (act : Act) → HasOneOutcomeByMemory (Answers s event act)
