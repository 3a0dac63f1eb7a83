-- A round by the order of the text has one outcome.
use Rattle.std.specs.Prelude.{◌≡◌, Bool, false, List, map, None, IfSome, ⊤, All}
use Rattle.slub_trace.specs.declared.event.Act.{Act}
use Rattle.slub_trace.specs.declared.event.Act.TheVariants.{Alloc}
use Rattle.slub_trace.specs.declared.event.Event.{Event}
use Rattle.slub_trace.specs.declared.event.Round.{Round}
use Rattle.slub_trace.specs.declared.reply.Reply.{Reply}
use Rattle.slub_trace.specs.Kinds.{is_no_memory}
use Rattle.slub_lists.specs.State.{State}
use Rattle.slub_lists.specs.Alloc.{checked_of, named}
use Rattle.slub_slabinfo_text.specs.declared.journal.RoundResult.{RoundResult}
use Rattle.slub_slabinfo_text.specs.Lawful.{DoesRound, RunsEvents}
use Rattle.slub_law_alone.specs.Outcome.{HasOneOutcome}

-- ---- events, one after the other

-- memory was there
abbrev pub HasMemory : Reply → Type 0
HasMemory reply = is_no_memory reply ≡ false

-- by event: whether memory was wanting
abbrev pub wants_of : List Reply → List Bool
wants_of replies = map is_no_memory replies

-- events that are made one after the other, with memory wanting at the same of them
abbrev pub RunsHaveOneOutcome : Type 0
RunsHaveOneOutcome =
    (s : State) (events : List Event) (ones others : List Reply) (left right : State)
    → wants_of ones ≡ wants_of others → RunsEvents s events ones left
    → RunsEvents s events others right → (ones ≡ others) × (left ≡ right)

-- and so where it never was
abbrev pub RunsWithMemoryHaveOneOutcome : Type 0
RunsWithMemoryHaveOneOutcome =
    (s : State) (events : List Event) (ones others : List Reply) (left right : State)
    → All HasMemory ones → All HasMemory others → RunsEvents s events ones left
    → RunsEvents s events others right → (ones ≡ others) × (left ≡ right)

-- an allocation from a cache that is not checked takes no memory, and neither does another act
abbrev pub TakesNoMemory : State → Act → Type 0
TakesNoMemory s (Alloc place object) = IfSome (named s place) (λ cache. checked_of s cache ≡ None)
TakesNoMemory s _ = ⊤

-- so no word on memory is needed where all allocations are such
abbrev pub UncheckedRunsHaveOneOutcome : Type 0
UncheckedRunsHaveOneOutcome =
    (s : State) (events : List Event) → All (λ event. TakesNoMemory s event.act) events
    → HasOneOutcome (List Reply) State (RunsEvents s events)

-- ---- a round

-- the replies of a round, what was found damaged, the ledgers, and the machine that is left
abbrev pub RoundsHaveOneOutcome : Type 0
RoundsHaveOneOutcome =
    (s : State) (round : Round) (one other : RoundResult) (left right : State)
    → wants_of one.replies ≡ wants_of other.replies
    → DoesRound s round one left → DoesRound s round other right
    → (one ≡ other) × (left ≡ right)

-- the same of a round that allocates from caches that are not checked
abbrev pub UncheckedRoundsHaveOneOutcome : Type 0
UncheckedRoundsHaveOneOutcome =
    (s : State) (round : Round) → All (λ event. TakesNoMemory s event.act) round.events
    → HasOneOutcome RoundResult State (DoesRound s round)
