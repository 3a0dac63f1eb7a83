-- A round by steps in the order of the text gives what its events give on plain lists.
use Rattle.std.specs.Prelude.{◌≡◌, ◌≢◌, ℕ, ◌+◌, ◌*◌, ◌^◌, ◌<◌, true, false, List, reverse, Some, None, IsSome, All}
use Rattle.slub_trace.specs.declared.event.Round.{Round}
use Rattle.slub_trace.specs.Kinds.{is_no_memory}
use Rattle.slub_trace.specs.declared.trace.Trace.{Trace}
use Rattle.slub_trace.specs.Ranges.{step_of}
use Rattle.slub_trace.specs.Sound.{allocated, is_written}
use Rattle.slub_lists.specs.declared.lists.Held.{Held}
use Rattle.slub_lists.specs.State.{State}
use Rattle.slub_lists.specs.Alloc.{cache_of, checked_of}
use Rattle.slub_lists.specs.Coherent.{IsCoherent, held_under}
use Rattle.slub_core.specs.Setup.{cpu_number}
use Rattle.slub_law_opening.specs.Opening.{Beside}
use Rattle.slub_calls.specs.Laws.{MayDo}
use Rattle.slub_slabinfo_text.specs.Lawful.{DoesRound, IsAtRest}
use Rattle.slub_slabinfo_text.specs.declared.journal.RoundResult.{RoundResult}
use Rattle.slub_law_alone.specs.Alone.{HasWord}
use Rattle.slub_calls.specs.Events.{RunsWithIds}
use Rattle.slub_rounds.specs.Rounds.{DoesRoundInOrder}
use Rattle.slub_open_close.specs.Ids.{AreIds, id_at}
use Rattle.slub_law_alone.specs.Only.{RunsAs}
use Rattle.slub_rounds.specs.ByText.{IdsLast, DoesRoundOnLists}

-- the round is one on plain lists, with the same replies, damages and ledgers, and leaves the same
-- lists but for words of frames. The words of an object that it didn't allocate are the same too,
-- and so are those that the holder of an object wrote since it was given. The transaction ids grow
-- event by event as the lists say
pub record IsRoundOnLists (s : State) (b : Beside) (round : Round) (result : RoundResult)
    (after : State) (ids_after : List ℕ) : Type 0 where
  pub lists : State
  pub does : DoesRound s round result lists
  pub left : after ≡ record lists { memory = after.memory }
  pub old : (object word : ℕ) (held : Held) → held_under does.last object ≡ Some held
      → All (λ event. allocated event.act ≢ Some object) (reverse round.events)
      → HasWord does.last after held word
  pub words : (worker object word : ℕ) (held : Held) → held_under does.last object ≡ Some held
      → held.worker ≡ Some worker
      → is_written (reverse round.events) worker object word ≡ true
      → HasWord does.last after held word
  pub beside : Beside
  pub ids : RunsWithIds s b round.events result.replies does.last beside
  pub ids_are : ids_after ≡ beside.tids

-- no transaction id of an unchecked cache's word on one of the CPUs is spent
abbrev pub SpendsNone : State → List ℕ → Type 0
SpendsNone s ids =
    (cache cpu : ℕ) → cpu < s.cpus → IsSome (cache_of s cache) → checked_of s cache ≡ None
    → id_at ids (cpu_number cache cpu) + 2 * step_of s.cpus < 2 ^ 32

-- what a round in the order of the text does by steps, each event to its end before the next one
-- begins, it does on plain lists, where memory was there for each reply, and no id is spent after
abbrev pub RoundsInOrderAreThoseOfLists : Type 0
RoundsInOrderAreThoseOfLists =
    (s : State) (ids : List ℕ) (trace : Trace) (round : Round) (result : RoundResult)
    (after : State) (ids_after : List ℕ) → IsCoherent s → IsAtRest s → MayDo s trace round
    → (does : DoesRoundInOrder s ids round result after ids_after)
    → All (λ reply. is_no_memory reply ≡ false) result.replies → SpendsNone s ids_after
    → IsRoundOnLists s does.beside round result after ids_after

-- what is done on the lists, ids beside them, the workers do by steps that begin at these ids, each
-- event to its end: they are answered the same, and come to rest in the same lists, but for words
-- that nobody wrote, and in the same ids. Memory is there for each reply
abbrev pub RoundsOnListsAreRuns : Type 0
RoundsOnListsAreRuns =
    (s : State) (ids : List ℕ) (trace : Trace) (round : Round) (result : RoundResult)
    (after : State) (ids_after : List ℕ)
    → IsCoherent s → IsAtRest s → MayDo s trace round → AreIds s ids → IdsLast s ids round
    → (does : DoesRoundOnLists s ids round result after ids_after)
    → All (λ reply. is_no_memory reply ≡ false) result.replies
    → (left : Beside) × RunsAs s does.beside round result.replies does.does.last left
    × (ids_after ≡ left.tids)
