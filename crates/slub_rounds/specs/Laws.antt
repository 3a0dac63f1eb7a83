-- What holds of rounds by steps: by a seed, by threads, and in the order of the text.
use Rattle.std.specs.Prelude.{◌≡◌, ℕ, ◌+◌, ◌^◌, ◌<◌, ◌≤◌, List, length, slice_index, slice_index_or, All, Contains, None, nat_eq}
use Rattle.std.specs.List.{IsDistinct}
use Rattle.slub_trace.specs.declared.event.Round.{Round}
use Rattle.slub_trace.specs.declared.ledger.Ledger.{Ledger}
use Rattle.slub_trace.specs.declared.trace.Trace.{Trace}
use Rattle.slub_trace.specs.Sound.{IsSoundRound, objects_of}
use Rattle.slub_lists.specs.State.{State}
use Rattle.slub_lists.specs.Coherent.{IsCoherent, held_under}
use Rattle.slub_law_opening.specs.Opening.{IsLaidDown}
use Rattle.slub_schedule.specs.Schedule.{AreRefusedAlike}
use Rattle.slub_calls.specs.Laws.{MayDo}
use Rattle.slub_slabinfo_text.specs.declared.journal.RoundResult.{RoundResult}
use Rattle.slub_law_rounds.specs.Round.{IsRound}
use Rattle.slub_rounds.specs.Rounds.{DoesRoundBySeed, DoesRoundByThreads, DoesRoundInOrder, SpendsTurns, SpendsTurnsInOrder}

-- a round that a seed draws is lawful in the words of the text, without a step
abbrev pub RoundsBySeedAreLawful : Type 0
RoundsBySeedAreLawful =
    (s : State) (ids : List ℕ) (seed : ℕ) (trace : Trace) (round : Round) (result : RoundResult)
    (after : State) (ids_after : List ℕ)
    → IsCoherent s → IsLaidDown s → MayDo s trace round
    → DoesRoundBySeed s ids seed round result after ids_after → IsRound s round result after

-- so is a round by threads, in whatever order they made their steps
abbrev pub RoundsByThreadsAreLawful : Type 0
RoundsByThreadsAreLawful =
    (s : State) (ids : List ℕ) (trace : Trace) (round : Round) (result : RoundResult)
    (after : State) (ids_after : List ℕ)
    → IsCoherent s → IsLaidDown s → MayDo s trace round
    → DoesRoundByThreads s ids round result after ids_after → IsRound s round result after

-- and so is one in the order of the text
abbrev pub RoundsInOrderAreLawful : Type 0
RoundsInOrderAreLawful =
    (s : State) (ids : List ℕ) (trace : Trace) (round : Round) (result : RoundResult)
    (after : State) (ids_after : List ℕ)
    → IsCoherent s → IsLaidDown s → MayDo s trace round
    → DoesRoundInOrder s ids round result after ids_after → IsRound s round result after

-- two ledgers count the same: what was given, what was freed, and each want of a run
pub record CountAlike (one other : Ledger) : Type 0 where
  pub given : one.given ≡ other.given
  pub freed : one.freed ≡ other.freed
  pub no_frames : (order : ℕ) → order < 11
      → slice_index one.no_frames order ≡ slice_index other.no_frames order

-- two rounds are one: the same replies and damages, ledgers that count the same, and after them the
-- same transaction ids and the same machine, down to each word of its frames
pub record AreOneRound (one other : RoundResult) (t u : State) (those these : List ℕ)
    : Type 0 where
  pub replies : one.replies ≡ other.replies
  pub damages : one.damages ≡ other.damages
  pub workers : length one.ledgers ≡ length other.ledgers
  pub ledgers : (worker : ℕ) (x y : Ledger) → worker < length one.ledgers → CountAlike
      (slice_index_or one.ledgers worker x) (slice_index_or other.ledgers worker y)
  pub ids : those ≡ these
  pub left : t ≡ u

-- a seed has one round, want of memory aside, and where it ends the turns aren't spent
abbrev pub RoundsBySeedAreOne : Type 0
RoundsBySeedAreOne =
    (s : State) (ids : List ℕ) (seed : ℕ) (round : Round) (one other : RoundResult)
    (t u : State) (left kept : List ℕ) (does : DoesRoundBySeed s ids seed round one t left)
    → ((also : DoesRoundBySeed s ids seed round other u kept)
    → AreRefusedAlike does.picks also.picks → AreOneRound one other t u left kept)
    × ((spends : SpendsTurns s ids seed round) → AreRefusedAlike does.picks spends.picks → ⊥)

-- and so has the order of the text
abbrev pub RoundsInOrderAreOne : Type 0
RoundsInOrderAreOne =
    (s : State) (ids : List ℕ) (round : Round) (one other : RoundResult)
    (t u : State) (left kept : List ℕ) (does : DoesRoundInOrder s ids round one t left)
    → ((again : DoesRoundInOrder s ids round other u kept)
    → AreRefusedAlike does.picks again.picks → AreOneRound one other t u left kept)
    × ((spends : SpendsTurnsInOrder s ids round)
    → AreRefusedAlike does.picks spends.picks → ⊥)

-- a round that stands after this one in its trace: each number that it allocates is allocated
-- once, and neither by this one nor on the board before
pub record MayFollow (s : State) (trace : Trace) (round next : Round) : Type 0 where
  pub sound : IsSoundRound trace next
  pub unheld : All (λ object. held_under s object ≡ None) (objects_of next.events)
  pub new : All (λ object. ¬ Contains (objects_of round.events) object) (objects_of next.events)
  pub distinct : IsDistinct nat_eq (objects_of next.events)
  -- no counter comes to its end
  pub few : length next.events ≤ 2 ^ 32
  pub dry : (order : ℕ) → slice_index s.pool.dry order + length round.events ≤ 2 ^ 62

-- a lawful round leaves a machine that can do the next one
abbrev pub RoundsLeadOn : Type 0
RoundsLeadOn =
    (s : State) (trace : Trace) (round next : Round) (result : RoundResult) (after : State)
    → MayDo s trace round → MayFollow s trace round next → IsRound s round result after
    → MayDo after trace next
