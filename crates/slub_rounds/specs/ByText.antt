-- Rounds in the order of the text, of machines with transaction ids beside their lists, or without.
use Rattle.std.specs.Prelude.{◌≡◌, ℕ, ◌+◌, ◌*◌, ◌^◌, ◌<◌, ◌⊎◌, List, length, Option, Some, None, All}
use Rattle.slub_trace.specs.declared.event.Round.{Round}
use Rattle.slub_lists.specs.State.{State}
use Rattle.slub_law_opening.specs.Opening.{Beside}
use Rattle.slub_trace.specs.Ranges.{step_of}
use Rattle.slub_turns.specs.Means.{the_means}
use Rattle.slub_slabinfo_text.specs.Lawful.{DoesRound}
use Rattle.slub_slabinfo_text.specs.declared.journal.RoundResult.{RoundResult}
use Rattle.slub_calls.specs.Events.{RunsWithIds}
use Rattle.slub_rounds.specs.Rounds.{DoesRoundInOrder, SpendsTurnsInOrder, StandsBeside}

-- ---- on the lists, ids beside them

-- after a round in which each event changed each CPU word twice, each transaction id would have
-- room for one change more
abbrev pub IdsLast : State → List ℕ → Round → Type 0
IdsLast s ids round =
    All (λ id. id + (2 * length round.events + 1) * step_of s.cpus < 2 ^ 32) ids

-- the events are answered on the lists one after the other, and the ids grow with each as the
-- exchanges of its steps make them grow
pub record DoesRoundOnLists (s : State) (ids : List ℕ) (round : Round) (result : RoundResult)
    (after : State) (ids_after : List ℕ) : Type 0 where
  pub does : DoesRound s round result after
  pub beside : Beside
  pub stands : StandsBeside s ids beside
  pub means : beside.means ≡ the_means
  pub left : Beside
  pub runs : RunsWithIds s beside round.events result.replies does.last left
  pub ids_are : ids_after ≡ left.tids

-- beside ids a round is done on the lists, where they last; else by steps, each event to its end
abbrev pub DoesRoundBeside
    : State → List ℕ → Round → RoundResult → State → List ℕ → Type 0
DoesRoundBeside s ids round result after ids_after =
    (IdsLast s ids round × DoesRoundOnLists s ids round result after ids_after)
    ⊎ ((¬ IdsLast s ids round) × DoesRoundInOrder s ids round result after ids_after)

-- ---- with ids or without

-- in the order of the text a round is done on the lists; where ids stand beside them and may be
-- spent, by steps
abbrev pub DoesByText
    : State → Option (List ℕ) → Round → RoundResult → State → Option (List ℕ) → Type 0
DoesByText s None round result after left = DoesRound s round result after × (left ≡ None)
DoesByText s (Some ids) round result after left =
    (ids_after : List ℕ) × DoesRoundBeside s ids round result after ids_after
    × (left ≡ Some ids_after)

-- all turns of the round are made, and a worker is unfinished: only of one by steps
abbrev pub SpendsByText : State → Option (List ℕ) → Round → Type 0
SpendsByText s None round = ⊥
SpendsByText s (Some ids) round = (¬ IdsLast s ids round) × SpendsTurnsInOrder s ids round
