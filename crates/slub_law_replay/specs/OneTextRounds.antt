-- A round has one outcome, by every way but threads.
use Rattle.std.specs.Prelude.{◌≡◌, ℕ, List, Option, All, ⊤}
use Rattle.slub_trace.specs.declared.event.Round.{Round}
use Rattle.slub_trace.specs.declared.trace.Item.{Item}
use Rattle.slub_trace.specs.declared.trace.Item.TheVariants as item
use Rattle.slub_lists.specs.State.{State}
use Rattle.slub_slabinfo_text.specs.declared.journal.RoundResult.{RoundResult}
use Rattle.slub_law_alone.specs.Rounds.{HasMemory}
use Rattle.slub_rounds.specs.Rounds.{DoesRoundBySeed, DoesRoundInOrder}
use Rattle.slub_rounds.specs.ByText.{DoesByText}
use Rattle.slub_law_replay.specs.declared.way.Way.{Way}
use Rattle.slub_law_replay.specs.declared.way.Way.TheVariants.{Serial, Schedule, Threads}
use Rattle.slub_law_replay.specs.Runs.{IsAlone}
use Rattle.slub_law_replay.specs.Ways.{DoesRoundBy}

-- two outcomes are one: the same replies, damages and ledgers, and after them the same machine,
-- down to each word of its frames, and the same transaction ids
pub record AreOne (Ids : Type 0) (one other : RoundResult) (left right : State) (kept also : Ids)
    : Type 0 where
  pub result : one ≡ other
  pub machine : left ≡ right
  pub ids : kept ≡ also

-- whatever comes of a round, and whatever is left: it is the same each time, where memory was there
-- for each event
abbrev pub HasOneEnd : (Ids : Type 0) → (RoundResult → State → Ids → Type 0) → Type 0
HasOneEnd Ids Does =
    (one other : RoundResult) (left right : State) (kept also : Ids)
    → All HasMemory one.replies → All HasMemory other.replies → Does one left kept
    → Does other right also → AreOne Ids one other left right kept also

-- in turns that a seed draws
abbrev pub RoundsBySeedHaveOneOutcome : Type 0
RoundsBySeedHaveOneOutcome =
    (s : State) (ids : List ℕ) (seed : ℕ) (round : Round)
    → HasOneEnd (List ℕ) (λ result after left. DoesRoundBySeed s ids seed round result after left)

-- by steps in the order of the text
abbrev pub RoundsInOrderHaveOneOutcome : Type 0
RoundsInOrderHaveOneOutcome =
    (s : State) (ids : List ℕ) (round : Round)
    → HasOneEnd (List ℕ) (λ result after left. DoesRoundInOrder s ids round result after left)

-- in the order of the text, with transaction ids beside the lists or without
abbrev pub RoundsByTextHaveOneOutcome : Type 0
RoundsByTextHaveOneOutcome =
    (s : State) (ids : Option (List ℕ)) (round : Round)
    → HasOneEnd (Option (List ℕ)) (λ result after left. DoesByText s ids round result after left)

-- threads make their steps in whatever order they run: by them only an item that is no round of
-- several workers is fixed
abbrev pub IsFixed : Way → Item → Type 0
IsFixed Serial what = ⊤
IsFixed (Schedule seed) what = ⊤
IsFixed Threads what = IsAlone what

-- by a way
abbrev pub RoundsOfAWayHaveOneOutcome : Type 0
RoundsOfAWayHaveOneOutcome =
    (way : Way) (rounds : ℕ) (s : State) (ids : Option (List ℕ)) (round : Round)
    → IsFixed way (item.Round round)
    → HasOneEnd (Option (List ℕ))
    (λ result after left. DoesRoundBy way rounds s ids round result after left)
