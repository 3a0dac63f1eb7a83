-- What each way makes of a round.
use Rattle.std.specs.Prelude.{◌≡◌, ℕ, ◌+◌, ◌^◌, ◌%◌, ◌<◌, ◌≤◌, ◌⊎◌, List, Option, Some, None}
use Rattle.slub_trace.specs.declared.event.Round.{Round}
use Rattle.slub_lists.specs.State.{State}
use Rattle.slub_open_close.specs.Ids.{first_ids}
use Rattle.slub_slabinfo_text.specs.declared.journal.RoundResult.{RoundResult}
use Rattle.slub_rounds.specs.Rounds.{DoesRoundBySeed, DoesRoundByThreads, SpendsTurns}
use Rattle.slub_rounds.specs.ByText.{DoesByText, SpendsByText}
use Rattle.slub_law_replay.specs.declared.way.Way.{Way}
use Rattle.slub_law_replay.specs.declared.way.Way.TheVariants.{Serial, Schedule, Threads}

-- what the turns of a round are drawn from: the seed of the replay plus how many rounds were
-- before, in 64 bits
abbrev pub seed_after : ℕ → ℕ → ℕ
seed_after seed rounds = (seed + rounds) % 2 ^ 64

-- its workers are two or more
abbrev pub IsOfSeveral : Round → Type 0
IsOfSeveral round = 1 < round.workers

-- ---- transaction ids

-- beside the lists of a trace whose first transaction id isn't 0 stand the ids of the CPU words. Of
-- any other trace they aren't looked at between rounds: a round of several workers begins with new
-- ones (`init_tid`)
abbrev pub ids_before : State → Option (List ℕ) → List ℕ
ids_before s None = first_ids 0 s.cpus
ids_before s (Some ids) = ids

-- and leaves none
abbrev pub AreLeft : Option (List ℕ) → List ℕ → Option (List ℕ) → Type 0
AreLeft None ids_after left = left ≡ None
AreLeft (Some ids) ids_after left = left ≡ Some ids_after

-- ---- rounds

-- in turns that a seed draws, with the machine coherent at every step
abbrev pub DoesBySeed : ℕ → State → Option (List ℕ) → Round → RoundResult → State
    → Option (List ℕ) → Type 0
DoesBySeed seed s ids round result after left =
    (ids_after : List ℕ)
    × DoesRoundBySeed s (ids_before s ids) seed round result after ids_after
    × AreLeft ids ids_after left

-- in turns that threads make, the same
abbrev pub DoesByThreads
    : State → Option (List ℕ) → Round → RoundResult → State → Option (List ℕ) → Type 0
DoesByThreads s ids round result after left =
    (ids_after : List ℕ) × DoesRoundByThreads s (ids_before s ids) round result after ids_after
    × AreLeft ids ids_after left

-- a round of one worker is done in the order of the text in every way
abbrev pub DoesAlone
    : State → Option (List ℕ) → Round → RoundResult → State → Option (List ℕ) → Type 0
DoesAlone s ids round result after left =
    (round.workers ≤ 1) × DoesByText s ids round result after left

-- one of two or more workers by the way
abbrev pub DoesRoundBy : Way → ℕ → State → Option (List ℕ) → Round → RoundResult → State
    → Option (List ℕ) → Type 0
DoesRoundBy Serial rounds s ids round result after left =
    DoesByText s ids round result after left
DoesRoundBy (Schedule seed) rounds s ids round result after left =
    DoesAlone s ids round result after left
    ⊎ (IsOfSeveral round × DoesBySeed (seed_after seed rounds) s ids round result after left)
DoesRoundBy Threads rounds s ids round result after left =
    DoesAlone s ids round result after left
    ⊎ (IsOfSeveral round × DoesByThreads s ids round result after left)

-- ---- turns that are spent

-- all turns of the round are made, and a worker is unfinished
abbrev pub SpendsAlone : State → Option (List ℕ) → Round → Type 0
SpendsAlone s ids round = (round.workers ≤ 1) × SpendsByText s ids round

-- by the way; threads work until all are finished
abbrev pub SpendsTurnsBy : Way → ℕ → State → Option (List ℕ) → Round → Type 0
SpendsTurnsBy Serial rounds s ids round = SpendsByText s ids round
SpendsTurnsBy (Schedule seed) rounds s ids round =
    SpendsAlone s ids round
    ⊎ (IsOfSeveral round × SpendsTurns s (ids_before s ids) (seed_after seed rounds) round)
SpendsTurnsBy Threads rounds s ids round = SpendsAlone s ids round
