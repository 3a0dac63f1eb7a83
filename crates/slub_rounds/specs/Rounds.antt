-- A round by steps, from the lists before it to the lists after it: in turns that a seed draws, in
-- whatever order threads make their steps, or in the order of the text.
use Rattle.std.specs.Prelude.{◌≡◌, ℕ, List, All}
use Rattle.std.specs.List.{zip}
use Rattle.slub_trace.specs.declared.event.Round.{Round}
use Rattle.slub_lists.specs.State.{State}
use Rattle.slub_lists.specs.Coherent.{all_on_board}
use Rattle.slub_core.specs.World.{World, world_of}
use Rattle.slub_core.specs.Setup.{Setup}
use Rattle.slub_core.specs.Run.{System, Pick, run}
use Rattle.slub_core.specs.Opening.{opened as begun}
use Rattle.slub_core.specs.Law.{CoherentAlong, replies_of}
use Rattle.slub_schedule.specs.Schedule.{IsCall}
use Rattle.slub_schedule.specs.Rounds.{EndsRound, IsFinishedSystem, IsSpent}
use Rattle.slub_law_opening.specs.Opening.{Beside, IsBeside, setup_of}
use Rattle.slub_law_opening.specs.Table.{system_of}
use Rattle.slub_law_opening.specs.Closing.{Closes}
use Rattle.slub_open_close.specs.Closing.{KeepsWords}
use Rattle.slub_calls.specs.Calls.{workers_of}
use Rattle.slub_open_close.specs.Beside.{first_links}
use Rattle.slub_open_close.specs.Ids.{IsStepOf}
use Rattle.slub_turns.specs.Means.{the_means}
use Rattle.slub_slabinfo_text.specs.Lawful.{AreLedgers, found_in}
use Rattle.slub_slabinfo_text.specs.declared.journal.RoundResult.{RoundResult}
use Rattle.slub_calls.specs.Replies.{AreReplies}
use Rattle.slub_rounds.specs.InOrder.{EndsInOrder, IsSpentInOrder}

-- ---- the machine in words

-- beside the lists stand these transaction ids of the CPU words, and no slab leads to another
pub record StandsBeside (s : State) (ids : List ℕ) (b : Beside) : Type 0 where
  pub fits : IsBeside s b
  pub tids : b.tids ≡ ids
  pub links : b.links ≡ first_links s.frames
  pub step : IsStepOf s.cpus b.step

-- the words of the lists, and each worker with its events to come
abbrev pub system_before : State → Beside → Round → System
system_before s b round = system_of s b (workers_of s.table round)

abbrev pub world_before : State → Beside → Round → World
world_before s b round =
    let first = system_before s b round in world_of (setup_of s b) first.value first.words

-- and each worker was given the replies that take no step
abbrev pub system_begun : State → Beside → Round → System
system_begun s b round = begun (setup_of s b) (system_before s b round)

-- before each turn and after the last one the machine is coherent
abbrev pub IsCoherentRun : State → Beside → Round → List Pick → Type 0
IsCoherentRun s b round picks =
    CoherentAlong (setup_of s b) (world_before s b round) (system_begun s b round) picks

-- ---- the round

-- the lists and the ids beside them open into words, the workers make their turns until each event
-- has its reply, and the words close into lists and ids; then what the workers hold is put on the
-- board. `Ending` says which picks there may be, of the machine before the first turn and after the
-- last one
pub record DoesRoundBySteps (Ending : Setup → System → List Pick → System → Type 0) (s : State)
    (ids : List ℕ) (round : Round) (result : RoundResult) (after : State)
    (ids_after : List ℕ) : Type 0 where
  pub beside : Beside
  pub stands : StandsBeside s ids beside
  -- takes, gifts and orders are functions of what stands there
  pub means : beside.means ≡ the_means
  pub picks : List Pick
  pub last : System
  pub coherent : IsCoherentRun s beside round picks
  pub ends : Ending (setup_of s beside) (system_begun s beside round) picks last
  pub lists : State
  pub left : Beside
  pub closes : Closes s beside last lists left
  pub words : KeepsWords s beside last lists
  pub after_is : after ≡ all_on_board lists
  pub ids_are : ids_after ≡ left.tids
  pub replies : AreReplies round.events (replies_of last) result.replies
  pub damages : result.damages ≡ found_in s lists
  pub ledgers : AreLedgers s (zip round.events result.replies) round.workers result.ledgers

-- by a seed: its picks are those that the seed draws, no more than the turns of the round
abbrev pub DoesRoundBySeed
    : State → List ℕ → ℕ → Round → RoundResult → State → List ℕ → Type 0
DoesRoundBySeed s ids seed round result after ids_after =
    DoesRoundBySteps (λ m first picks last. EndsRound m seed first picks last)
    s ids round result after ids_after

-- after these picks, whichever they are, each worker is finished, and no call is a try
pub record Finishes (m : Setup) (first : System) (picks : List Pick) (last : System)
    : Type 0 where
  pub calls : All IsCall picks
  pub run : last ≡ run m first picks
  pub finished : IsFinishedSystem last

-- by threads: there are some picks by which the workers come to where their threads came
abbrev pub DoesRoundByThreads : State → List ℕ → Round → RoundResult → State → List ℕ → Type 0
DoesRoundByThreads s ids round result after ids_after =
    DoesRoundBySteps Finishes s ids round result after ids_after

-- in the order of the text: each event is done to its end before the next one begins
abbrev pub DoesRoundInOrder : State → List ℕ → Round → RoundResult → State → List ℕ → Type 0
DoesRoundInOrder s ids round result after ids_after =
    DoesRoundBySteps (λ m first picks last. EndsInOrder m round.events first picks last)
    s ids round result after ids_after

-- ---- turns that are spent

-- all turns of the round are made, and a worker is unfinished. `Spending` says which picks there
-- may be
pub record SpendsTurnsBySteps (Spending : Setup → System → List Pick → System → Type 0) (s : State)
    (ids : List ℕ) (round : Round) : Type 0 where
  pub beside : Beside
  pub stands : StandsBeside s ids beside
  -- takes, gifts and orders are functions of what stands there
  pub means : beside.means ≡ the_means
  pub picks : List Pick
  pub last : System
  pub coherent : IsCoherentRun s beside round picks
  pub spent : Spending (setup_of s beside) (system_begun s beside round) picks last

abbrev pub SpendsTurns : State → List ℕ → ℕ → Round → Type 0
SpendsTurns s ids seed round =
    SpendsTurnsBySteps (λ m first picks last. IsSpent m seed first picks last) s ids round

abbrev pub SpendsTurnsInOrder : State → List ℕ → Round → Type 0
SpendsTurnsInOrder s ids round =
    SpendsTurnsBySteps (λ m first picks last. IsSpentInOrder m round.events first picks last)
    s ids round
