-- The machine of a round, as the crate's own functions have it. The promise doesn't speak of it.
use Rattle.std.specs.Prelude.{◌≡◌, ℕ, ◌*◌, List, length, map, All}
use Rattle.std.specs.List.{range_with_len}
use Rattle.slub_trace.specs.declared.event.Round.{Round}
use Rattle.slub_trace.specs.declared.trace.Trace.{Trace}
use Rattle.slub_lists.specs.State.{State}
use Rattle.slub_lists.specs.Coherent.{IsCoherent, all_on_board}
use Rattle.slub_core.specs.Setup.{Setup}
use Rattle.slub_core.specs.Local.{Local}
use Rattle.slub_core.specs.Run.{System, Pick, run, IsFinished}
use Rattle.slub_core.specs.Facts as local
use Rattle.slub_core.specs.Values.{rooms_of}
use Rattle.slub_words.specs.Stored.{AreStored}
use Rattle.slub_schedule.specs.Rounds.{EndsRound}
use Rattle.slub_law_opening.specs.Opening.{IsLaidDown, setup_of}
use Rattle.slub_law_opening.specs.Opening as opening
use Rattle.slub_law_opening.specs.Closing.{Closes}
use Rattle.slub_open_close.specs.Closing.{KeepsWords}
use Rattle.slub_open_close.specs.Undoing.{WasOpened}
use Rattle.slub_calls.specs.Calls.{workers_of}
use Rattle.slub_calls.specs.Laws.{MayDo}
use Rattle.slub_open_close.specs.declared.beside.Beside.{Beside}
use Rattle.slub_open_close.specs.declared.opened.Opened.{Opened}
use Rattle.slub_open_close.specs.declared.opened.Rest.{Rest}
use Rattle.slub_open_close.specs.Beside.{beside_of, IsBesideOf}
use Rattle.slub_open_close.specs.Ids.{AreIds}
use Rattle.slub_open_close.specs.Opened.{IsOpened, room_of}
use Rattle.slub_open_close.specs.Rest.{IsRestOf, IsUntouched}
use Rattle.slub_turns.specs.declared.machine.StepMachine.{StepMachine}
use Rattle.slub_turns.specs.Means.{the_means}
use Rattle.slub_turns.specs.System.{system_of, IsTableFor}
use Rattle.slub_rounds.specs.declared.answers.Answers.{Answers}
use Rattle.slub_rounds.specs.declared.ended.Ended.{Ended}
use Rattle.slub_rounds.specs.Answers.{IsRoomFor, IsTold}
use Rattle.slub_rounds.specs.InOrder.{EndsInOrder}
use Rattle.slub_rounds.specs.Rounds.{StandsBeside, DoesRoundBySteps, Finishes, system_begun}

-- what stands beside the lists, with the one way of takes, gifts and orders that there is
abbrev pub beside_in : Beside → opening.Beside
beside_in b = beside_of b the_means

-- the words, the values of the locks and the workers
abbrev pub system_in : StepMachine → System
system_in m = system_of m.table m.values.items m.locals.items

-- a round that can be done on these lists, beside which this stands, with these transaction ids
pub record MayRun (s : State) (ids : List ℕ) (b : Beside) (trace : Trace)
    (round : Round) : Type 0 where
  pub coherent : IsCoherent s
  pub laid_down : IsLaidDown s
  pub beside : IsBesideOf s b
  pub stands : StandsBeside s ids (beside_in b)
  pub does : MayDo s trace round

-- the machine in words before the first turn
pub record IsBegun (s : State) (b : Beside) (round : Round) (m : StepMachine)
    (rest : Rest) : Type 0 where
  pub setup : local.setup_of m.setup the_means ≡ setup_of s (beside_in b)
  pub system : system_in m ≡ system_begun s (beside_in b) round
  pub sizes : IsTableFor m.setup m.table
  pub full : rooms_of m.values.items ≡ map (room_of s) (range_with_len 0 33)
  pub waiting : IsRestOf s rest

-- and after the last one, by some picks
pub record HasEnded (s : State) (ids : List ℕ) (b : Beside) (trace : Trace) (round : Round)
    (m : StepMachine) (rest : Rest) (answers : Answers) : Type 0 where
  pub may : MayRun s ids b trace round
  pub setup : local.setup_of m.setup the_means ≡ setup_of s (beside_in b)
  pub sizes : IsTableFor m.setup m.table
  pub picks : List Pick
  pub run : system_in m ≡ run (setup_of s (beside_in b)) (system_begun s (beside_in b) round) picks
  pub finished : All IsFinished m.locals.items
  pub full : rooms_of m.values.items ≡ map (room_of s) (range_with_len 0 33)
  pub waiting : IsRestOf s rest
  pub room : IsRoomFor s (length round.events) round.workers answers

-- the lists and the ids that it leaves, and what is told of them
pub record HasClosed (s : State) (b : opening.Beside) (round : Round) (last : System)
    (done : Ended) : Type 0 where
  pub lists : State
  pub left : opening.Beside
  pub closes : Closes s b last lists left
  pub words : KeepsWords s b last lists
  pub after_is : done.lists ≡ all_on_board lists
  pub ids_are : done.ids ≡ left.tids
  pub coherent : IsCoherent done.lists
  pub laid_down : IsLaidDown done.lists
  pub fit : AreIds done.lists done.ids
  pub told : IsTold s lists round last.locals done.result

-- all that a round on words begins with
pub record IsSet (s : State) (ids : List ℕ) (b : Beside) (trace : Trace) (round : Round)
    (opened : Opened) (locals : List Local) (answers : Answers) : Type 0 where
  pub may : MayRun s ids b trace round
  pub opens : IsOpened s b opened
  pub workers : locals ≡ workers_of s.table round
  pub room : IsRoomFor s (length round.events) round.workers answers

-- the same of a round by threads, beside which the words of the frames wait as they were
pub record IsSetForThreads (s : State) (ids : List ℕ) (b : Beside) (trace : Trace)
    (round : Round) (opened : Opened) (locals : List Local) (kept : List ℕ)
    (answers : Answers) : Type 0 where
  pub set : IsSet s ids b trace round opened locals answers
  pub still : IsUntouched s opened.rest
  pub kept_are : AreStored kept s.memory

-- s was opened as this machine, on which nothing was done, and beside it these words wait
pub record WasKept (s : State) (m : StepMachine) (rest : Rest) (kept : List ℕ) : Type 0 where
  pub opened : WasOpened s m.values.items rest s.memory
  pub frames : length s.memory ≡ 512 * m.table.frames
  pub kept_are : AreStored kept s.memory

-- the round is done, and the next one may begin
pub record IsDone (Ending : Setup → System → List Pick → System → Type 0) (s : State)
    (ids : List ℕ) (round : Round) (done : Ended) : Type 0 where
  pub does : DoesRoundBySteps Ending s ids round done.result done.lists done.ids
  pub coherent : IsCoherent done.lists
  pub laid_down : IsLaidDown done.lists
  pub fit : AreIds done.lists done.ids

abbrev pub IsDoneBySeed : State → List ℕ → ℕ → Round → Ended → Type 0
IsDoneBySeed s ids seed round done =
    IsDone (λ m first picks last. EndsRound m seed first picks last) s ids round done

abbrev pub IsDoneByThreads : State → List ℕ → Round → Ended → Type 0
IsDoneByThreads s ids round done = IsDone Finishes s ids round done

abbrev pub IsDoneInOrder : State → List ℕ → Round → Ended → Type 0
IsDoneInOrder s ids round done =
    IsDone (λ m first picks last. EndsInOrder m round.events first picks last) s ids round done
