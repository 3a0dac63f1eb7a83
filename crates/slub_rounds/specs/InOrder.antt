-- A round by steps in the order of the text: each event is done to its end before the next begins.
use Rattle.std.specs.Prelude.{◌≡◌, ℕ, suc, ◌-◌, ◌≤◌, ◌==◌, if◌then◌else◌, List, [], ◌∷◌, length, slice_index_or, Option, Some, None}
use Rattle.std.specs.Option.{option_or}
use Rattle.slub_trace.specs.declared.event.Event.{Event}
use Rattle.slub_core.specs.Setup.{Setup}
use Rattle.slub_core.specs.World.{update}
use Rattle.slub_core.specs.Local.{Local}
use Rattle.slub_core.specs.Run.{System, Pick, idle, run, turn}
use Rattle.slub_schedule.specs.Schedule.{is_between, unfinished, IsCall}
use Rattle.slub_schedule.specs.Rounds.{IsFinishedSystem}
use Rattle.slub_schedule.specs.Turns.{turns_of}

-- by worker, how many of its events have a reply
abbrev pub answered : System → ℕ → ℕ
answered s worker = length (slice_index_or s.locals worker idle).done

-- the worker of the first event without a reply, where each worker has so many replies, which are
-- to its first events
abbrev pub next_worker : List Event → (ℕ → ℕ) → Option ℕ
next_worker [] answers = None
next_worker (event ∷ events) answers =
    if answers event.worker == 0 then Some event.worker
    else next_worker events (update answers event.worker (answers event.worker - 1))

-- the first worker that is in a call, where the first one has the number n: a call goes on after
-- its reply, to give locks back and to put away what it has in hand
abbrev pub busy_from : ℕ → List Local → Option ℕ
busy_from n [] = None
busy_from n (l ∷ ls) = if is_between l.spot then busy_from (suc n) ls else Some n

-- whose turn is next: the worker's that is in a call, else that of the first event without a reply
abbrev pub next_in : List Event → System → Option ℕ
next_in events s = option_or (busy_from 0 s.locals) (next_worker events (answered s))

-- each turn is that of this worker, and no call is a try
abbrev pub AreInOrder : Setup → List Event → System → List Pick → Type 0
AreInOrder m events s [] = Unit {0}
AreInOrder m events s (pick ∷ picks) =
    (next_in events s ≡ Some pick.worker) × IsCall pick
    × AreInOrder m events (turn m s pick) picks

-- after these picks, no more than the turns of the round, each worker is finished
pub record EndsInOrder (m : Setup) (events : List Event) (first : System) (picks : List Pick)
    (last : System) : Type 0 where
  pub in_order : AreInOrder m events first picks
  pub run : last ≡ run m first picks
  pub within : length picks ≤ turns_of first
  pub finished : IsFinishedSystem last

-- all turns of the round are made, and a worker is unfinished still
pub record IsSpentInOrder (m : Setup) (events : List Event) (first : System) (picks : List Pick)
    (last : System) : Type 0 where
  pub in_order : AreInOrder m events first picks
  pub run : last ≡ run m first picks
  pub all : length picks ≡ turns_of first
  pub unfinished : 1 ≤ length (unfinished last)
