-- When a round begins with a machine that is ready, and what it closes into, as it is proved.
use Rattle.std.specs.Prelude.{ℕ, ◌<◌, List, length}
use Rattle.slub_lists.specs.State.{State}
use Rattle.slub_lists.specs.Coherent.{all_on_board}
use Rattle.slub_lists.specs.Coherent as plain
use Rattle.slub_core.specs.Local.{Local}
use Rattle.slub_core.specs.Setup.{Setup}
use Rattle.slub_core.specs.Run.{System, Pick, turn}
use Rattle.slub_law_opening.specs.Opening.{Beside, setup_of}
use Rattle.slub_law_opening.specs.Closing.{Closes}
use Rattle.slub_law_opening.specs.Laws.{MayOpen, MayBegin}
use Rattle.slub_schedule.specs.Rounds.{EndsRound}
use Rattle.slub_law_opening.specs.BoundLaws.{AreNumbered, begins}
use Rattle.slub_turns.specs.Fits.{PickFits}
use Rattle.slub_turns.specs.Ready.{MayTurn}

-- coherent lists that are opened for a round, with workers whose calls fit the machine
abbrev pub RoundsBeginReady : Type 0
RoundsBeginReady =
    (s : State) (b : Beside) (ls : List Local) → MayOpen s b → MayBegin s b ls → AreNumbered ls
    → MayTurn (setup_of s b) (begins s b ls)

-- and it stays so, whoever makes the next turn
abbrev pub TurnsKeepReady : Type 0
TurnsKeepReady = (m : Setup) (s : System) (pick : Pick) → MayTurn m s → MayTurn m (turn m s pick)

-- in such a machine the turn of each worker that there is is one that the bodies can make
abbrev pub PicksFit : Type 0
PicksFit = (m : Setup) (s : System) (pick : Pick) → MayTurn m s → pick.worker < length s.locals
    → PickFits m s pick

-- once a round by seed ends, there are lists that the machine closes into: they are coherent, and
-- with all objects on the board they may be opened again
abbrev pub RoundsBySeedClose : Type 0
RoundsBySeedClose =
    (s : State) (b : Beside) (ls : List Local) (seed : ℕ) (picks : List Pick) (last : System)
    → MayOpen s b → MayBegin s b ls → AreNumbered ls
    → EndsRound (setup_of s b) seed (begins s b ls) picks last
    → (t : State) × (d : Beside)
    × Closes s b last t d × plain.IsCoherent t × MayOpen (all_on_board t) d
