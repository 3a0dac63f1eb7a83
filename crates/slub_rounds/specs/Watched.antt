-- A round by steps that is watched: the watcher chooses whose turn comes next, and hears what comes
-- about in each turn.
use Rattle.std.specs.Prelude.{◌≡◌, ℕ, ◌≤◌, List, [], ◌∷◌, length}
use Rattle.std.specs.List.{FoldsTo}
use Rattle.slub_trace.specs.declared.event.Round.{Round}
use Rattle.slub_lists.specs.State.{State}
use Rattle.slub_core.specs.Setup.{Setup}
use Rattle.slub_core.specs.Local.{Local}
use Rattle.slub_core.specs.Facts.{Facts, setup_of}
use Rattle.slub_core.specs.Run.{System, Pick, turn, run}
use Rattle.slub_schedule.specs.declared.machine.Unended.{Unended}
use Rattle.slub_schedule.specs.declared.machine.Unended.TheVariants as unended
use Rattle.slub_schedule.specs.Schedule.{unfinished, IsCall}
use Rattle.slub_schedule.specs.Turns.{turns_of}
use Rattle.slub_schedule.specs.Rounds.{IsFinishedSystem}
use Rattle.slub_turns.specs.Happenings.{Happening, happenings_of}
use Rattle.slub_turns.specs.Means.{the_means}
use Rattle.slub_rounds.specs.declared.watched.Unwatched.{Unwatched}
use Rattle.slub_rounds.specs.declared.watched.Unwatched.TheVariants.{NoMemory, TurnsSpent, Halted}
use Rattle.slub_rounds.specs.Rounds.{SpendsTurnsBySteps}

-- one turn: a worker is unfinished, the watcher chooses one, and hears what comes about in its turn
pub record IsWatchedTurn {W : Type 0} (chooses : Facts → W → System → ℕ → W → Type 0)
    (hears : Facts → W → Happening → W → Type 0) (facts : Facts) (watch : W) (s : System)
    (pick : Pick) (after : W) : Type 0 where
  pub some : 1 ≤ length (unfinished s)
  pub chosen : W
  pub choice : chooses facts watch s pick.worker chosen
  pub call : IsCall pick
  pub heard : FoldsTo (hears facts) chosen
      (happenings_of (setup_of facts the_means) pick.refused s pick.worker) after

-- from this machine on these turns are made, and the watcher comes from the one to the other by them
abbrev pub AreWatched : {W : Type 0} → (Facts → W → System → ℕ → W → Type 0)
    → (Facts → W → Happening → W → Type 0) → Facts → W → System → List Pick → W → Type 0
AreWatched chooses hears facts watch s [] after = after ≡ watch
AreWatched {W} chooses hears facts watch s (pick ∷ picks) after =
    (next : W) × IsWatchedTurn chooses hears facts watch s pick next
    × AreWatched chooses hears facts next (turn (setup_of facts the_means) s pick) picks after

-- the watcher is told of the workers, and then of these turns, which lead to the last machine
pub record WasWatched {W : Type 0} (begins_round : Facts → W → List Local → W → Type 0)
    (chooses : Facts → W → System → ℕ → W → Type 0) (hears : Facts → W → Happening → W → Type 0)
    (facts : Facts) (watch : W) (first : System) (picks : List Pick) (last : System) (after : W)
    : Type 0 where
  pub begun : W
  pub begins : begins_round facts watch first.locals begun
  pub turns : AreWatched chooses hears facts begun first picks after
  pub run : last ≡ run (setup_of facts the_means) first picks
  pub within : length picks ≤ turns_of first

-- each worker is finished, and so says the watcher
pub record EndsWatched {W : Type 0} (begins_round : Facts → W → List Local → W → Type 0)
    (chooses : Facts → W → System → ℕ → W → Type 0) (hears : Facts → W → Happening → W → Type 0)
    (is_done : Facts → W → System → W → Type 0) (watch after : W) (m : Setup) (first : System)
    (picks : List Pick) (last : System) : Type 0 where
  pub facts : Facts
  pub setup : m ≡ setup_of facts the_means
  pub told : W
  pub watched : WasWatched begins_round chooses hears facts watch first picks last told
  pub done : is_done facts told last after
  pub finished : IsFinishedSystem last

-- all turns of the round are made, and a worker is unfinished still
pub record SpendsWatched {W : Type 0} (begins_round : Facts → W → List Local → W → Type 0)
    (chooses : Facts → W → System → ℕ → W → Type 0) (hears : Facts → W → Happening → W → Type 0)
    (watch after : W) (m : Setup) (first : System) (picks : List Pick) (last : System)
    : Type 0 where
  pub facts : Facts
  pub setup : m ≡ setup_of facts the_means
  pub watched : WasWatched begins_round chooses hears facts watch first picks last after
  pub all : length picks ≡ turns_of first
  pub unfinished : 1 ≤ length (unfinished last)

-- after these turns the watcher has the round end, for this reason
pub record HaltsWatched {W H : Type 0} (begins_round : Facts → W → List Local → W → Type 0)
    (chooses : Facts → W → System → ℕ → W → Type 0) (hears : Facts → W → Happening → W → Type 0)
    (halts : Facts → W → System → H → W → Type 0) (watch : W) (why : H) (after : W) (m : Setup)
    (first : System) (picks : List Pick) (last : System) : Type 0 where
  pub facts : Facts
  pub setup : m ≡ setup_of facts the_means
  pub told : W
  pub watched : WasWatched begins_round chooses hears facts watch first picks last told
  pub halted : halts facts told last why after

-- why a round isn't ended
abbrev pub IsUnendedWatched : {W H : Type 0} → (Facts → W → List Local → W → Type 0)
    → (Facts → W → System → ℕ → W → Type 0) → (Facts → W → Happening → W → Type 0)
    → (Facts → W → System → H → W → Type 0) → W → Unended H → W → Setup → System → List Pick
    → System → Type 0
IsUnendedWatched begins_round chooses hears halts watch unended.TurnsSpent after m first picks last =
    SpendsWatched begins_round chooses hears watch after m first picks last
IsUnendedWatched begins_round chooses hears halts watch (unended.Halted why) after m first picks last =
    HaltsWatched begins_round chooses hears halts watch why after m first picks last

-- for want of memory nothing was done, and the watcher was told nothing; or all turns were made; or
-- the watcher had the round end
abbrev pub IsUnwatched : {W H : Type 0} → (Facts → W → List Local → W → Type 0)
    → (Facts → W → System → ℕ → W → Type 0) → (Facts → W → Happening → W → Type 0)
    → (Facts → W → System → H → W → Type 0) → State → List ℕ → Round → W → W → Unwatched H
    → Type 0
IsUnwatched begins_round chooses hears halts s ids round watch after (NoMemory lists) =
    (lists ≡ s) × (after ≡ watch)
IsUnwatched begins_round chooses hears halts s ids round watch after TurnsSpent =
    SpendsTurnsBySteps (λ m first picks last.
    SpendsWatched begins_round chooses hears watch after m first picks last) s ids round
IsUnwatched begins_round chooses hears halts s ids round watch after (Halted why) =
    SpendsTurnsBySteps (λ m first picks last.
    HaltsWatched begins_round chooses hears halts watch why after m first picks last) s ids round
