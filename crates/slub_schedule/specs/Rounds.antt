-- A round by schedule: it ends, or its turns are spent.
use Rattle.std.specs.Prelude.{◌≡◌, ℕ, ◌≤◌, List, length, All}
use Rattle.slub_core.specs.Setup.{Setup}
use Rattle.slub_core.specs.Run.{System, Pick, run, IsFinished}
use Rattle.slub_schedule.specs.Schedule.{unfinished, AreDrawn}
use Rattle.slub_schedule.specs.Turns.{turns_of}

abbrev pub IsFinishedSystem : System → Type 0
IsFinishedSystem s = All IsFinished s.locals

-- after these picks of the seed, no more than the turns of the round, each worker is finished
pub record EndsRound (m : Setup) (seed : ℕ) (first : System) (picks : List Pick)
    (last : System) : Type 0 where
  pub drawn : AreDrawn m first seed picks
  pub run : last ≡ run m first picks
  pub within : length picks ≤ turns_of first
  pub finished : IsFinishedSystem last

-- all turns of the round are made, and a worker is unfinished still
pub record IsSpent (m : Setup) (seed : ℕ) (first : System) (picks : List Pick)
    (last : System) : Type 0 where
  pub drawn : AreDrawn m first seed picks
  pub run : last ≡ run m first picks
  pub all : length picks ≡ turns_of first
  pub unfinished : 1 ≤ length (unfinished last)
