-- How the workers do the events in their order, as the crate's own functions have it. The promise
-- doesn't speak of it.
use Rattle.std.specs.Prelude.{◌≡◌, ℕ, ◌+◌, ◌≤◌, nat_lt, Bool, true, false, ◌&&◌, List, [], ◌∷◌, length, slice_index_or}
use Rattle.slub_trace.specs.declared.event.Event.{Event}
use Rattle.slub_core.specs.declared.spot.Spot.TheVariants.{Between}
use Rattle.slub_core.specs.Setup.{Setup}
use Rattle.slub_core.specs.Local.{Local}
use Rattle.slub_core.specs.Run.{System, Pick, idle, run, turn}
use Rattle.slub_schedule.specs.Schedule.{is_between, IsCall}
use Rattle.slub_calls.specs.Calls.{events_by}

abbrev pub local_at : System → ℕ → Local
local_at s worker = slice_index_or s.locals worker idle

-- the worker has more replies than these, and is in no call
abbrev pub is_through : ℕ → Local → Bool
is_through passed l = is_between l.spot && nat_lt passed (length l.done)

-- each turn is that of this worker, before which it isn't through, and no call is a try
abbrev pub AreUnder : Setup → ℕ → ℕ → System → List Pick → Type 0
AreUnder m worker passed s [] = Unit {0}
AreUnder m worker passed s (pick ∷ picks) =
    (pick.worker ≡ worker) × IsCall pick × (is_through passed (local_at s worker) ≡ false)
    × AreUnder m worker passed (turn m s pick) picks

-- by such turns the machine comes from one state to another; so many were made before and are now
pub record HasTurned (m : Setup) (worker passed : ℕ) (first last : System)
    (before now : ℕ) : Type 0 where
  pub picks : List Pick
  pub under : AreUnder m worker passed first picks
  pub run : last ≡ run m first picks
  pub count : before + length picks ≡ now

-- then the worker is through, and no more turns are made than there are
pub record ComesThrough (m : Setup) (worker passed : ℕ) (first last : System)
    (before now turns : ℕ) : Type 0 where
  pub turned : HasTurned m worker passed first last before now
  pub within : now ≤ turns
  pub through : is_through passed (local_at last worker) ≡ true

-- or all turns are made, and it isn't
pub record StaysUnder (m : Setup) (worker passed : ℕ) (first last : System)
    (before turns : ℕ) : Type 0 where
  pub turned : HasTurned m worker passed first last before turns
  pub under : is_through passed (local_at last worker) ≡ false

-- no worker is in a call, and each has as many calls as events
pub record AwaitsEvents (events : List Event) (locals : List Local) : Type 0 where
  pub between : (worker : ℕ) → (slice_index_or locals worker idle).spot ≡ Between
  pub calls : (worker : ℕ) → length (slice_index_or locals worker idle).done
      + length (slice_index_or locals worker idle).todo ≡ length (events_by worker events)
