-- What holds of machines in a round, and of lists into which a round closes.
use Rattle.std.specs.Prelude.{◌≡◌, ℕ, ◌<◌, Bool, List, [], ◌∷◌, length, slice_index_or, Option, All}
use Rattle.std.specs.Option.{option_map}
use Rattle.slub_object_layout.specs.declared.layout.Flags.{Flags}
use Rattle.slub_lists.specs.State.{State}
use Rattle.slub_lists.specs.Alloc.{cache_of}
use Rattle.slub_lists.specs.Coherent.{all_on_board}
use Rattle.slub_lists.specs.Coherent as plain
use Rattle.slub_core.specs.Setup.{Setup}
use Rattle.slub_core.specs.World.{World}
use Rattle.slub_core.specs.Local.{Local}
use Rattle.slub_core.specs.Steps.{begun}
use Rattle.slub_core.specs.Run.{System, Pick, idle, turn, run, IsFinished}
use Rattle.slub_core.specs.Opening.{opened}
use Rattle.slub_core.specs.Law.{IsCoherentSystem}
use Rattle.slub_law_opening.specs.Opening.{Beside, setup_of}
use Rattle.slub_law_opening.specs.Table.{system_of}
use Rattle.slub_law_opening.specs.Closing.{Closes, MayClose}
use Rattle.slub_law_opening.specs.Laws.{MayOpen, MayBegin}
use Rattle.slub_law_opening.specs.Bounded.{MayCount, IsBounded}

-- ---- turns

-- whatever the other workers are at, the turn of any worker keeps the bounds
abbrev pub TurnsKeepBounds : Type 0
TurnsKeepBounds =
    (m : Setup) (flags : ℕ → Option Flags) (opening : World) (s : System) (pick : Pick)
    → IsCoherentSystem m opening s → IsBounded m flags s → IsBounded m flags (turn m s pick)

-- they hold before each pick of a run and after the last one
abbrev pub BoundedAlong : Setup → (ℕ → Option Flags) → System → List Pick → Type 0
BoundedAlong m flags s [] = IsBounded m flags s
BoundedAlong m flags s (pick ∷ picks) =
    IsBounded m flags s × BoundedAlong m flags (turn m s pick) picks

abbrev pub RunsKeepBounds : Type 0
RunsKeepBounds =
    (m : Setup) (flags : ℕ → Option Flags) (opening : World) (s : System) (picks : List Pick)
    → IsCoherentSystem m opening s → IsBounded m flags s → BoundedAlong m flags s picks

-- a worker that makes its turn, be its call a try or not, has room for what it counts, before its
-- step
abbrev pub BoundedCountsFit : Type 0
BoundedCountsFit =
    (m : Setup) (flags : ℕ → Option Flags) (opening : World) (s : System) (k : ℕ) (tries : Bool)
    → IsCoherentSystem m opening s → IsBounded m flags s → k < length s.locals
    → MayCount (begun m tries (slice_index_or s.locals k idle))

-- ---- rounds

-- the flags of the live caches
abbrev pub flags_of : State → ℕ → Option Flags
flags_of s cache = option_map (λ live. live.flags) (cache_of s cache)

-- workers have their places for numbers, and have counted nothing
pub record AreNumbered (ls : List Local) : Type 0 where
  pub numbers : (k : ℕ) → k < length ls → (slice_index_or ls k idle).worker ≡ k
  pub put : All (λ (l : Local). l.put ≡ 0) ls
  pub count : All (λ (l : Local). l.count ≡ 0) ls

-- a coherent machine and such workers, opened, and once each has the replies that take no step
abbrev pub begins : State → Beside → List Local → System
begins s b ls = opened (setup_of s b) (system_of s b ls)

abbrev pub RoundsBeginBounded : Type 0
RoundsBeginBounded =
    (s : State) (b : Beside) (ls : List Local) → MayOpen s b → MayBegin s b ls → AreNumbered ls
    → IsBounded (setup_of s b) (flags_of s) (begins s b ls)

-- once every call of the round has its reply, in whatever order the workers made their turns, the
-- machine closes
abbrev pub MachinesMayClose : Type 0
MachinesMayClose =
    (s : State) (b : Beside) (ls : List Local) (picks : List Pick)
    → MayOpen s b → MayBegin s b ls → AreNumbered ls
    → let end = run (setup_of s b) (begins s b ls) picks in
    All IsFinished end.locals → MayClose s b end

-- and there are lists that it closes into: they are coherent, and with all objects on the board
-- they may be opened again
abbrev pub RoundsCloseIntoLists : Type 0
RoundsCloseIntoLists =
    (s : State) (b : Beside) (ls : List Local) (picks : List Pick)
    → MayOpen s b → MayBegin s b ls → AreNumbered ls
    → let end = run (setup_of s b) (begins s b ls) picks in
    All IsFinished end.locals
    → (t : State) × (d : Beside)
    × Closes s b end t d × plain.IsCoherent t × MayOpen (all_on_board t) d
