-- What holds of machines that are opened and closed.
use Rattle.std.specs.Prelude.{◌≡◌, ℕ, ◌+◌, ◌^◌, ◌≤◌, List, length, map, sum_by, slice_index, All}
use Rattle.std.specs.Option.{option_map}
use Rattle.slub_lists.specs.State.{State}
use Rattle.slub_lists.specs.Coherent.{all_on_board, held_under}
use Rattle.slub_lists.specs.Coherent as plain
use Rattle.slub_core.specs.Setup.{Setup}
use Rattle.slub_core.specs.Local.{Local, Worker}
use Rattle.slub_core.specs.World.{World, world_of}
use Rattle.slub_core.specs.Replies.{asked_in}
use Rattle.slub_core.specs.Accounted.{boarded}
use Rattle.slub_core.specs.Coherent.{Stands}
use Rattle.slub_core.specs.Run.{System, Pick, run}
use Rattle.slub_core.specs.Opening.{IsNew, IsOpening, opened as begun}
use Rattle.slub_core.specs.Law.{IsCoherentSystem}
use Rattle.slub_law_opening.specs.Opening.{Beside, IsBeside, IsLaidDown, setup_of, board_word}
use Rattle.slub_law_opening.specs.Table.{RestsIn, system_of}
use Rattle.slub_law_opening.specs.Closing.{Closes, AreAlike, MayClose}

-- between two rounds: a coherent machine whose objects are all on the board, and what is beside it
pub record MayOpen (s : State) (b : Beside) : Type 0 where
  pub coherent : plain.IsCoherent s
  pub laid_down : IsLaidDown s
  pub beside : IsBeside s b

-- the workers of a round that is to begin
pub record MayBegin (s : State) (b : Beside) (ls : List Local) : Type 0 where
  pub new : All (IsNew (setup_of s b)) ls
  -- each number is allocated once at most, and not where it is on the board
  pub once : (object : ℕ) → boarded (option_map board_word (held_under s object))
      + sum_by (λ (l : Local). asked_in object l.todo) ls ≤ 1
  -- no counter comes to its end
  pub few : sum_by (λ (l : Local). length l.todo) ls ≤ 2 ^ 32
  pub dry : (order : ℕ) → slice_index s.pool.dry order ≤ 2 ^ 62

-- ---- opening

-- the words say what the lists say, and a round may begin with them
abbrev pub OpenedMachinesRest : Type 0
OpenedMachinesRest =
    (s : State) (b : Beside) (ls : List Local) → MayOpen s b → MayBegin s b ls
    → RestsIn s b (system_of s b ls) × IsOpening (setup_of s b) (system_of s b ls)

-- what was opened closes into what it was
abbrev pub OpenedMachinesClose : Type 0
OpenedMachinesClose =
    (s : State) (b : Beside) (ls : List Local) → MayOpen s b → MayBegin s b ls
    → Closes s b (system_of s b ls) s b

-- ---- between calls

-- with some chains and strings in hand, of which there are none between calls
pub record AllStands (m : Setup) (system : System) : Type 0 where
  pub workers : List Worker
  pub locals : map (λ (x : Worker). x.local) workers ≡ system.locals
  pub stands : Stands (world_of m system.value system.words) workers

-- in whatever words coherent lists rest, and whatever the workers hold, all stands
abbrev pub CoherentListsStand : Type 0
CoherentListsStand =
    (s : State) (b : Beside) (system : System)
    → plain.IsCoherent s → IsBeside s b → RestsIn s b system → AllStands (setup_of s b) system

-- a machine rests in no two lists
abbrev pub WordsTellLists : Type 0
WordsTellLists =
    (s t : State) (b d : Beside) (system : System)
    → setup_of s b ≡ setup_of t d → RestsIn s b system → RestsIn t d system → AreAlike s t

-- ---- closing

-- the lists that a coherent machine closes into are coherent; and with all objects on the board
-- they may be opened again
abbrev pub ClosedMachinesAreCoherent : Type 0
ClosedMachinesAreCoherent =
    (s t : State) (b d : Beside) (opening : World) (system : System)
    → MayOpen s b → IsCoherentSystem (setup_of s b) opening system → Closes s b system t d
    → plain.IsCoherent t × MayOpen (all_on_board t) d

-- and there are such lists
abbrev pub MachinesClose : Type 0
MachinesClose =
    (s : State) (b : Beside) (opening : World) (system : System)
    → MayOpen s b → IsCoherentSystem (setup_of s b) opening system → MayClose s b system
    → (t : State) × (d : Beside) × Closes s b system t d

-- so it is after every round, in whatever order its workers made their turns
abbrev pub RoundsKeepLists : Type 0
RoundsKeepLists =
    (s t : State) (b d : Beside) (ls : List Local) (picks : List Pick)
    → MayOpen s b → MayBegin s b ls
    → Closes s b (run (setup_of s b) (begun (setup_of s b) (system_of s b ls)) picks) t d
    → plain.IsCoherent t × MayOpen (all_on_board t) d
