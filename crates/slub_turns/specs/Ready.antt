-- When the workers of a machine may make their turns.
use Rattle.std.specs.Prelude.{◌≡◌, ℕ, zero, suc, cond, not, ◌&&◌, List, map, Option}
use Rattle.std.specs.List.{range_with_len}
use Rattle.slub_object_layout.specs.declared.layout.Flags.{Flags}
use Rattle.slub_core.specs.Setup.{Setup}
use Rattle.slub_core.specs.World.{World}
use Rattle.slub_core.specs.Local.{Local}
use Rattle.slub_core.specs.Run.{System}
use Rattle.slub_core.specs.Law.{IsCoherentSystem}
use Rattle.slub_core.specs.Facts.{Facts, setup_of}
use Rattle.slub_core.specs.declared.guarded.Guarded.{Guarded}
use Rattle.slub_core.specs.Values.{rooms_of}
use Rattle.slub_schedule.specs.Table.{WordTable}
use Rattle.slub_turns.specs.Means.{the_means}
use Rattle.slub_law_opening.specs.Bounded.{IsBounded}
use Rattle.slub_turns.specs.Fits.{HasRooms}
use Rattle.slub_turns.specs.System.{system_of, IsTableFor}

-- the machine is coherent since some opening, and what its workers count stays within bounds.
-- `flags`: flags that the slabs of some caches keep
pub record MayTurn (m : Setup) (s : System) : Type 0 where
  pub opening : World
  pub coherent : IsCoherentSystem m opening s
  pub flags : ℕ → Option Flags
  pub bounded : IsBounded m flags s

-- the room of what a lock guards: for all slabs of a machine where it is a node list
abbrev pub room_for : Setup → ℕ → ℕ
room_for m zero = 0
room_for m (suc cache) = cond (m.lives cache && not (m.checks cache)) 4095 0

abbrev pub rooms_for : Setup → List ℕ
rooms_for m = map (room_for m) (range_with_len 0 33)

-- as a program has it
pub record IsReady (facts : Facts) (table : WordTable) (guarded : List Guarded)
    (locals : List Local) : Type 0 where
  pub may : MayTurn (setup_of facts the_means) (system_of table guarded locals)
  pub sizes : IsTableFor facts table
  pub rooms : HasRooms (setup_of facts the_means) (rooms_of guarded)
  pub full : rooms_of guarded ≡ rooms_for (setup_of facts the_means)
