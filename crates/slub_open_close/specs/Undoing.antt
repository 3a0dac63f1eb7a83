-- A machine that was opened and on which nothing was done, which is put together again.
use Rattle.std.specs.Prelude.{◌≡◌, ℕ, List, map}
use Rattle.std.specs.List.{range_with_len}
use Rattle.slub_lists.specs.State.{State}
use Rattle.slub_lists.specs.Coherent.{IsCoherent}
use Rattle.slub_core.specs.declared.guarded.Guarded.{Guarded}
use Rattle.slub_core.specs.Values.{values_of, rooms_of}
use Rattle.slub_law_opening.specs.Opening.{value_of}
use Rattle.slub_open_close.specs.declared.opened.Rest.{Rest}
use Rattle.slub_open_close.specs.Opened.{room_of}
use Rattle.slub_open_close.specs.Rest.{IsRestOf, IsUntouched}

-- the locks guard what they guarded when s was opened, what waits is untouched, and these were the
-- words of the frames
pub record WasOpened (s : State) (guards : List Guarded) (rest : Rest)
    (memory : List ℕ) : Type 0 where
  pub coherent : IsCoherent s
  pub values : values_of guards ≡ value_of s
  pub rooms : rooms_of guards ≡ map (room_of s) (range_with_len 0 33)
  pub waiting : IsRestOf s rest
  pub still : IsUntouched s rest
  pub memory_is : memory ≡ s.memory
