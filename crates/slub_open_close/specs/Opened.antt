-- A machine that is opened: what a round runs on is what the definitions of opening say.
use Rattle.std.specs.Prelude.{◌≡◌, ℕ, zero, suc, ◌+◌, ◌≤◌, false, [], length, map, replicate, vec_capacity}
use Rattle.std.specs.List.{range_with_len}
use Rattle.slub_lists.specs.State.{State}
use Rattle.slub_core.specs.Setup.{Means}
use Rattle.slub_core.specs.Facts as local
use Rattle.slub_core.specs.Values.{values_of, rooms_of}
use Rattle.slub_law_opening.specs.Opening.{setup_of, value_of, opened_words}
use Rattle.slub_law_opening.specs.Table.{words_of}
use Rattle.slub_open_close.specs.declared.beside.Beside.{Beside}
use Rattle.slub_open_close.specs.declared.opened.Opened.{Opened}
use Rattle.slub_open_close.specs.declared.opening.Room.{Room}
use Rattle.slub_open_close.specs.Beside.{beside_of}
use Rattle.slub_open_close.specs.Facts.{facts_of}
use Rattle.slub_open_close.specs.Rest.{IsRestOf}
use Rattle.slub_open_close.specs.Values.{room_at}

-- the room of the node list behind a lock: for all slabs of a machine; 0 where there is none
abbrev pub room_of : State → ℕ → ℕ
room_of s zero = 0
room_of s (suc cache) = room_at s.table s.checked cache

pub record IsOpened (s : State) (b : Beside) (o : Opened) : Type 0 where
  pub setup : (means : Means) → local.setup_of o.setup means ≡ setup_of s (beside_of b means)
  pub frames : o.table.frames ≡ s.frames
  pub objects : o.table.objects ≡ length s.board
  pub words : (means : Means) → o.table.words ≡ words_of (opened_words s (beside_of b means))
  pub values : values_of o.values.items ≡ value_of s
  pub rooms : rooms_of o.values.items ≡ map (room_of s) (range_with_len 0 33)
  pub rest : IsRestOf s o.rest

-- the memory that opening takes
pub record IsRoomFor (s : State) (step : ℕ) (room : Room) : Type 0 where
  pub setup : room.setup ≡ facts_of s step
  pub words : (room.words.items ≡ [])
      × (1056 + s.frames + length s.board ≤ vec_capacity room.words)
  pub links : (room.links.items ≡ []) × (s.frames ≤ vec_capacity room.links)
  pub marks : room.marks.items ≡ replicate s.frames false
  pub values : (room.values.items ≡ []) × (33 ≤ vec_capacity room.values)
  pub kept : (room.kept.items ≡ []) × (32 ≤ vec_capacity room.kept)
