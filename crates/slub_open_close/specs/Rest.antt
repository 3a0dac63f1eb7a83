-- What waits for the end of a round, so that closing takes no memory.
use Rattle.std.specs.Prelude.{◌≡◌, ℕ, ◌*◌, ◌<◌, ◌≤◌, [], length, slice_index_or, vec_capacity, None}
use Rattle.slub_lists.specs.State.{State}
use Rattle.slub_open_close.specs.declared.opened.Rest.{Rest}
use Rattle.slub_open_close.specs.declared.opened.KeptNode.{KeptNode}
use Rattle.slub_open_close.specs.Values.{has_node, IsKeptOf}

-- the vectors of the lists, whatever stands in them, with what the round leaves as it is. The words
-- of the frames are out, in the table
pub record IsRestOf (s : State) (rest : Rest) : Type 0 where
  pub frames : rest.frames ≡ s.frames
  pub cpus : rest.cpus ≡ s.cpus
  pub table : rest.table ≡ s.table
  pub slabs : length rest.slabs.items ≡ s.frames
  pub frees : length rest.frees ≡ s.frames
  pub cpu_lists : length rest.cpu_lists.items ≡ 32 * s.cpus
  pub board : length rest.board.items ≡ length s.board
  pub gone : length rest.gone.items ≡ length s.board
  pub live : length rest.live.items ≡ 32
  pub tids : length rest.tids.items ≡ 512
  pub links : length rest.links.items ≡ s.frames
  -- the node lists and the checked slabs are out
  pub nodes : (rest.nodes.items ≡ []) × (32 ≤ vec_capacity rest.nodes)
  pub checked : length rest.checked.items ≡ 32
  pub taken : (cache : ℕ) → slice_index_or rest.checked.items cache None ≡ None
  -- of a cache whose lock guards its node list the room for its counts is kept, else the list,
  -- which is empty
  pub kept : length rest.kept.items ≡ 32
  pub kept_node : (cache : ℕ) (otherwise : KeptNode) → cache < 32
      → IsKeptOf (has_node s.table s.checked cache) []
      (slice_index_or rest.kept.items cache otherwise)

-- but for what is out, the vectors have what the lists had
pub record IsUntouched (s : State) (rest : Rest) : Type 0 where
  pub slabs : rest.slabs.items ≡ s.slabs
  pub frees : rest.frees ≡ s.frees
  pub cpu_lists : rest.cpu_lists.items ≡ s.cpu_lists
  pub board : rest.board.items ≡ s.board
  pub gone : rest.gone.items ≡ s.gone
  pub live : rest.live.items ≡ s.live
