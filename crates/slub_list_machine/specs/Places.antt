-- The slabs' own freelists in one room: each frame has 512 places there.
use Rattle.std.specs.Prelude.{ℕ, ◌-◌, ◌*◌, ◌≤◌, List, length, map, take, drop, reverse, slice_index_or}
use Rattle.std.specs.List.{range_with_len}

-- a list stands in the first places of its frame, back to front
abbrev pub own_at : List ℕ → ℕ → ℕ → List ℕ
own_at room frame count = reverse (take count (drop (512 * frame) room))

-- by how many places of each frame are used
abbrev pub own_lists : List ℕ → List ℕ → List (List ℕ)
own_lists room counts =
    map (λ frame. own_at room frame (slice_index_or counts frame 0))
    (range_with_len 0 (length counts))

-- the used places of a frame are stored, and are no other frame's; so many may be stored in all
pub record IsStored (room counts : List ℕ) (places : ℕ) : Type 0 where
  pub within : (frame : ℕ) → slice_index_or counts frame 0 ≤ 512
  pub stored : (frame : ℕ) → slice_index_or counts frame 0 ≤ length room - 512 * frame
  pub all : 512 * length counts ≤ places
