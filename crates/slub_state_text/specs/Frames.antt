-- Frames that slabs have, for proofs and private clauses.
use Rattle.std.specs.Prelude.{ℕ, ◌+◌, ◌^◌, max, Option, Some, None}
use Rattle.slub_lists.specs.declared.lists.Slab.{Slab}

-- the first frame behind the slab that begins at a frame
abbrev pub end_of : ℕ → Option Slab → ℕ
end_of frame None = 0
end_of frame (Some slab) = frame + 2 ^ slab.order

-- the same, where a slab before may reach farther
abbrev pub past : ℕ → ℕ → Option Slab → ℕ
past before frame slab = max before (end_of frame slab)
