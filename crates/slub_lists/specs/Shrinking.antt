-- `__kmem_cache_shrink`, for proofs and private clauses: what the steps of shrinking leave.
use Rattle.std.specs.Prelude.{◌≡◌, ℕ, ◌<◌, Bool, false, List, []}
use Rattle.std.specs.Option.{option_map_or}
use Rattle.slub_common.specs.Times.{times}
use Rattle.slub_lists.specs.State.{State}
use Rattle.slub_lists.specs.Alloc.{checked_of, lists_of, no_lists, node_of}
use Rattle.slub_lists.specs.Free.{inuse_of}
use Rattle.slub_lists.specs.Leaving.{KeepsHeld}
use Rattle.slub_lists.specs.Shrink.{all_free}

-- what `KeepsHeld` says, and the checked caches are as before
pub record KeepsChecked (old new : State) : Type 0 where
  pub held : KeepsHeld old new
  pub checked : new.checked ≡ old.checked

-- no CPU has anything of the cache, and something of each slab of its node list is in use
pub record IsSwept (s : State) (cache : ℕ) : Type 0 where
  pub bare : (cpu : ℕ) → cpu < s.cpus → lists_of s cache cpu ≡ no_lists
  pub used : (frame : ℕ) → 0 < times frame (node_of s cache) → 0 < inuse_of s frame

-- the listed slabs of a checked cache
abbrev pub listed_of : State → ℕ → List ℕ
listed_of s cache = option_map_or (λ slabs. slabs.listed) (checked_of s cache) []

-- all objects of a slab of a checked cache are free
abbrev pub all_free_in : State → ℕ → ℕ → Bool
all_free_in s cache frame = option_map_or (λ slabs. all_free slabs frame) (checked_of s cache) false
