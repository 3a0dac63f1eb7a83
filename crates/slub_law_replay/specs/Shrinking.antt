-- Which slabs shrinking a cache leaves, and in which order.
use Rattle.std.specs.Prelude.{◌≡◌, ℕ, ◌==◌, ◌↔◌, not, Bool, true, List, length, map, Some, None, MatchOption, Contains}
use Rattle.std.specs.List.{filter}
use Rattle.slub_node_partial.specs.Promotion.{IsPromoted}
use Rattle.slub_red_zone.specs.State.{CheckedState, slab_of as checked_slab}
use Rattle.slub_lists.specs.State.{State}
use Rattle.slub_lists.specs.Alloc.{cache_of, checked_of, node_of, own_free, slab_of}
use Rattle.slub_lists.specs.Free.{inuse_of}
use Rattle.slub_lists.specs.Shrink.{all_free, flushed_below}

-- an object of the slab is in use
abbrev pub is_in_use : State → ℕ → Bool
is_in_use s frame = not (inuse_of s frame == 0)

-- the slabs of the node list with an object in use, in their order
abbrev pub used_of : State → ℕ → List ℕ
used_of s cache = filter (is_in_use s) (node_of s cache)

-- of a cache whose CPUs have nothing any more: the node list after is the promotion of its slabs
-- with an object in use, and exactly the others are gone
pub record LeavesUsed (s : State) (cache : ℕ) (after : State) : Type 0 where
  pub order : IsPromoted (used_of s cache)
      (map (λ frame. length (own_free s frame)) (used_of s cache)) (node_of after cache)
  pub gone : (frame : ℕ) → Contains (node_of s cache) frame
      → (slab_of after frame ≡ None) ↔ (inuse_of s frame ≡ 0)

-- the listed slabs of a checked cache with an object that isn't free, in their order
abbrev pub used_in : CheckedState → List ℕ
used_in slabs = filter (λ frame. not (all_free slabs frame)) slabs.listed

-- the same of a checked cache and its listed slabs
pub record LeavesUsedListed (slabs : CheckedState) (cache : ℕ) (after : State) : Type 0 where
  pub now : CheckedState
  pub there : checked_of after cache ≡ Some now
  pub order : IsPromoted (used_in slabs)
      (map (λ frame. length (checked_slab slabs frame).free) (used_in slabs)) now.listed
  pub gone : (frame : ℕ) → Contains slabs.listed frame
      → (slab_of after frame ≡ None) ↔ (all_free slabs frame ≡ true)

-- a cache that was shrunk: one that isn't checked after its CPUs were flushed, from CPU 0 on
abbrev pub LeavesUsedSlabs : State → ℕ → State → Type 0
LeavesUsedSlabs s cache after =
    MatchOption (cache_of s cache) ⊥ (λ live. MatchOption (checked_of s cache)
    (LeavesUsed (flushed_below s live.layout.min_partial cache s.cpus) cache after)
    (λ slabs. LeavesUsedListed slabs cache after))
