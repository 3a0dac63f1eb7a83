-- The order in which shrinking leaves a node's partial list (`__kmem_cache_do_shrink`).
use Rattle.std.specs.Prelude.{◌≡◌, ℕ, suc, ◌<◌, ◌⊎◌, Bool, not, ◌&&◌, nat_le, List, [], ◌∷◌, ◌++◌, map, filter, AllPairs, IsPermutation}
use Rattle.slub_node_partial.specs.declared.promotion.Slab.{Slab}

-- the slabs from a place on, by their frames and their numbers of free objects
abbrev pub slabs_from : ℕ → List ℕ → List ℕ → List Slab
slabs_from place [] counts = []
slabs_from place (frame ∷ frames) [] = []
slabs_from place (frame ∷ frames) (free ∷ counts) =
    record { place = place; frame = frame; free = free } ∷ slabs_from (suc place) frames counts

-- the slabs of a list
abbrev pub slabs_of : List ℕ → List ℕ → List Slab
slabs_of = slabs_from 0

-- 1 to 32 of its objects are free (`SHRINK_PROMOTE_MAX`; that one without free objects stays behind
-- is profile)
abbrev pub is_promoted : Slab → Bool
is_promoted slab = nat_le 1 slab.free && nat_le slab.free 32

-- of two promoted slabs the one with fewer free objects comes first, and among equals the one that
-- stood behind
abbrev pub GoesBefore : Slab → Slab → Type 0
GoesBefore one other =
    (one.free < other.free) ⊎ ((one.free ≡ other.free) × (other.place < one.place))

-- the promoted slabs stand in front, in their order, and the others follow as they stood
pub record IsPromoted (frames counts after : List ℕ) : Type 0 where
  pub front : List Slab
  pub same : IsPermutation (filter is_promoted (slabs_of frames counts)) front
  pub sorted : AllPairs GoesBefore front
  pub is :
      let others = filter (λ slab. not (is_promoted slab)) (slabs_of frames counts) in
      after ≡ map (λ slab. slab.frame) (front ++ others)
