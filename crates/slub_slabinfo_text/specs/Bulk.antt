-- The order in which a bulk free frees (`build_detached_freelist`).
use Rattle.std.specs.Prelude.{ℕ, ◌==◌, not, List, [], ◌∷◌, map, filter, flat_map}

-- the slabs of objects, each once, in the order of their first objects; an object is its number and
-- its slab's first frame
abbrev pub slabs_among : List (ℕ × ℕ) → List ℕ
slabs_among [] = []
slabs_among (place ∷ places) =
    place.1 ∷ filter (λ frame. not (place.1 == frame)) (slabs_among places)

-- the objects of a slab, in their order
abbrev pub objects_of_slab : List (ℕ × ℕ) → ℕ → List ℕ
objects_of_slab places frame = map (λ place. place.0) (filter (λ place. place.1 == frame) places)

-- slab by slab
abbrev pub free_order : List (ℕ × ℕ) → List ℕ
free_order places = flat_map (objects_of_slab places) (slabs_among places)
