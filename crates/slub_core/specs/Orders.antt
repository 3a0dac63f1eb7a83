-- The order into which shrinking brings a node list, by insertion.
use Rattle.std.specs.Prelude.{ℕ, not, nat_lt, if◌then◌else◌, List, [], ◌∷◌, ◌++◌, map, filter}
use Rattle.slub_node_partial.specs.declared.promotion.Slab.{Slab}
use Rattle.slub_node_partial.specs.Promotion.{slabs_of, is_promoted}

-- behind all that have as many free objects or fewer
abbrev pub put_in : Slab → List Slab → List Slab
put_in slab [] = slab ∷ []
put_in slab (other ∷ others) =
    if nat_lt slab.free other.free then slab ∷ other ∷ others else other ∷ put_in slab others

abbrev pub in_order : List Slab → List Slab
in_order [] = []
in_order (slab ∷ slabs) = put_in slab (in_order slabs)

abbrev pub promote_of : List ℕ → List ℕ → List ℕ
promote_of frames counts =
    map (λ (slab : Slab). slab.frame) (in_order (filter is_promoted (slabs_of frames counts))
    ++ filter (λ (slab : Slab). not (is_promoted slab)) (slabs_of frames counts))
