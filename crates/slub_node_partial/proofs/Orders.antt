-- Sorted slabs stand in the order of promotion.
use Rattle.std.proofs.Common.{◌≡◌, ℕ, ◌<◌, ◌⊎◌, Bool, false, eqb, List, get_or, arith, AllPairs, IsPermutation, IsSortedBy}
use Rattle.std.specs.List.{IsDistinct}
use Rattle.std.specs.Cmp.{IsTotalOrder, IsStrictWeakOrder, nat_cmp_total, on_total, then_total, back_total}
use Rattle.std.specs.Ordering.{is_lt, nat_cmp, ordering_then}
use Rattle.std.proofs.lemmas.List.Sorted.{ranks_by, sorted_far}
use Rattle.std.proofs.lemmas.Map.Keys.{IsDistinct-from_apart, IsDistinct-IsPermutation, apart_from_distinct}
use Rattle.slub_node_partial.specs.declared.promotion.Slab.{Slab}
use Rattle.slub_node_partial.specs.Promotion.{GoesBefore}

-- fewer free objects first, and then the greater place
abbrev goes_first : Slab → Slab → Bool
goes_first a b = is_lt (ordering_then (nat_cmp a.free b.free) (nat_cmp b.place a.place))

-- two slabs at one place
abbrev share_place : Slab → Slab → Bool
share_place a b = eqb a.place b.place

-- it is an order
by_both : IsTotalOrder (λ (x y : ℕ × ℕ). ordering_then (nat_cmp x.0 y.0) (nat_cmp y.1 x.1))
by_both = then_total (on_total (λ (t : ℕ × ℕ). t.0) nat_cmp_total) (on_total (λ (t : ℕ × ℕ). t.1) (back_total nat_cmp_total))

ranks : IsStrictWeakOrder goes_first
ranks = ranks_by by_both (λ (slab : Slab). (slab.free, slab.place))

-- of two numbers that are not the same and not the other way round
numbers_go : (m n p q : ℕ) → is_lt (ordering_then (nat_cmp n m) (nat_cmp p q)) ≡ false → eqb p q ≡ false → (m < n) ⊎ ((m ≡ n) × (q < p))
numbers_go m n p q up apart = grind arith

-- slabs at different places that are sorted stand in the order of promotion
pub in_order : (before after : List Slab) → AllPairs (λ (one other : Slab). one.place < other.place) before → IsPermutation before after
    → IsSortedBy goes_first after → AllPairs GoesBefore after
in_order before after rising same sorted i j d less within =
    let apart : IsDistinct share_place before = IsDistinct-from_apart share_place before (λ k l e below inside. let low = rising k l e below inside in grind (arith, low)) in
    let still : IsDistinct share_place after = IsDistinct-IsPermutation share_place (λ a b. grind arith) before after same apart in
    numbers_go (get_or after i d).free (get_or after j d).free (get_or after i d).place (get_or after j d).place
    (sorted_far goes_first ranks after sorted i j d (omega arith) within) (apart_from_distinct share_place after i j d still less within)
