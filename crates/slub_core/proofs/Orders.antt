-- Insertion brings the promoted slabs into their order.
use Rattle.std.proofs.Common.{suc, ◌<◌, ◌≤◌, inl, inr, nat_lt, List, [], ◌∷◌, All, filter, AllPairs, IsPermutation, refl, arith}
use Rattle.std.proofs.lemmas.Bool.{cases_Bool, cases_order, ltb-true, ltb-false}
use Rattle.std.proofs.lemmas.List.Elements.{All-nil, All-cons, All-head, All-tail, All-from_get_or, All-weaker}
use Rattle.std.proofs.lemmas.List.Kept.{AllPairs-cons, AllPairs-filter}
use Rattle.std.proofs.lemmas.List.Sorted.{IsPermutation-refl, IsPermutation-cons, IsPermutation-trans, IsPermutation-middle, All-permutation}
use Rattle.slub_node_partial.specs.declared.promotion.Slab.{Slab}
use Rattle.slub_node_partial.specs.Promotion.{slabs_of, is_promoted, GoesBefore}
use Rattle.slub_node_partial.proofs.Gathered.{rising}
use Rattle.slub_core.specs.Orders.{put_in, in_order}
use Rattle.slub_core.specs.Laws.{ListsArePromoted}

-- ---- pairs of a list

pairs_none : (R : Slab → Slab → Type 0) → AllPairs R []
pairs_none R i j d less within = absurd (omega arith)

pairs_head : (R : Slab → Slab → Type 0) (x : Slab) (xs : List Slab) → AllPairs R (x ∷ xs) → All (R x) xs
pairs_head R x xs pairs = All-from_get_or (R x) xs x (λ i within. pairs 0 (suc i) x (omega arith) (omega arith))

pairs_tail : (R : Slab → Slab → Type 0) (x : Slab) (xs : List Slab) → AllPairs R (x ∷ xs) → AllPairs R xs
pairs_tail R x xs pairs i j d less within = pairs (suc i) (suc j) d (omega arith) (omega arith)

-- ---- one slab is put in

same_put : (slab : Slab) (others : List Slab) → IsPermutation (slab ∷ others) (put_in slab others)
same_put slab [] = IsPermutation-refl (slab ∷ [])
same_put slab (other ∷ others) = elim (cases_Bool (nat_lt slab.free other.free)) [
  | inl so ↦ rw so (IsPermutation-refl (slab ∷ other ∷ others))
  | inr not_so ↦ rw not_so (IsPermutation-trans _ _ _ (IsPermutation-middle (slab ∷ []) other others) (IsPermutation-cons other _ _ (same_put slab others)))
]

abbrev Before : Slab → Slab → Type 0
Before slab other = slab.place < other.place

less_free : (slab other next : Slab) → slab.free < other.free → GoesBefore other next → GoesBefore slab next
less_free slab other next less (inl more) = inl (omega arith)
less_free slab other next less (inr (same, behind)) = inl (omega arith)

stays_before : (slab other : Slab) → Before slab other → other.free ≤ slab.free → GoesBefore other slab
stays_before slab other place free = elim (cases_order other.free slab.free) [
  | inl same ↦ inr (same, place)
  | inr (inl less) ↦ inl less
  | inr (inr more) ↦ absurd (omega arith)
]

sorted_put : (slab : Slab) (others : List Slab) → All (Before slab) others → AllPairs GoesBefore others → AllPairs GoesBefore (put_in slab others)
sorted_put slab [] places sorted = AllPairs-cons GoesBefore slab [] (All-nil (GoesBefore slab)) (pairs_none GoesBefore)
sorted_put slab (other ∷ others) places sorted =
    let after : All (GoesBefore other) others = pairs_head GoesBefore other others sorted in
    let rest : AllPairs GoesBefore others = pairs_tail GoesBefore other others sorted in
    elim (cases_Bool (nat_lt slab.free other.free)) [
      | inl so ↦
          let less : slab.free < other.free = ltb-true slab.free other.free so in
          let all : All (GoesBefore slab) (other ∷ others) = All-cons (GoesBefore slab) other others (inl less) (All-weaker (GoesBefore other) (GoesBefore slab) (λ (next : Slab). less_free slab other next less) others after) in
          rw so (AllPairs-cons GoesBefore slab (other ∷ others) all sorted)
      | inr not_so ↦
          let free : other.free ≤ slab.free = ltb-false slab.free other.free not_so in
          let front : GoesBefore other slab = stays_before slab other (All-head (Before slab) other others places) free in
          let all : All (GoesBefore other) (put_in slab others) = All-permutation (GoesBefore other) (slab ∷ others) (put_in slab others) (same_put slab others) (All-cons (GoesBefore other) slab others front after) in
          rw not_so (AllPairs-cons GoesBefore other (put_in slab others) all (sorted_put slab others (All-tail (Before slab) other others places) rest))
    ]

-- ---- all of them

same_order : (slabs : List Slab) → IsPermutation slabs (in_order slabs)
same_order [] = IsPermutation-refl []
same_order (slab ∷ slabs) = IsPermutation-trans _ _ _ (IsPermutation-cons slab _ _ (same_order slabs)) (same_put slab (in_order slabs))

sorted_order : (slabs : List Slab) → AllPairs Before slabs → AllPairs GoesBefore (in_order slabs)
sorted_order [] places = pairs_none GoesBefore
sorted_order (slab ∷ slabs) places =
    sorted_put slab (in_order slabs) (All-permutation (Before slab) slabs (in_order slabs) (same_order slabs) (pairs_head Before slab slabs places))
    (sorted_order slabs (pairs_tail Before slab slabs places))

pub lists_are-promoted : ListsArePromoted
lists_are-promoted frames counts same = record {
  front = in_order (filter is_promoted (slabs_of frames counts));
  same = same_order (filter is_promoted (slabs_of frames counts));
  sorted = sorted_order (filter is_promoted (slabs_of frames counts)) (AllPairs-filter Before is_promoted (slabs_of frames counts) (rising frames counts same));
  is = refl;
}
