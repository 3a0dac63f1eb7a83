-- The slabs of a list, and what follows from their order after promotion.
use Rattle.std.proofs.Common.{◌≡◌, ℕ, suc, not, List, [], ◌∷◌, ◌++◌, length, map, filter, refl, sym, ◌∙◌, ap, subst, inl, inr, arith, IsPermutation}
use Rattle.std.proofs.lemmas.List.Sorted.{IsPermutation-trans, IsPermutation-map, IsPermutation-append_left, IsPermutation-filter_both}
use Rattle.slub_node_partial.specs.declared.promotion.Slab.{Slab}
use Rattle.slub_node_partial.specs.Promotion.{slabs_from, slabs_of, is_promoted, GoesBefore, IsPromoted}
use Rattle.slub_node_partial.proofs.Members.{one_order}

-- of two slabs only one goes before the other
pub goes_one_way : (a b : Slab) → GoesBefore a b → GoesBefore b a → ⊥
goes_one_way a b (inl less) (inl more) = omega arith
goes_one_way a b (inl less) (inr more) = omega (arith, more.0)
goes_one_way a b (inr less) (inl more) = omega (arith, less.0)
goes_one_way a b (inr less) (inr more) = omega (arith, less.1, more.1)

-- the frames of the slabs of a list
frames_from : (place : ℕ) (frames counts : List ℕ) → length counts ≡ length frames → map (λ (slab : Slab). slab.frame) (slabs_from place frames counts) ≡ frames
frames_from place [] counts as_many = refl
frames_from place (frame ∷ frames) [] as_many = absurd (omega (arith, as_many))
frames_from place (frame ∷ frames) (free ∷ counts) as_many = ap (λ (fs : List ℕ). frame ∷ fs) (frames_from (suc place) frames counts (omega arith))

-- promotion leaves one order
pub unique : (frames counts one other : List ℕ) → IsPromoted frames counts one → IsPromoted frames counts other → one ≡ other
unique frames counts one other a b =
    let front : a.front ≡ b.front = one_order GoesBefore goes_one_way (filter is_promoted (slabs_of frames counts)) a.front b.front a.same b.same a.sorted b.sorted in
    a.is ∙ ap (λ (slabs : List Slab). map (λ (slab : Slab). slab.frame) (slabs ++ filter (λ slab. not (is_promoted slab)) (slabs_of frames counts))) front ∙ sym b.is

-- promotion moves slabs only
pub keeps : (frames counts after : List ℕ) → length counts ≡ length frames → IsPromoted frames counts after → IsPermutation frames after
keeps frames counts after as_many a =
    let slabs = slabs_of frames counts in
    let others = filter (λ (slab : Slab). not (is_promoted slab)) slabs in
    let parted : IsPermutation slabs (filter is_promoted slabs ++ others) = IsPermutation-filter_both is_promoted (λ slab. not (is_promoted slab)) (λ _. refl) slabs in
    let sorted : IsPermutation (filter is_promoted slabs ++ others) (a.front ++ others) = IsPermutation-append_left others (filter is_promoted slabs) a.front a.same in
    let frame : Slab → ℕ = λ slab. slab.frame in
    let moved : IsPermutation (map frame slabs) (map frame (a.front ++ others)) = IsPermutation-map frame slabs (a.front ++ others) (IsPermutation-trans slabs (filter is_promoted slabs ++ others) (a.front ++ others) parted sorted) in
    subst (λ (xs : List ℕ). IsPermutation xs after) (frames_from 0 frames counts as_many) (subst (λ (ys : List ℕ). IsPermutation (map frame slabs) ys) (sym a.is) moved)
