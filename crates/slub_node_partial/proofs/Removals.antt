-- What follows from taking a frame out of a list.
use Rattle.std.proofs.Common.{◌≡◌, ℕ, suc, List, [], ◌∷◌, ◌++◌, get_or, drop, sym, ◌∙◌, ap, subst, arith, Contains, IsPermutation}
use Rattle.std.proofs.lemmas.List.Sorted.{IsPermutation-middle}
use Rattle.slub_node_partial.specs.PartialList.{IsTakenOut}

-- a list is parted at the first such frame in one way
same_parts : (frame : ℕ) (front rest other tail : List ℕ) → ¬ Contains front frame → ¬ Contains other frame → front ++ frame ∷ rest ≡ other ++ frame ∷ tail → front ++ rest ≡ other ++ tail
same_parts frame [] rest [] tail first again same = ap (λ (xs : List ℕ). drop 1 xs) same
same_parts frame [] rest (y ∷ other) tail first again same = absurd (again (0, omega arith, sym (ap (λ (xs : List ℕ). get_or xs 0 0) same)))
same_parts frame (x ∷ front) rest [] tail first again same = absurd (first (0, omega arith, ap (λ (xs : List ℕ). get_or xs 0 0) same))
same_parts frame (x ∷ front) rest (y ∷ other) tail first again same =
    let behind : front ++ rest ≡ other ++ tail = same_parts frame front rest other tail (λ member. first (suc member.0, omega (arith, member.1), member.2)) (λ member. again (suc member.0, omega (arith, member.1), member.2))
    (ap (λ (xs : List ℕ). drop 1 xs) same) in
    ap (λ (z : ℕ). z ∷ (front ++ rest)) (ap (λ (xs : List ℕ). get_or xs 0 0) same) ∙ ap (λ (xs : List ℕ). y ∷ xs) behind

-- a removal leaves one list
pub unique_rest : (before : List ℕ) (frame : ℕ) (one other : List ℕ) → IsTakenOut before frame one → IsTakenOut before frame other → one ≡ other
unique_rest before frame one other a b = a.is ∙ same_parts frame a.front a.rest b.front b.rest a.first b.first (sym a.was ∙ b.was) ∙ sym b.is

-- the frame and what is left are the list
pub one_taken : (before : List ℕ) (frame : ℕ) (after : List ℕ) → IsTakenOut before frame after → IsPermutation before (frame ∷ after)
one_taken before frame after taken =
    let parted : IsPermutation before (frame ∷ (taken.front ++ taken.rest)) = subst (λ (xs : List ℕ). IsPermutation xs (frame ∷ (taken.front ++ taken.rest))) (sym taken.was) (IsPermutation-middle taken.front frame taken.rest) in
    subst (λ (xs : List ℕ). IsPermutation before (frame ∷ xs)) (sym taken.is) parted
