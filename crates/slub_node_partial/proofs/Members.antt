-- Lists in a strict order are told by their members.
use Rattle.std.proofs.Common.{◌≡◌, zero, suc, ◌⊎◌, List, [], ◌∷◌, refl, sym, ◌∙◌, ap, subst, inl, inr, arith, Contains, AllPairs, IsPermutation}
use Rattle.std.proofs.lemmas.List.Sorted.{Contains-permutation, IsPermutation-sym}

-- a member is the first or one of the others
member_cases : {X : Type 0} (x : X) (xs : List X) (z : X) → Contains (x ∷ xs) z → (x ≡ z) ⊎ Contains xs z
member_cases x xs z (zero, less, is) = inl is
member_cases x xs z (suc k, less, is) = inr (k, omega arith, is)

-- one of the others is a member
later_member : {X : Type 0} (x : X) (xs : List X) (z : X) → Contains xs z → Contains (x ∷ xs) z
later_member x xs z (k, less, is) = (suc k, omega arith, is)

-- the first stands before each of the others
first_before : {X : Type 0} (R : X → X → Type 0) (x : X) (xs : List X) (z : X) → AllPairs R (x ∷ xs) → Contains xs z → R x z
first_before R x xs z pairs (k, less, is) = subst (λ y. R x y) is (pairs 0 (suc k) z (omega arith) (omega arith))

-- the others are in order
rest_in_order : {X : Type 0} (R : X → X → Type 0) (x : X) (xs : List X) → AllPairs R (x ∷ xs) → AllPairs R xs
rest_in_order R x xs pairs i j d less within = pairs (suc i) (suc j) d (omega arith) (omega arith)

-- two first members that are members of each other's lists are one
firsts_same : {X : Type 0} (R : X → X → Type 0) (one_way : (a b : X) → R a b → R b a → ⊥) (x : X) (xs : List X) (y : X) (ys : List X)
    → AllPairs R (x ∷ xs) → AllPairs R (y ∷ ys) → (x ≡ y) ⊎ Contains xs y → (y ≡ x) ⊎ Contains ys x → x ≡ y
firsts_same R one_way x xs y ys up over (inl same) other = same
firsts_same R one_way x xs y ys up over (inr later) (inl same) = sym same
firsts_same R one_way x xs y ys up over (inr later) (inr behind) = absurd (one_way x y (first_before R x xs y up later) (first_before R y ys x over behind))

-- a later member of one list is a later member of the other
later_in : {X : Type 0} (R : X → X → Type 0) (one_way : (a b : X) → R a b → R b a → ⊥) (x : X) (xs : List X) (y : X) (ys : List X) (z : X)
    → AllPairs R (x ∷ xs) → x ≡ y → Contains xs z → (y ≡ z) ⊎ Contains ys z → Contains ys z
later_in R one_way x xs y ys z up same later (inr behind) = behind
later_in R one_way x xs y ys z up same later (inl is) =
    let before : R x z = first_before R x xs z up later in
    let itself : R x x = subst (λ w. R x w) (sym (same ∙ is)) before in
    absurd (one_way x x itself itself)

-- two lists in a strict order with the same members are one
same_members : {X : Type 0} (R : X → X → Type 0) (one_way : (a b : X) → R a b → R b a → ⊥) (xs ys : List X)
    → AllPairs R xs → AllPairs R ys → ((z : X) → Contains xs z → Contains ys z) → ((z : X) → Contains ys z → Contains xs z) → xs ≡ ys
same_members R one_way [] [] up over into from = refl
same_members R one_way [] (y ∷ ys) up over into from = absurd (omega (arith, (from y (0, omega arith, refl)).1))
same_members R one_way (x ∷ xs) [] up over into from = absurd (omega (arith, (into x (0, omega arith, refl)).1))
same_members R one_way (x ∷ xs) (y ∷ ys) up over into from =
    let same : x ≡ y = firsts_same R one_way x xs y ys up over (member_cases x xs y (from y (0, omega arith, refl))) (member_cases y ys x (into x (0, omega arith, refl))) in
    let rest : xs ≡ ys = same_members R one_way xs ys (rest_in_order R x xs up) (rest_in_order R y ys over)
    (λ z later. later_in R one_way x xs y ys z up same later (member_cases y ys z (into z (later_member x xs z later))))
    (λ z later. later_in R one_way y ys x xs z over (sym same) later (member_cases x xs z (from z (later_member y ys z later)))) in
    ap (λ w. w ∷ xs) same ∙ ap (λ ws. y ∷ ws) rest

-- one list has one strict order
pub one_order : {X : Type 0} (R : X → X → Type 0) (one_way : (a b : X) → R a b → R b a → ⊥) (all xs ys : List X)
    → IsPermutation all xs → IsPermutation all ys → AllPairs R xs → AllPairs R ys → xs ≡ ys
one_order R one_way all xs ys here there up over =
    same_members R one_way xs ys up over (λ z member. Contains-permutation all ys z there (Contains-permutation xs all z (IsPermutation-sym all xs here) member))
    (λ z member. Contains-permutation all xs z here (Contains-permutation ys all z (IsPermutation-sym all ys there) member))
