-- Two lists side by side.
use Rattle.std.proofs.Common.{◌≡◌, ℕ, ◌+◌, ◌<◌, min, List, [], ◌∷◌, ◌++◌, length, take, flat_map, get_or, refl, sym, ◌∙◌, ap, arith}
use Rattle.std.specs.List.{zip}
use Rattle.std.proofs.lemmas.List.{take_more}
use Rattle.std.proofs.lemmas.Grind.{flat_map-append, common_steps}
use Rattle.std.proofs.lemmas.Slice.Zip.{length-zip, get_or-zip}
use Rattle.std.proofs.lemmas.List.{append-nil, append_assoc, take_all}

-- one more element
pub length-snoc : {A : Type 0} (xs : List A) (x : A) → length (xs ++ x ∷ []) ≡ length xs + 1
length-snoc xs x = grind (arith, common_steps)

pub zip-snoc : {A B : Type 0} (xs : List A) (ys : List B) (x : A) (y : B) → length xs ≡ length ys → zip (xs ++ x ∷ []) (ys ++ y ∷ []) ≡ zip xs ys ++ (x, y) ∷ []
zip-snoc [] [] x y even = refl
zip-snoc [] (z ∷ ys) x y even = absurd (let never : ⊥ = omega arith in never)
zip-snoc (w ∷ xs) [] x y even = absurd (let never : ⊥ = omega arith in never)
zip-snoc {A} {B} (w ∷ xs) (z ∷ ys) x y even = ap (λ (pairs : List (A × B)). (w, z) ∷ pairs) (zip-snoc xs ys x y (omega arith))

-- one more pair: what it gives is appended
pub pieces_more : {A B C : Type 0} (f : A × B → List C) (xs : List A) (ys : List B) (i : ℕ) (x : A) (y : B) (old text all : List C)
    → i < length xs → i < length ys → x ≡ get_or xs i x → y ≡ get_or ys i y
    → text ≡ old ++ flat_map f (take i (zip xs ys)) → all ≡ text ++ f (x, y)
    → all ≡ old ++ flat_map f (take (i + 1) (zip xs ys))
pieces_more f xs ys i x y old text all in_xs in_ys at_x at_y so_far grown =
    let within : i < length (zip xs ys) = omega (arith, length-zip xs ys) in
    let here : get_or (zip xs ys) i (x, y) ≡ (x, y) = get_or-zip xs ys i (x, y) in_xs in_ys ∙ cc in
    rw (grown, so_far, take_more (zip xs ys) i (x, y) within, here, flat_map-append f (take i (zip xs ys)) ((x, y) ∷ []))
    (append_assoc old (flat_map f (take i (zip xs ys))) (f (x, y)) ∙ ap (λ rest. old ++ (flat_map f (take i (zip xs ys)) ++ rest)) (sym (append-nil (f (x, y)))))

-- all pairs are through
pub pieces_whole : {A B C : Type 0} (f : A × B → List C) (xs : List A) (ys : List B) (i : ℕ) (old text : List C)
    → i ≡ min (length xs) (length ys) → text ≡ old ++ flat_map f (take i (zip xs ys)) → text ≡ old ++ flat_map f (zip xs ys)
pieces_whole f xs ys i old text whole so_far =
    let all : take i (zip xs ys) ≡ zip xs ys = take_all i (zip xs ys) (omega (arith, length-zip xs ys)) in
    so_far ∙ ap (λ pairs. old ++ flat_map f pairs) all

-- the front of two lists
pub front_taken : {A : Type 0} (xs ys : List A) (n : ℕ) → n ≡ length xs → take n (xs ++ ys) ≡ xs
front_taken xs ys n long = rw long (grind (arith, common_steps))
