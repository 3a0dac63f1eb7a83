-- Live names behind several creations.
use Rattle.std.proofs.Common.{◌≡◌, ℕ, ◌+◌, ◌<◌, min, List, [], ◌∷◌, ◌++◌, length, take, get_or, refl, sym, ◌∙◌, ap, arith}
use Rattle.std.specs.List.{fold, zip}
use Rattle.std.proofs.lemmas.List.{take_all, take_more}
use Rattle.std.proofs.lemmas.Slice.Zip.{length-zip, get_or-zip}

fold_both : {A B : Type 0} (f : B → A → B) (b : B) (xs ys : List A) → fold f b (xs ++ ys) ≡ fold f (fold f b xs) ys
fold_both f b [] ys = refl
fold_both f b (x ∷ xs) ys = fold_both f (f b x) xs ys

-- one more pair
pub pair_more : {A B C : Type 0} (f : C → A × B → C) (xs : List A) (ys : List B) (i : ℕ) (x : A) (y : B) (old now next : C)
    → i < length xs → i < length ys → x ≡ get_or xs i x → y ≡ get_or ys i y
    → now ≡ fold f old (take i (zip xs ys)) → next ≡ f now (x, y)
    → next ≡ fold f old (take (i + 1) (zip xs ys))
pair_more {A} {B} {C} f xs ys i x y old now next in_xs in_ys at_x at_y so_far grown =
    let within : i < length (zip xs ys) = omega (arith, length-zip xs ys) in
    let here : get_or (zip xs ys) i (x, y) ≡ (x, y) = get_or-zip xs ys i (x, y) in_xs in_ys ∙ cc in
    let longer : take (i + 1) (zip xs ys) ≡ take i (zip xs ys) ++ (x, y) ∷ [] =
    take_more (zip xs ys) i (x, y) within ∙ ap (λ (p : A × B). take i (zip xs ys) ++ p ∷ []) here in
    grown ∙ ap (λ (c : C). f c (x, y)) so_far ∙ sym (fold_both f old (take i (zip xs ys)) ((x, y) ∷ [])) ∙ ap (λ (ps : List (A × B)). fold f old ps) (sym longer)

-- all pairs are through
pub pairs_whole : {A B C : Type 0} (f : C → A × B → C) (xs : List A) (ys : List B) (i : ℕ) (old now : C)
    → i ≡ min (length xs) (length ys) → now ≡ fold f old (take i (zip xs ys)) → now ≡ fold f old (zip xs ys)
pairs_whole f xs ys i old now whole so_far =
    so_far ∙ ap (λ ps. fold f old ps) (take_all i (zip xs ys) (omega (arith, length-zip xs ys)))
