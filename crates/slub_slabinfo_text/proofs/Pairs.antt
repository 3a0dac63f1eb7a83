-- Two lists side by side, of which a pair gives a piece of a text.
use Rattle.std.proofs.Common.{◌≡◌, ℕ, ◌+◌, ◌<◌, List, [], ◌++◌, length, take, drop, flat_map, get_or, refl, sym, ◌∙◌, ap, append_assoc, take-append-drop}
use Rattle.std.specs.List.{zip}
use Rattle.std.proofs.lemmas.Grind.{flat_map-append}
use Rattle.slub_slabinfo_text.proofs.Zips.{pieces_more}

-- the text is what the pairs before one give, the piece of the pair, and what those behind it give
pub pieces_split : {A B C : Type 0} (f : A × B → List C) (xs : List A) (ys : List B) (i : ℕ) (x : A) (y : B)
    → i < length xs → i < length ys → x ≡ get_or xs i x → y ≡ get_or ys i y
    → flat_map f (zip xs ys) ≡ flat_map f (take i (zip xs ys)) ++ (f (x, y) ++ flat_map f (drop (i + 1) (zip xs ys)))
pieces_split f xs ys i x y in_xs in_ys at_x at_y =
    let zs = zip xs ys in
    let more = pieces_more f xs ys i x y [] (flat_map f (take i zs)) (flat_map f (take i zs) ++ f (x, y)) in_xs in_ys at_x at_y refl refl in
    ap (flat_map f) (sym (take-append-drop (i + 1) zs)) ∙ flat_map-append f (take (i + 1) zs) (drop (i + 1) zs)
    ∙ ap (λ front. front ++ flat_map f (drop (i + 1) zs)) (sym more) ∙ append_assoc (flat_map f (take i zs)) (f (x, y)) (flat_map f (drop (i + 1) zs))
