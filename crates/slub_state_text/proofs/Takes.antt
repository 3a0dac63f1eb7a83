-- The first elements of a list, and one more.
use Rattle.std.proofs.Common.{◌≡◌, ℕ, suc, ◌+◌, List, [], ◌∷◌, ◌++◌, take, get_or, flat_map, refl, sym, ap, ◌∙◌, arith, Some, Bool, true, false, append-nil}
use Rattle.std.specs.List.{slice_get, filter, range_with_len}
use Rattle.std.proofs.Math.Seq.{take-suc}
use Rattle.std.proofs.lemmas.List.{flat_map_more}
use Rattle.std.proofs.lemmas.List.Elements.{filter-append}
use Rattle.slub_red_zone.proofs.Times.{range-more}
use Rattle.std.proofs.lemmas.Option.{slice_get_within, get_or_from_slice_get}

pub take_next : {X : Type 0} (xs first : List X) (i : ℕ) (x : X) → slice_get xs i ≡ Some x → first ≡ take i xs
    → first ++ x ∷ [] ≡ take (i + 1) xs
take_next xs first i x is so =
    let within = slice_get_within xs i x is in
    let here : get_or xs i x ≡ x = get_or_from_slice_get xs i x x is in
    let next : take (suc i) xs ≡ take i xs ++ get_or xs i x ∷ [] = take-suc xs i x within in
    let turned : i + 1 ≡ suc i = omega arith in
    rw (so, turned, next, here) refl

-- one number more, from 0 on
pub range_next : (n : ℕ) → range_with_len 0 (n + 1) ≡ range_with_len 0 n ++ n ∷ []
range_next n = let at : 0 + n ≡ n = omega arith in range-more 0 n ∙ ap (λ m. range_with_len 0 n ++ m ∷ []) at

-- a text of one number more
pub text_next : (f : ℕ → List ℕ) (n : ℕ) (old text new : List ℕ) → text ≡ old ++ flat_map f (range_with_len 0 n) → new ≡ text ++ f n
    → new ≡ old ++ flat_map f (range_with_len 0 (n + 1))
text_next f n old text new so is =
    is ∙ ap (λ front. front ++ f n) so ∙ flat_map_more f old (range_with_len 0 n) n ∙ ap (λ numbers. old ++ flat_map f numbers) (sym (range_next n))

-- the numbers of one number more that pass
pub passing_next : (p : ℕ → Bool) (n : ℕ) (first : List ℕ) → p n ≡ true → first ≡ filter p (range_with_len 0 n) → first ++ n ∷ [] ≡ filter p (range_with_len 0 (n + 1))
passing_next p n first passes so =
    rw (so, range_next n, filter-append p (range_with_len 0 n) (n ∷ []), passes) refl

pub failing_next : (p : ℕ → Bool) (n : ℕ) (first : List ℕ) → p n ≡ false → first ≡ filter p (range_with_len 0 n) → first ≡ filter p (range_with_len 0 (n + 1))
failing_next p n first fails so =
    rw (so, range_next n, filter-append p (range_with_len 0 n) (n ∷ []), fails) (sym (append-nil (filter p (range_with_len 0 n))))
