-- The words of a class, pushed one after the other.
use Rattle.std.proofs.Common.{◌≡◌, ℕ, ◌+◌, ◌<◌, ◌≤◌, ◌++◌, List, [], ◌∷◌, length, map, ap, sym, ◌∙◌, arith, append_assoc, length-append}
use Rattle.std.specs.List.{range_with_len}
use Rattle.std.proofs.lemmas.List.FromFn.{map-range_with_len_more, length-map-range_with_len}

-- one word more
pub class-more : {X : Type 0} (old words : List X) (f : ℕ → X) (a n j : ℕ) (x : X) → a + n ≡ j → words ≡ old ++ map f (range_with_len a n) → x ≡ f j → words ++ x ∷ [] ≡ old ++ map f (range_with_len a (n + 1))
class-more old words f a n j x e is same =
    ap (λ l. l ++ x ∷ []) is
    ∙ append_assoc old (map f (range_with_len a n)) (x ∷ [])
    ∙ ap (λ y. old ++ (map f (range_with_len a n) ++ y ∷ [])) same
    ∙ ap (λ l. old ++ l) (sym (map-range_with_len_more f a n j e))

pub class-length : {X : Type 0} (old words : List X) (f : ℕ → X) (a n : ℕ) → words ≡ old ++ map f (range_with_len a n) → length words ≡ length old + n
class-length old words f a n is = ap length is ∙ length-append old (map f (range_with_len a n)) ∙ ap (λ k. length old + k) (length-map-range_with_len f a n)

-- there is room for one more
pub class-room : {X : Type 0} (old words : List X) (f : ℕ → X) (a n m room : ℕ) → words ≡ old ++ map f (range_with_len a n) → length old + m ≤ room → n < m → length words < room
class-room old words f a n m room is fits below = omega (arith, class-length old words f a n is)

-- all are there
pub class-end : {X : Type 0} (old words : List X) (f : ℕ → X) (a n m : ℕ) → words ≡ old ++ map f (range_with_len a n) → n ≡ m → words ≡ old ++ map f (range_with_len a m)
class-end old words f a n m is e = is ∙ ap (λ k. old ++ map f (range_with_len a k)) e

-- of a list that was empty
pub map-more : {X : Type 0} (words : List X) (f : ℕ → X) (a n j : ℕ) (x : X) → a + n ≡ j → words ≡ map f (range_with_len a n) → x ≡ f j → words ++ x ∷ [] ≡ map f (range_with_len a (n + 1))
map-more words f a n j x e is same =
    ap (λ l. l ++ x ∷ []) is ∙ ap (λ y. map f (range_with_len a n) ++ y ∷ []) same ∙ sym (map-range_with_len_more f a n j e)
