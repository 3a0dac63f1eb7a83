-- What holds of a list holds of its parts.
use Rattle.std.proofs.Common.{false, ◌≡◌, ℕ, ◌+◌, ◌<◌, eqb, List, [], ◌∷◌, ◌++◌, length, get_or, ◌∙◌, subst, arith, All}
use Rattle.std.specs.List.{Contains, IsDistinct}
use Rattle.std.proofs.lemmas.Bool.Decides.{nat_tests}
use Rattle.std.proofs.lemmas.List.{get_or_append_left, get_or-append-add, length-append}
use Rattle.std.proofs.lemmas.Map.Keys.{IsDistinct-from_apart, IsDistinct-tail, apart_from_distinct}

module _ {X : Type 0} (P : X → Type 0) where
  pub All-front : (xs ys : List X) → All P (xs ++ ys) → All P xs
  All-front xs ys all k d within = subst P (get_or_append_left xs ys d k within) (all k d (omega (arith, length-append xs ys)))

  pub All-back : (xs ys : List X) → All P (xs ++ ys) → All P ys
  All-back xs ys all k d within = subst P (get_or-append-add xs ys k d) (all (length xs + k) d (omega (arith, length-append xs ys)))

pub distinct_back : (xs ys : List ℕ) → IsDistinct eqb (xs ++ ys) → IsDistinct eqb ys
distinct_back [] ys distinct = distinct
distinct_back (x ∷ xs) ys distinct = distinct_back xs ys (IsDistinct-tail eqb x (xs ++ ys) distinct)

pub distinct_front : (xs ys : List ℕ) → IsDistinct eqb (xs ++ ys) → IsDistinct eqb xs
distinct_front xs ys distinct = IsDistinct-from_apart eqb xs differ
  where
    differ : (i j d : ℕ) → i < j → j < length xs → eqb (get_or xs i d) (get_or xs j d) ≡ false
    differ i j d before within =
        let other : eqb (get_or (xs ++ ys) i d) (get_or (xs ++ ys) j d) ≡ false = apart_from_distinct eqb (xs ++ ys) i j d distinct before (omega (arith, length-append xs ys)) in
        rw (get_or_append_left xs ys d i (omega arith), get_or_append_left xs ys d j within) at other

-- no number stands in both parts
pub apart : (xs ys : List ℕ) (x : ℕ) → IsDistinct eqb (xs ++ ys) → Contains xs x → Contains ys x → ⊥
apart xs ys x distinct mine other =
    let within = mine.1 in
    let past = other.1 in
    let front : get_or (xs ++ ys) mine.0 x ≡ x = get_or_append_left xs ys x mine.0 within ∙ mine.2 in
    let back : get_or (xs ++ ys) (length xs + other.0) x ≡ x = get_or-append-add xs ys other.0 x ∙ other.2 in
    let differ : eqb (get_or (xs ++ ys) mine.0 x) (get_or (xs ++ ys) (length xs + other.0) x) ≡ false =
    apart_from_distinct eqb (xs ++ ys) mine.0 (length xs + other.0) x distinct (omega arith) (omega (arith, length-append xs ys)) in
    let never : ⊥ = grind (arith, nat_tests, front, back, differ) in
    never
