-- The steps of the loops that fill a list or move the front of one to another.
use Rattle.std.proofs.Common.{◌≡◌, ℕ, ◌+◌, ◌-◌, ◌<◌, ◌≤◌, List, [], ◌∷◌, ◌++◌, length, take, drop, get_or, reverse, refl, ap, sym, add-one, ◌∙◌, arith, length-drop, take_all}
use Rattle.std.specs.List.{range_with_len}
use Rattle.std.proofs.lemmas.List.{drop_more, take_more, reverse-append, drop_all}

-- a run of numbers that begins one lower
pub range-lower : (count item : ℕ) → 0 < item → item ≤ count → (item - 1) ∷ range_with_len item (count - item) ≡ range_with_len (item - 1) (count - (item - 1))
range-lower count item above within =
    let longer : count - (item - 1) ≡ (count - item) + 1 = omega arith in
    let again : item - 1 + 1 ≡ item = omega arith in
    rw (longer, add-one, again) refl

-- the element that stands next
module _ (n : ℕ) (xs : List ℕ) (x : ℕ) (rest : List ℕ) (next : drop n xs ≡ x ∷ rest) where
  next-inside : n < length xs
  next-inside = let e = ap length next in omega (arith, length-drop n xs, e)

  next-more : get_or xs n x ∷ drop (n + 1) xs ≡ x ∷ rest
  next-more = sym (drop_more xs n x next-inside) ∙ next

  pub drop-next : drop (n + 1) xs ≡ rest
  drop-next = let e = next-more in cc

  pub gather-next : (ys : List ℕ) → x ∷ (reverse (take n xs) ++ ys) ≡ reverse (take (n + 1) xs) ++ ys
  gather-next ys =
      let e = next-more in
      let at : get_or xs n x ≡ x = cc in
      let more : take (n + 1) xs ≡ take n xs ++ x ∷ [] = take_more xs n x next-inside ∙ ap (λ y. take n xs ++ y ∷ []) at in
      rw (more, reverse-append (take n xs) (x ∷ [])) refl

-- where nothing stands next, there is no more to take
pub take-past : (n m : ℕ) (xs : List ℕ) → drop n xs ≡ [] → n ≤ m → take n xs ≡ take m xs
take-past n m xs none more =
    let short : length xs ≤ n = let e = ap length none in omega (arith, length-drop n xs, e) in
    take_all n xs short ∙ sym (take_all m xs (omega arith))

pub drop-past : (n m : ℕ) (xs : List ℕ) → drop n xs ≡ [] → n ≤ m → [] ≡ drop m xs
drop-past n m xs none more =
    let short : length xs ≤ n = let e = ap length none in omega (arith, length-drop n xs, e) in
    sym (drop_all m xs (omega arith))
