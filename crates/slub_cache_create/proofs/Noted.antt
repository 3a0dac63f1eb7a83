-- The numbers at hand for a list of names follow what the names name.
use Rattle.std.proofs.Common.{◌≡◌, ℕ, suc, ◌+◌, ◌≤◌, cond, Bool, true, false, List, [], ◌∷◌, length, map, set, position, Option, Some, None, MatchOption, refl, ap, sym, ◌∙◌, arith, nat_lt, inl}
use Rattle.std.specs.Cmp.Lexicographic.{nat_list_eq_equiv}
use Rattle.std.specs.List.{IsDistinct, AllByRecursion, position_or_len}
use Rattle.std.specs.Str.{bytes_eq}
use Rattle.std.proofs.lemmas.Bool.Decides.{nat_tests}
use Rattle.std.proofs.lemmas.List.{set_past, length-map}
use Rattle.std.proofs.lemmas.Map.Keys.{IsDistinct-head, IsDistinct-tail}
use Rattle.slub_cache_create.specs.Table.{Table, number_of, IsTaken}

module _ (name : List ℕ) (v : Option ℕ) (f g : List ℕ → Option ℕ) (says : (q : List ℕ) → g q ≡ cond (bytes_eq name q) v (f q)) where
  -- names that are not this one keep what they name
  others : (x : List ℕ) (xs : List (List ℕ)) → bytes_eq name x ≡ true → AllByRecursion (λ y. bytes_eq x y ≡ false) xs → map g xs ≡ map f xs
  others x [] here apart = refl
  others x (y ∷ ys) here apart =
      let other : bytes_eq name y ≡ false = nat_list_eq_equiv.congr name x y here ∙ apart.0 in
      let same : g y ≡ f y = says y ∙ ap (λ (b : Bool). cond b v (f y)) other in
      let rest = others x ys here apart.1 in
      cc

  -- the name, where it is one of them, names the new number
  renamed : (xs : List (List ℕ)) → IsDistinct bytes_eq xs → map g xs ≡ set (map f xs) (position_or_len (bytes_eq name) xs) v
  renamed [] distinct = refl
  renamed (x ∷ xs) distinct = by (bytes_eq name x) refl (renamed xs (IsDistinct-tail bytes_eq x xs distinct))
    where
      by : (b : Bool) → bytes_eq name x ≡ b → map g xs ≡ set (map f xs) (position_or_len (bytes_eq name) xs) v
          → map g (x ∷ xs) ≡ set (map f (x ∷ xs)) (position_or_len (bytes_eq name) (x ∷ xs)) v
      by true is rest =
          let here : g x ≡ v = says x ∙ ap (λ (b : Bool). cond b v (f x)) is in
          let tail = others x xs is (IsDistinct-head bytes_eq x xs distinct) in
          rw is cc
      by false is rest =
          let there : g x ≡ f x = says x ∙ ap (λ (b : Bool). cond b v (f x)) is in
          let at = position_or_len (bytes_eq name) xs in
          let next : 1 + at ≡ suc at = omega arith in
          let step : set (map f (x ∷ xs)) (1 + at) v ≡ f x ∷ set (map f xs) at v = ap (λ (n : ℕ). set (map f (x ∷ xs)) n v) next in
          let both : map g (x ∷ xs) ≡ f x ∷ set (map f xs) at v = cc in
          rw is (both ∙ sym step)

  -- so do the numbers at hand, after that one is written
  pub noted : (xs : List (List ℕ)) (old new : List (Option ℕ)) → IsDistinct bytes_eq xs → old ≡ map f xs
      → MatchOption (position (bytes_eq name) xs) (new ≡ old) (λ i. new ≡ set old i v) → new ≡ map g xs
  noted xs old new distinct is written = by (nat_lt (position_or_len (bytes_eq name) xs) (length xs)) refl
    where
      at : ℕ
      at = position_or_len (bytes_eq name) xs

      by : (b : Bool) → nat_lt (position_or_len (bytes_eq name) xs) (length xs) ≡ b → new ≡ map g xs
      by true inside =
          let here : new ≡ set old (position_or_len (bytes_eq name) xs) v = rw inside at written in
          here ∙ ap (λ (ys : List (Option ℕ)). set ys (position_or_len (bytes_eq name) xs) v) is ∙ sym (renamed xs distinct)
      by false past =
          let here : new ≡ old = rw past at written in
          let beyond : length (map f xs) ≤ position_or_len (bytes_eq name) xs = rw (length-map xs f) (grind (arith, nat_tests, past)) in
          here ∙ is ∙ sym (set_past (map f xs) (position_or_len (bytes_eq name) xs) v beyond) ∙ sym (renamed xs distinct)

-- a name that is not taken is not live
pub not_live : (s : Table) (name : List ℕ) → ¬ IsTaken s name → number_of s name ≡ None
not_live s name free = by (number_of s name) refl
  where
    by : (x : Option ℕ) → number_of s name ≡ x → number_of s name ≡ None
    by None is = is
    by (Some k) is = absurd (free (inl (rw is refl)))
