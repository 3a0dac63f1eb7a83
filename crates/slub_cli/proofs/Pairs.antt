-- Whether one of two lists' pairs passes a test.
use Rattle.std.proofs.Common.{◌≡◌, ℕ, ◌+◌, ◌<◌, min, Bool, true, false, List, length, take, get_or, sym, ◌∙◌, ap, arith}
use Rattle.std.specs.List.{list_any, zip}
use Rattle.std.proofs.lemmas.List.{take_all}
use Rattle.std.proofs.lemmas.List.Folds.{list_any_at, list_any_more}
use Rattle.std.proofs.lemmas.Slice.Zip.{length-zip, get_or-zip}

module _ {A B : Type 0} (p : A × B → Bool) (xs : List A) (ys : List B) where
  here : (i : ℕ) (x : A) (y : B) → i < length xs → i < length ys → x ≡ get_or xs i x → y ≡ get_or ys i y → p (get_or (zip xs ys) i (x, y)) ≡ p (x, y)
  here i x y in_xs in_ys at_x at_y = ap p (get_or-zip xs ys i (x, y) in_xs in_ys ∙ cc)

  -- one more doesn't
  pub any_more : (i : ℕ) (x : A) (y : B) → i < length xs → i < length ys → x ≡ get_or xs i x → y ≡ get_or ys i y → list_any p (take i (zip xs ys)) ≡ false → p (x, y) ≡ false → list_any p (take (i + 1) (zip xs ys)) ≡ false
  any_more i x y in_xs in_ys at_x at_y none fails =
      let within : i < length (zip xs ys) = omega (arith, length-zip xs ys) in
      list_any_more p (zip xs ys) i (x, y) within ∙ rw (none, here i x y in_xs in_ys at_x at_y) fails

  -- one does
  pub any_found : (i : ℕ) (x : A) (y : B) → i < length xs → i < length ys → x ≡ get_or xs i x → y ≡ get_or ys i y → p (x, y) ≡ true → list_any p (zip xs ys) ≡ true
  any_found i x y in_xs in_ys at_x at_y passes =
      let within : i < length (zip xs ys) = omega (arith, length-zip xs ys) in
      list_any_at p (zip xs ys) i (x, y) within (here i x y in_xs in_ys at_x at_y ∙ passes)

  -- none does
  pub any_none : (i : ℕ) → i ≡ min (length xs) (length ys) → list_any p (take i (zip xs ys)) ≡ false → list_any p (zip xs ys) ≡ false
  any_none i whole none = sym (ap (list_any p) (take_all i (zip xs ys) (omega (arith, length-zip xs ys)))) ∙ none
