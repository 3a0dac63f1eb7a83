-- Lists of workers, read by place.
use Rattle.std.proofs.Common.{◌≡◌, ◌≢◌, ℕ, zero, suc, ◌+◌, ◌<◌, ◌≤◌, List, [], ◌∷◌, length, get_or, map, refl, sym, ap, arith}
use Rattle.std.specs.Prelude.{sum_by}
use Rattle.std.proofs.lemmas.List.Sums.{sum_by-cons, get_or-le-sum_by}
use mathlib.Core.Option.{some, some-ne-none, some-injective}
use lib.ListN.{get_elem?}

module _ {A : Type 0} where
  pub at_or : (l : List A) (i : ℕ) (b d : A) → get_elem? l i ≡ some b → get_or l i d ≡ b
  at_or [] i b d e = absurd (some-ne-none b (sym e))
  at_or (x ∷ xs) zero b d e = some-injective x b e
  at_or (x ∷ xs) (suc i) b d e = at_or xs i b d e

  pub at_below : (l : List A) (i : ℕ) (b : A) → get_elem? l i ≡ some b → i < length l
  at_below [] i b e = absurd (some-ne-none b (sym e))
  at_below (x ∷ xs) zero b e = omega arith
  at_below (x ∷ xs) (suc i) b e = let h = at_below xs i b e in omega arith

  -- of a list that is mapped
  pub at_mapped : {B : Type 0} (f : A → B) (l : List A) (i : ℕ) (b : A) (d : B) → get_elem? l i ≡ some b → get_or (map f l) i d ≡ f b
  at_mapped f [] i b d e = absurd (some-ne-none b (sym e))
  at_mapped f (x ∷ xs) zero b d e = ap f (some-injective x b e)
  at_mapped f (x ∷ xs) (suc i) b d e = at_mapped f xs i b d e

  -- two of a sum
  pub two-le-sum_by : (f : A → ℕ) (xs : List A) (j k : ℕ) (d : A) → j ≢ k → j < length xs → k < length xs → f (get_or xs j d) + f (get_or xs k d) ≤ sum_by f xs
  two-le-sum_by f [] j k d apart one other = absurd (omega arith)
  two-le-sum_by f (x ∷ xs) zero zero d apart one other = absurd (apart refl)
  two-le-sum_by f (x ∷ xs) zero (suc k) d apart one other = let s = sum_by-cons f x xs in let h = get_or-le-sum_by f xs k d (omega arith) in omega arith
  two-le-sum_by f (x ∷ xs) (suc j) zero d apart one other = let s = sum_by-cons f x xs in let h = get_or-le-sum_by f xs j d (omega arith) in omega arith
  two-le-sum_by f (x ∷ xs) (suc j) (suc k) d apart one other =
      let s = sum_by-cons f x xs in
      let h = two-le-sum_by f xs j k d (λ e. apart (ap suc e)) (omega arith) (omega arith) in
      omega arith
