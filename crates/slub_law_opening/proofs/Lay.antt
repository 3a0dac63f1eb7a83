-- Rows that are laid into words stand there, where no two items share a word.
use Rattle.std.proofs.Common.{◌≡◌, ℕ, zero, suc, ◌<◌, ◌≤◌, List, [], ◌∷◌, refl, sym, ap, ◌∙◌, subst, arith, inl, inr}
use Rattle.std.specs.Prelude.{⊤}
use Rattle.std.proofs.lemmas.Bool.{cases_eq}
use Rattle.slub_common.specs.Times.{times}
use Rattle.slub_core.specs.World.{update}
use Rattle.slub_core.proofs.Update.{update_at, update_other}
use Rattle.slub_law_opening.specs.Opening.{Row, lay_items, lay, lay_each}
use Rattle.slub_common.proofs.Times.{times-cons}
use Rattle.slub_lists.proofs.Times.{current-same}

pub first-there : (x : ℕ) (xs : List ℕ) → 1 ≤ times x (x ∷ xs)
first-there x xs = omega (arith, times-cons x x xs, current-same x x 1 refl)

pub more-there : (i x : ℕ) (xs : List ℕ) → times i xs ≤ times i (x ∷ xs)
more-there i x xs = omega (arith, times-cons i x xs)

-- each item's word is what it is to be
abbrev pub AreLaid : (ℕ → ℕ) → (ℕ → List ℕ → ℕ) → List ℕ → (ℕ → ℕ) → Type 0
AreLaid place value [] m = ⊤
AreLaid place value (x ∷ xs) m = (m (place x) ≡ value x xs) × AreLaid place value xs m

abbrev pub IsLaid : Row → (ℕ → ℕ) → Type 0
IsLaid r m = AreLaid r.place r.value r.items m

-- no two items share a word
abbrev pub AreApart : Row → Row → Type 0
AreApart r q = (x y : ℕ) → 1 ≤ times x r.items → 1 ≤ times y q.items → r.place x ≡ q.place y → ⊥

pub record IsDistinct (r : Row) : Type 0 where
  pub once : (x : ℕ) → times x r.items ≤ 1
  pub places : (x y : ℕ) → 1 ≤ times x r.items → 1 ≤ times y r.items → r.place x ≡ r.place y → x ≡ y

pub lay-other : (place : ℕ → ℕ) (value : ℕ → List ℕ → ℕ) (xs : List ℕ) (m : ℕ → ℕ) (q : ℕ) → ((x : ℕ) → 1 ≤ times x xs → q ≡ place x → ⊥) → lay_items place value xs m q ≡ m q
lay-other place value [] m q away = refl
lay-other place value (x ∷ xs) m q away =
    update_other (lay_items place value xs m) (place x) (value x xs) q (away x (first-there x xs))
    ∙ lay-other place value xs m q (λ y le. away y (let t = more-there y x xs in omega arith))

laid-same : (place : ℕ → ℕ) (value : ℕ → List ℕ → ℕ) (xs : List ℕ) (m n : ℕ → ℕ) → ((x : ℕ) → 1 ≤ times x xs → n (place x) ≡ m (place x)) → AreLaid place value xs m → AreLaid place value xs n
laid-same place value [] m n same laid = tt
laid-same place value (x ∷ xs) m n same laid = (same x (first-there x xs) ∙ laid.0, laid-same place value xs m n (λ y le. same y (let t = more-there y x xs in omega arith)) laid.1)

pub laid-kept : (r q : Row) (m : ℕ → ℕ) → AreApart r q → IsLaid r m → IsLaid r (lay q m)
laid-kept r q m apart laid = laid-same r.place r.value r.items m (lay q m) (λ x le. lay-other q.place q.value q.items m (r.place x) (λ y here. apart x y le here)) laid

laid-items : (place : ℕ → ℕ) (value : ℕ → List ℕ → ℕ) (xs : List ℕ) (m : ℕ → ℕ) → ((x : ℕ) → times x xs ≤ 1) → ((x y : ℕ) → 1 ≤ times x xs → 1 ≤ times y xs → place x ≡ place y → x ≡ y) → AreLaid place value xs (lay_items place value xs m)
laid-items place value [] m once apart = tt
laid-items place value (x ∷ xs) m once apart =
    let old = lay_items place value xs m in
    let one = once x in
    let here = times-cons x x xs in
    let same = current-same x x 1 refl in (
      update_at old (place x) (value x xs) (place x) refl,
      laid-same place value xs old (update old (place x) (value x xs))
          (λ y le. update_other old (place x) (value x xs) (place y) (λ e.
          let q : y ≡ x = apart y x (let t = more-there y x xs in omega arith) (first-there x xs) e in
          let t : times y xs ≡ times x xs = ap (λ z. times z xs) q in
          omega arith))
          (laid-items place value xs m (λ y. let a = once y in let t = more-there y x xs in omega arith) (λ a b la lb. apart a b (let t = more-there a x xs in omega arith) (let t = more-there b x xs in omega arith))),
    )

pub laid-here : (r : Row) (m : ℕ → ℕ) → IsDistinct r → IsLaid r (lay r m)
laid-here r m distinct = laid-items r.place r.value r.items m distinct.once distinct.places

-- a row that meets none of the rows stays
pub each-kept : (r : Row) (rows : ℕ → Row) (n : ℕ) (m : ℕ → ℕ) → ((k : ℕ) → k < n → AreApart r (rows k)) → IsLaid r m → IsLaid r (lay_each rows n m)
each-kept r rows zero m apart laid = laid
each-kept r rows (suc n) m apart laid = laid-kept r (rows n) (lay_each rows n m) (apart n (omega arith)) (each-kept r rows n m (λ k below. apart k (omega arith)) laid)

-- and each of the rows stands
pub each-laid : (rows : ℕ → Row) (n : ℕ) (m : ℕ → ℕ) → ((k : ℕ) → k < n → IsDistinct (rows k)) → ((j k : ℕ) → j < n → k < n → (j ≡ k → ⊥) → AreApart (rows j) (rows k)) → (k : ℕ) → k < n → IsLaid (rows k) (lay_each rows n m)
each-laid rows zero m distinct apart k below = absurd (omega arith)
each-laid rows (suc n) m distinct apart k below =
    elim (cases_eq k n) [
      | inl e ↦ subst (λ z. IsLaid (rows z) (lay (rows n) (lay_each rows n m))) (sym e) (laid-here (rows n) (lay_each rows n m) (distinct n (omega arith)))
      | inr d ↦ laid-kept (rows k) (rows n) (lay_each rows n m) (apart k n (omega arith) (omega arith) d)
          (each-laid rows n m (λ j under. distinct j (omega arith)) (λ a b la lb. apart a b (omega arith) (omega arith)) k (omega arith))
    ]
