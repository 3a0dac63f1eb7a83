-- Marks of frames, and live caches.
use Rattle.std.proofs.Common.{◌≡◌, ℕ, ◌+◌, ◌<◌, ◌++◌, ◌||◌, cond, eqb, Bool, true, false, List, [], ◌∷◌, length, take, get_or, set, inl, inr, refl, ap, sym, ◌∙◌, arith, get_or-set_other}
use Rattle.std.specs.Prelude.{nat_lt}
use Rattle.std.specs.List.{list_any}
use Rattle.std.proofs.lemmas.Bool.{cases_eq, lt-ltb, eq-eqb, ne_eqb}
use Rattle.std.proofs.lemmas.List.{get_or-set_same}
use Rattle.slub_common.specs.Times.{times}
use Rattle.slub_common.proofs.Times.{times-cons, times-push}

or-true : (b : Bool) → b || true ≡ true
or-true true = refl
or-true false = refl

-- one frame more is marked
pub mark-step : (first marks after : List Bool) (frames : List ℕ) (i x : ℕ) → take (i + 1) frames ≡ take i frames ++ x ∷ [] → length marks ≡ length first
    → ((f : ℕ) → f < length first → get_or marks f false ≡ get_or first f false || nat_lt 0 (times f (take i frames))) → after ≡ set marks x true
    → (f : ℕ) → f < length first → get_or after f false ≡ get_or first f false || nat_lt 0 (times f (take (i + 1) frames))
mark-step first marks after frames i x more as_long before is f below =
    let count : times f (take (i + 1) frames) ≡ times f (take i frames) + cond {A = ℕ} (eqb x f) 1 0 = ap (times f) more ∙ times-push f x (take i frames) in
    elim (cases_eq x f) [
      | inl e ↦
          let here : get_or after f false ≡ true = ap (λ l. get_or l f false) is ∙ ap (λ n. get_or (set marks n true) f false) e ∙ get_or-set_same marks f true false (omega arith) in
          let some : nat_lt 0 (times f (take (i + 1) frames)) ≡ true = lt-ltb 0 (times f (take (i + 1) frames)) (let one : cond {A = ℕ} (eqb x f) 1 0 ≡ 1 = ap (λ (b : Bool). cond {A = ℕ} b 1 0) (eq-eqb x f e) in omega (arith, one, count)) in
          here ∙ sym (ap (λ b. get_or first f false || b) some ∙ or-true (get_or first f false))
      | inr d ↦
          let same : times f (take (i + 1) frames) ≡ times f (take i frames) = (let none : cond {A = ℕ} (eqb x f) 1 0 ≡ 0 = ap (λ (b : Bool). cond {A = ℕ} b 1 0) (ne_eqb x f d) in omega (arith, none, count)) in
          ap (λ l. get_or l f false) is ∙ get_or-set_other marks x f true false (λ e. d (sym e)) ∙ before f below ∙ ap (λ n. get_or first f false || nat_lt 0 n) (sym same)
    ]

-- a number that is found stands there
pub any-times : (x : ℕ) (xs : List ℕ) → list_any (λ y. eqb y x) xs ≡ nat_lt 0 (times x xs)
any-times x [] = refl
any-times x (y ∷ ys) = by (eqb y x) refl (any-times x ys)
  where
    by : (b : Bool) → eqb y x ≡ b → list_any (λ z. eqb z x) ys ≡ nat_lt 0 (times x ys) → b || list_any (λ z. eqb z x) ys ≡ nat_lt 0 (times x (y ∷ ys))
    by true e more = sym (lt-ltb 0 (times x (y ∷ ys)) (let c = times-cons x y ys in let one : cond {A = ℕ} (eqb y x) 1 0 ≡ 1 = ap (λ (b : Bool). cond {A = ℕ} b 1 0) e in omega (arith, c, one)))
    by false e more =
        let none : cond {A = ℕ} (eqb y x) 1 0 ≡ 0 = ap (λ (b : Bool). cond {A = ℕ} b 1 0) e in
        let same : times x (y ∷ ys) ≡ times x ys = omega (arith, times-cons x y ys, none) in
        more ∙ ap (λ n. nat_lt 0 n) (sym same)
