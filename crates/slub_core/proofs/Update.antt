-- A function changed at one number.
use Rattle.std.proofs.Common.{◌≡◌, ℕ, zero, suc, ◌+◌, ◌<◌, ◌≤◌, eqb, refl, sym, subst, arith, inl, inr}
use Rattle.std.proofs.lemmas.Bool.{cases_eq, eq-eqb, ne_eqb, cond-true, cond-false}
use Rattle.slub_core.specs.World.{update, sum_below}

pub update_same : {A : Type 0} (g : ℕ → A) (n : ℕ) (v : A) → update g n v n ≡ v
update_same g n v = cond-true (eqb n n) v (g n) (eq-eqb n n refl)

pub update_other : {A : Type 0} (g : ℕ → A) (n : ℕ) (v : A) (k : ℕ) → (k ≡ n → ⊥) → update g n v k ≡ g k
update_other g n v k h = cond-false (eqb k n) v (g k) (ne_eqb k n h)

-- a fact at each number: at the changed one, and at each other
pub each_updated : {A : Type 0} (g : ℕ → A) (n : ℕ) (v : A) (P : ℕ → A → Type 0) → P n v → ((k : ℕ) → (k ≡ n → ⊥) → P k (g k)) → (k : ℕ) → P k (update g n v k)
each_updated g n v P here there k =
    elim (cases_eq k n) [
      | inl e ↦ subst (λ j. P j (update g n v j)) (sym e) (rw update_same here)
      | inr h ↦ rw (update_other g n v k h) (there k h)
    ]

pub sum_below_same : (m : ℕ) (g h : ℕ → ℕ) → ((k : ℕ) → k < m → h k ≡ g k) → sum_below m h ≡ sum_below m g
sum_below_same zero g h same = refl
sum_below_same (suc m) g h same =
    let r = sum_below_same m g h (λ k below. same k (omega arith)) in
    let e = same m (omega arith) in
    omega arith

-- a sum of which one term changes
pub sum_below_change : (m : ℕ) (g h : ℕ → ℕ) (n : ℕ) → n < m → ((k : ℕ) → (k ≡ n → ⊥) → h k ≡ g k) → sum_below m h + g n ≡ sum_below m g + h n
sum_below_change zero g h n below same = absurd (omega arith)
sum_below_change (suc m) g h n below same =
    elim (cases_eq m n) [
      | inl e ↦
          let r : sum_below m h ≡ sum_below m g = sum_below_same m g h (λ k under. same k (omega arith)) in
          rw e (omega (arith, rw e at r))
      | inr d ↦
          let r : sum_below m h + g n ≡ sum_below m g + h n = sum_below_change m g h n (omega arith) same in
          let e = same m d in
          omega arith
    ]

pub term_le_sum : (m : ℕ) (g : ℕ → ℕ) (n : ℕ) → n < m → g n ≤ sum_below m g
term_le_sum zero g n below = absurd (omega arith)
term_le_sum (suc m) g n below =
    elim (cases_eq m n) [
      | inl e ↦ subst (λ j. g j ≤ sum_below m g + g m) e (omega arith)
      | inr d ↦ let r = term_le_sum m g n (omega arith) in omega arith
    ]

pub update_at : {A : Type 0} (g : ℕ → A) (n : ℕ) (v : A) (k : ℕ) → k ≡ n → update g n v k ≡ v
update_at g n v k e = cond-true (eqb k n) v (g k) (eq-eqb k n e)
