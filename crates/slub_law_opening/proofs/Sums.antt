-- Sums over lists and over numbers.
use Rattle.std.proofs.Common.{◌≡◌, ℕ, zero, suc, ◌+◌, ◌-◌, ◌*◌, ◌<◌, ◌≤◌, List, [], ◌∷◌, length, get_or, None, Option, refl, ap, ◌∙◌, arith, inl, inr}
use Rattle.std.specs.List.{sum_by}
use Rattle.std.proofs.lemmas.Bool.{cases_order, cases_lt, cases_eq}
use Rattle.std.proofs.lemmas.List.Sums.{sum_by-cons}
use Rattle.slub_lists.specs.declared.lists.Slab.{Slab}
use Rattle.slub_lists.specs.Coherent.{covers, covered_from}
use Rattle.slub_core.specs.World.{sum_below}
use Rattle.slub_core.proofs.Update.{sum_below_same}
use Rattle.slub_core.proofs.Pigeon.{sum_below-none}

pub sum_below-first : (n : ℕ) (g : ℕ → ℕ) → sum_below (suc n) g ≡ g 0 + sum_below n (λ k. g (suc k))
sum_below-first zero g = omega arith
sum_below-first (suc n) g = let r = sum_below-first n g in omega arith

-- a sum over a list, by places
pub sum_by-below : {A : Type 0} (f : A → ℕ) (d : A) (xs : List A) (n : ℕ) → f d ≡ 0 → length xs ≤ n → sum_by f xs ≡ sum_below n (λ k. f (get_or xs k d))
sum_by-below f d [] n none short = let z = sum_below-none n (λ k. f (get_or [] k d)) (λ k _. none) in let e : sum_by f [] ≡ 0 = refl in omega arith
sum_by-below f d (x ∷ xs) zero none short = absurd (let z : length (x ∷ xs) ≡ suc (length xs) = refl in omega arith)
sum_by-below f d (x ∷ xs) (suc n) none short =
    let z : length (x ∷ xs) ≡ suc (length xs) = refl in
    let r = sum_by-below f d xs n none (omega arith) in
    let a = sum_by-cons f x xs in
    let b = sum_below-first n (λ k. f (get_or (x ∷ xs) k d)) in
    let c : sum_below n (λ k. f (get_or (x ∷ xs) (suc k) d)) ≡ sum_below n (λ k. f (get_or xs k d)) = refl in
    omega arith

pub sum_below-split : (a b : ℕ) (g : ℕ → ℕ) → sum_below (a + b) g ≡ sum_below a g + sum_below b (λ c. g (a + c))
sum_below-split a zero g = ap (λ n. sum_below n g) (let e : a + 0 ≡ a = omega arith in e) ∙ (let e : sum_below a g ≡ sum_below a g + 0 = omega arith in e)
sum_below-split a (suc b) g = ap (λ n. sum_below n g) (let e : a + suc b ≡ suc (a + b) = omega arith in e) ∙ (let r = sum_below-split a b g in let e : sum_below (a + b) g + g (a + b) ≡ sum_below a g + (sum_below b (λ c. g (a + c)) + g (a + b)) = omega arith in e)

-- blocks of b numbers, of which the first m count
pub sum_blocks : (K b m : ℕ) (F G : ℕ → ℕ) → m ≤ b → ((k c : ℕ) → c < m → F (k * b + c) ≡ G (k * m + c)) → ((k c : ℕ) → m ≤ c → c < b → F (k * b + c) ≡ 0) → sum_below (K * b) F ≡ sum_below (K * m) G
sum_blocks zero b m F G le same none = ap (λ n. sum_below n F) (let e : 0 * b ≡ 0 = omega arith in e) ∙ ap (λ n. sum_below n G) (let e : 0 ≡ 0 * m = omega arith in e)
sum_blocks (suc K) b m F G le same none =
    let r = sum_blocks K b m F G le same none in
    let l : sum_below (suc K * b) F ≡ sum_below (K * b) F + sum_below b (λ c. F (K * b + c)) = ap (λ n. sum_below n F) (let e : suc K * b ≡ K * b + b = omega arith in e) ∙ sum_below-split (K * b) b F in
    let g : sum_below (suc K * m) G ≡ sum_below (K * m) G + sum_below m (λ c. G (K * m + c)) = ap (λ n. sum_below n G) (let e : suc K * m ≡ K * m + m = omega arith in e) ∙ sum_below-split (K * m) m G in
    let cut : sum_below b (λ c. F (K * b + c)) ≡ sum_below m (λ c. F (K * b + c)) + sum_below (b - m) (λ c. F (K * b + (m + c))) = ap (λ n. sum_below n (λ c. F (K * b + c))) (let e : b ≡ m + (b - m) = omega arith in e) ∙ sum_below-split m (b - m) (λ c. F (K * b + c)) in
    let rest = sum_below-none (b - m) (λ c. F (K * b + (m + c))) (λ c below. none K (m + c) (omega arith) (omega arith)) in
    let part = sum_below_same m (λ c. G (K * m + c)) (λ c. F (K * b + c)) (λ c below. same K c below) in
    omega arith

-- a sum has a term
pub positive-term : (n : ℕ) (g : ℕ → ℕ) → 0 < sum_below n g → (k : ℕ) × (k < n) × (0 < g k)
positive-term zero g some = absurd (omega arith)
positive-term (suc n) g some = elim (cases_lt 0 (g n)) [
  | inl l ↦ (n, omega arith, l)
  | inr z ↦ let r = positive-term n g (omega arith) in (r.0, omega (arith, r.1), r.2)
]

-- a sum in which one term at most counts
pub one-term : (n : ℕ) (g : ℕ → ℕ) (k : ℕ) → g k ≤ 1 → ((j : ℕ) → (j ≡ k → ⊥) → g j ≡ 0) → sum_below n g ≤ 1
one-term zero g k one others = omega arith
one-term (suc n) g k one others = elim (cases_eq n k) [
  | inl e ↦ let z = sum_below-none n g (λ j l. others j (λ same. absurd (omega arith))) in let q : g n ≡ g k = ap g e in omega arith
  | inr d ↦ let r = one-term n g k one others in let z = others n d in omega arith
]

-- how many slabs have a frame, by the first frames of the slabs
pub covered-sum : (g k : ℕ) (xs : List (Option Slab)) → covered_from g k xs ≡ sum_below (length xs) (λ f. covers g (k + f) (get_or xs f None))
covered-sum g k [] = refl
covered-sum g k (x ∷ xs) =
    let r = covered-sum g (k + 1) xs in
    let a = sum_below-first (length xs) (λ f. covers g (k + f) (get_or (x ∷ xs) f None)) in
    let b = sum_below_same (length xs) (λ f. covers g (k + suc f) (get_or xs f None)) (λ f. covers g (k + 1 + f) (get_or xs f None)) (λ f _. ap (λ n. covers g n (get_or xs f None)) (let e : k + 1 + f ≡ k + suc f = omega arith in e)) in
    let c : covers g (k + 0) x ≡ covers g k x = ap (λ n. covers g n x) (let e : k + 0 ≡ k = omega arith in e) in
    omega (arith, r, a, b, c)

-- a place tells its row and its place in the row
pub product_apart : (n k c j d : ℕ) → c < n → d < n → k * n + c ≡ j * n + d → (k ≡ j) × (c ≡ d)
product_apart n k c j d lc ld e =
    elim (cases_order k j) [
      | inl s ↦ (s, let t : k * n ≡ j * n = ap (λ z. z * n) s in omega arith)
      | inr o ↦ elim o [
        | inl lt ↦ absurd (let t : j * n ≡ (k + 1 + (j - k - 1)) * n = ap (λ z. z * n) (let q : j ≡ k + 1 + (j - k - 1) = omega arith in q) in omega arith)
        | inr gt ↦ absurd (let t : k * n ≡ (j + 1 + (k - j - 1)) * n = ap (λ z. z * n) (let q : k ≡ j + 1 + (k - j - 1) = omega arith in q) in omega arith)
      ]
    ]
