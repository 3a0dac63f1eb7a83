-- Chains of free pointers.
use Rattle.std.proofs.Common.{◌≡◌, ℕ, suc, ◌-◌, ◌^◌, ◌<◌, ◌≤◌, ◌==◌, List, [], ◌∷◌, refl, ap, arith}
use Rattle.std.proofs.lemmas.Bool.{eq-eqb}
use Rattle.slub_common.specs.Times.{times}
use Rattle.slub_core.specs.World.{IsChain, Leads, one_if}
use Rattle.slub_core.proofs.Lists.{times-first}

first-there : (x : ℕ) (xs : List ℕ) → 1 ≤ times x (x ∷ xs)
first-there x xs = let c = times-first x x xs in let o : one_if (x == x) ≡ 1 = rw (eq-eqb x x refl) refl in omega arith

-- a chain stands as long as the pointers of its members do
pub Leads-same : (g h : ℕ → ℕ) (head : ℕ) (xs : List ℕ) (end : ℕ) → ((i : ℕ) → 1 ≤ times i xs → h i ≡ g i) → Leads g head xs end → Leads h head xs end
Leads-same g h head [] end same c = c
Leads-same g h head (x ∷ xs) end same c =
    (c.0, rw (same x (first-there x xs)) (Leads-same g h (g x) xs end (λ i some. same i (let t = times-first i x xs in omega arith)) c.1))

-- the head of a chain of small numbers is small
pub Leads-small : (g : ℕ → ℕ) (head : ℕ) (xs : List ℕ) → ((j : ℕ) → 1 ≤ times j xs → suc j < 2 ^ 16) → Leads g head xs 0 → head < 2 ^ 16
Leads-small g head [] small c = omega (arith, c)
Leads-small g head (x ∷ xs) small c = let s = small x (first-there x xs) in omega (arith, c.0)

-- the first of a chain
pub IsChain-first : (g : ℕ → ℕ) (head : ℕ) (xs : List ℕ) → 1 ≤ head → IsChain g head xs → (ys : List ℕ) × (xs ≡ (head - 1) ∷ ys) × IsChain g (g (head - 1)) ys
IsChain-first g head [] some c = absurd (omega arith)
IsChain-first g head (x ∷ xs) some c =
    let e : x ≡ head - 1 = omega arith in
    (xs, ap (λ z. z ∷ xs) e, rw (← e) c.1)

-- the same chain from an equal head
pub IsChain-from : (g : ℕ → ℕ) (h k : ℕ) (xs : List ℕ) → k ≡ h → IsChain g h xs → IsChain g k xs
IsChain-from g h k xs e c = rw e c

pub IsChain-none : (g : ℕ → ℕ) (head : ℕ) (xs : List ℕ) → head ≡ 0 → IsChain g head xs → xs ≡ []
IsChain-none g head [] e c = refl
IsChain-none g head (x ∷ xs) e c = absurd (omega (arith, e, c.0))
