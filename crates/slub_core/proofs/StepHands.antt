-- Slabs in hand by their number: none, one, or one with one beside.
use Rattle.std.proofs.Common.{◌≡◌, ℕ, ◌==◌, List, [], ◌∷◌, refl, ap}
use Rattle.std.proofs.lemmas.Bool.{cond_both}
use Rattle.slub_core.specs.declared.local.Hand.{Hand}
use Rattle.slub_core.specs.World.{in_chain}
use Rattle.slub_core.specs.Spots.{Role}
use Rattle.slub_core.specs.Fresh.{AreHands}

pub no-hands : (hs : List Hand) (xss : List (List ℕ)) → AreHands [] hs xss → (hs ≡ []) × (xss ≡ [])
no-hands [] [] ok = (refl, refl)
no-hands [] (xs ∷ xss) ok = absurd ok
no-hands (h ∷ hs) xss ok = absurd ok

pub one-hand : (r : Role) (hs : List Hand) (xss : List (List ℕ)) → AreHands (r ∷ []) hs xss → (h : Hand) × (xs : List ℕ) × (hs ≡ h ∷ []) × (xss ≡ xs ∷ [])
one-hand r [] xss ok = absurd ok
one-hand r (h ∷ hs) [] ok = absurd ok
one-hand r (h ∷ hs) (xs ∷ xss) ok = let e = no-hands hs xss ok.5 in (h, xs, rw e.0 refl, rw e.1 refl)

pub two-hands : (r q : Role) (hs : List Hand) (xss : List (List ℕ)) → AreHands (r ∷ q ∷ []) hs xss → (h : Hand) × (k : Hand) × (xs : List ℕ) × (ys : List ℕ) × (hs ≡ h ∷ k ∷ []) × (xss ≡ xs ∷ ys ∷ [])
two-hands r q [] xss ok = absurd ok
two-hands r q (h ∷ hs) [] ok = absurd ok
two-hands r q (h ∷ hs) (xs ∷ xss) ok = let o = one-hand q hs xss ok.5 in (h, o.0, xs, o.1, ap (λ ks. h ∷ ks) o.2, ap (λ yss. xs ∷ yss) o.3)

pub first-hand : (r : Role) (rs : List Role) (hs : List Hand) (xss : List (List ℕ)) → AreHands (r ∷ rs) hs xss → (h : Hand) × (hs' : List Hand) × (xs : List ℕ) × (xss' : List (List ℕ)) × (hs ≡ h ∷ hs') × (xss ≡ xs ∷ xss')
first-hand r rs [] xss ok = absurd ok
first-hand r rs (h ∷ hs) [] ok = absurd ok
first-hand r rs (h ∷ hs) (xs ∷ xss) ok = (h, hs, xs, xss, refl, refl)

pub in_chain-nil : (g f i : ℕ) → in_chain g [] f i ≡ 0
in_chain-nil g f i = cond_both (g == f) 0 0 (λ n. n ≡ 0) (λ e. refl) (λ e. refl)
