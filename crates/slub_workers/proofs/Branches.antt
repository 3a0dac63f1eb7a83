-- The workers where memory is refused to some: the list of them, place by place.
use Rattle.std.proofs.Common.{◌≡◌, ◌≢◌, ℕ, zero, suc, ◌+◌, ◌≤◌, Bool, List, [], ◌∷◌, set, refl, sym, ap, ◌∙◌, arith}
use Rattle.std.specs.Prelude.{if◌then◌else◌, ◌==◌}
use Rattle.std.proofs.lemmas.Bool.{eq-eqb, ne_eqb}
use mathlib.Core.Option.{some, some-injective, some-ne-none}
use lib.ListN.{get_elem?}
use Rattle.slub_workers.specs.Standing.{Standing, Fork, branch, branches_from, branches}

-- memory is refused to the worker w, or isn't, and to the others as before
abbrev pub chosen : ℕ → Bool → (ℕ → Bool) → ℕ → Bool
chosen w b refused k = if k == w then b else refused k

pub chosen_here : (w : ℕ) (b : Bool) (refused : ℕ → Bool) → chosen w b refused w ≡ b
chosen_here w b refused = ap (λ (c : Bool). if c then b else refused w) (eq-eqb w w refl)

chosen_else : (w : ℕ) (b : Bool) (refused : ℕ → Bool) (k : ℕ) → k ≢ w → chosen w b refused k ≡ refused k
chosen_else w b refused k apart = ap (λ (c : Bool). if c then b else refused k) (ne_eqb k w apart)

pub alike_from : (n : ℕ) (r q : ℕ → Bool) (fs : List Fork) → ((k : ℕ) → n ≤ k → r k ≡ q k) → branches_from n r fs ≡ branches_from n q fs
alike_from n r q [] same = refl
alike_from n r q (f ∷ fs) same =
    let here : r n ≡ q n = same n (omega arith) in
    let more = alike_from (suc n) r q fs (λ k far. same k (omega arith)) in
    λ i. branch (here i) f ∷ more i

-- a worker is replaced: where memory is refused to it no longer matters
set_alike : (n w : ℕ) (r q : ℕ → Bool) (fs : List Fork) (x : Standing) → ((k : ℕ) → k ≢ n + w → r k ≡ q k)
    → set (branches_from n r fs) w x ≡ set (branches_from n q fs) w x
set_alike n w r q [] x same = refl
set_alike n zero r q (f ∷ fs) x same = ap (λ (xs : List Standing). x ∷ xs) (alike_from (suc n) r q fs (λ k far. same k (λ e. omega arith)))
set_alike n (suc w) r q (f ∷ fs) x same =
    let here : r n ≡ q n = same n (λ e. omega arith) in
    let more = set_alike (suc n) w r q fs x (λ k apart. same k (λ e. apart (omega arith))) in
    λ i. branch (here i) f ∷ more i

pub set_chosen : (w : ℕ) (b : Bool) (refused : ℕ → Bool) (fs : List Fork) (x : Standing)
    → set (branches (chosen w b refused) fs) w x ≡ set (branches refused fs) w x
set_chosen w b refused fs x = set_alike 0 w (chosen w b refused) refused fs x (λ k apart. chosen_else w b refused k (λ e. apart (omega arith)))

set_from : (n w : ℕ) (r : ℕ → Bool) (fs : List Fork) (f : Fork) → branches_from n r (set fs w f) ≡ set (branches_from n r fs) w (branch (r (n + w)) f)
set_from n w r [] f = refl
set_from n zero r (g ∷ fs) f = let e : n ≡ n + zero = omega arith in ap (λ (k : ℕ). branch (r k) f ∷ branches_from (suc n) r fs) e
set_from n (suc w) r (g ∷ fs) f =
    let e : suc n + w ≡ n + suc w = omega arith in
    ap (λ (xs : List Standing). branch (r n) g ∷ xs) (set_from (suc n) w r fs f ∙ ap (λ (k : ℕ). set (branches_from (suc n) r fs) w (branch (r k) f)) e)

pub branches_set : (w : ℕ) (refused : ℕ → Bool) (fs : List Fork) (f : Fork) → branches refused (set fs w f) ≡ set (branches refused fs) w (branch (refused w) f)
branches_set w refused fs f =
    let e : 0 + w ≡ w = omega arith in
    set_from 0 w refused fs f ∙ ap (λ (k : ℕ). set (branches refused fs) w (branch (refused k) f)) e

at_from : (n w : ℕ) (r : ℕ → Bool) (fs : List Fork) (f : Fork) → get_elem? fs w ≡ some f → get_elem? (branches_from n r fs) w ≡ some (branch (r (n + w)) f)
at_from n w r [] f at = absurd (some-ne-none f (sym at))
at_from n zero r (g ∷ fs) f at =
    let e : n ≡ n + zero = omega arith in
    ap (λ (h : Fork). some (branch (r n) h)) (some-injective g f at) ∙ ap (λ (k : ℕ). some (branch (r k) f)) e
at_from n (suc w) r (g ∷ fs) f at =
    let e : suc n + w ≡ n + suc w = omega arith in
    at_from (suc n) w r fs f at ∙ ap (λ (k : ℕ). some (branch (r k) f)) e

pub branches_at : (w : ℕ) (refused : ℕ → Bool) (fs : List Fork) (f : Fork) → get_elem? fs w ≡ some f → get_elem? (branches refused fs) w ≡ some (branch (refused w) f)
branches_at w refused fs f at =
    let e : 0 + w ≡ w = omega arith in
    at_from 0 w refused fs f at ∙ ap (λ (k : ℕ). some (branch (refused k) f)) e
