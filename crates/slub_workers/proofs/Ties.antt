-- Which seat has which worker.
use Rattle.std.proofs.Common.{◌≡◌, ◌≢◌, ℕ, zero, suc, List, [], ◌∷◌, set, refl, sym, ap, ◌∙◌, subst, ⊎_elim}
use mathlib.Core.Option.{some, some-ne-none}
use lib.ListN.{get_elem?}
use Rattle.atomic_table.proofs.Lists.{at_set, set_else}
use Rattle.slub_workers.specs.Standing.{Fork}
use Rattle.slub_workers.specs.Rule.{Owns, AreTied, IsAbsent, number_in}

pub set_there : (fs : List Fork) (w : ℕ) (f g : Fork) → get_elem? fs w ≡ some g → get_elem? (set fs w f) w ≡ some f
set_there [] w f g at = absurd (some-ne-none g (sym at))
set_there (h ∷ fs) zero f g at = refl
set_there (h ∷ fs) (suc w) f g at = set_there fs w f g at

-- no worker in a list of none
pub none_absent : (w : ℕ) → IsAbsent w []
none_absent w k f at = absurd (some-ne-none f (sym at))

-- another seat's workers stand where they stood, when the worker w of the seat id changes
owns_else : (owner : ℕ → ℕ) (fs : List Fork) (w : ℕ) (f : Fork) (id j : ℕ) (v : List Fork) → owner w ≡ id → j ≢ id → Owns owner fs j v → Owns owner (set fs w f) j v
owns_else owner fs w f id j [] mine apart o = tt
owns_else owner fs w f id j (g ∷ v) mine apart o =
    let other : number_in g ≢ w = λ e. apart (sym o.1 ∙ ap owner e ∙ mine) in
    (set_else fs w (number_in g) f other ∙ o.0, o.1, o.2, owns_else owner fs w f id j v mine apart o.3)

-- a seat's one worker changes
pub tied_step : (owner : ℕ → ℕ) (fs : List Fork) (views : List (List Fork)) (id : ℕ) (f g : Fork) → get_elem? views id ≡ some (f ∷ []) → number_in g ≡ number_in f → AreTied owner fs views
    → AreTied owner (set fs (number_in f) g) (set views id (g ∷ []))
tied_step owner fs views id f g at same t j v e =
    let mine = t id (f ∷ []) at in
    let me : Owns owner (set fs (number_in f) g) id (g ∷ []) =
    (subst (λ (k : ℕ). get_elem? (set fs (number_in f) g) k ≡ some g) (sym same) (set_there fs (number_in f) g f mine.0), ap owner same ∙ mine.1, none_absent (number_in g), tt) in
    ⊎_elim
    (λ (x : (j ≡ id) × ((g ∷ []) ≡ v)). subst (λ (y : ℕ × List Fork). Owns owner (set fs (number_in f) g) y.0 y.1) (λ i. (sym x.0 i, x.1 i)) me)
    (λ (x : (j ≢ id) × (get_elem? views j ≡ some v)). owns_else owner fs (number_in f) g id j v mine.1 x.0 (t j v x.1))
    (at_set views id j (g ∷ []) v e)
