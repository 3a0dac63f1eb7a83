-- The value of one lock, read and written.
use Rattle.std.proofs.Common.{◌≡◌, ℕ, zero, suc, ◌<◌, List, [], ◌∷◌, length, get_or, set, sym, ◌∙◌, ap, subst, arith, inl, inr}
use Rattle.std.proofs.lemmas.Bool.{cases_eq}
use Rattle.std.proofs.lemmas.List.{get_or_read, get_or-set_same, get_or-set_other}
use Rattle.slub_core.specs.World.{LockValue, update}
use Rattle.slub_core.proofs.Update.{update_at, update_other}
use Rattle.slub_core.specs.declared.guarded.Guarded.{Guarded}
use Rattle.slub_core.specs.declared.guarded.Guarded.TheVariants.{Nothing}
use Rattle.slub_core.specs.Values.{value_in, values_of}
use Rattle.slub_checked_paths.specs.Slabs.{IsCheckedValue}

-- a checked cache's lock is one of the locks
pub within : (values : List Guarded) (n : ℕ) → IsCheckedValue (values_of values n) → n < length values
within [] n h = absurd h
within (v ∷ vs) zero h = omega arith
within (v ∷ vs) (suc n) h = let later = within vs n h in omega (arith, later)

-- what an access reads is the value there
pub read : (values : List Guarded) (n lock : ℕ) (x : Guarded) → n ≡ lock → IsCheckedValue (values_of values lock) → x ≡ get_or values n x → value_in (get_or values n x) ≡ values_of values lock
read values n lock x at held is =
    let below : n < length values = subst (λ (k : ℕ). k < length values) (sym at) (within values lock held) in
    ap value_in (sym is ∙ get_or_read values n x below is Nothing) ∙ ap (values_of values) at

-- what is written at one lock
written-at : (values : List Guarded) (n : ℕ) (x : Guarded) (v : LockValue) → n < length values → value_in x ≡ v → values_of (set values n x) ≡ update (values_of values) n v
written-at values n x v below is = λ i k. each k i
  where
    each : (k : ℕ) → values_of (set values n x) k ≡ update (values_of values) n v k
    each k =
        elim (cases_eq k n) [
          | inl e ↦ ap (λ (j : ℕ). value_in (get_or (set values n x) j Nothing)) e ∙ ap value_in (get_or-set_same values n x Nothing below) ∙ is ∙ sym (update_at (values_of values) n v k e)
          | inr d ↦ ap value_in (get_or-set_other values n k x Nothing d) ∙ sym (update_other (values_of values) n v k d)
        ]

pub written : (values : List Guarded) (n lock : ℕ) (x : Guarded) (v : LockValue) → n ≡ lock → IsCheckedValue (values_of values lock) → value_in x ≡ v
    → values_of (set values n x) ≡ update (values_of values) lock v
written values n lock x v at held is =
    let below : n < length values = subst (λ (k : ℕ). k < length values) (sym at) (within values lock held) in
    written-at values n x v below is ∙ ap (λ (k : ℕ). update (values_of values) k v) at

-- nothing changes where the value stays
kept-at : (values : List Guarded) (n : ℕ) (x : Guarded) → n < length values → value_in x ≡ values_of values n → values_of (set values n x) ≡ values_of values
kept-at values n x below is = λ i k. each k i
  where
    each : (k : ℕ) → values_of (set values n x) k ≡ values_of values k
    each k =
        elim (cases_eq k n) [
          | inl e ↦ ap (λ (j : ℕ). value_in (get_or (set values n x) j Nothing)) e ∙ ap value_in (get_or-set_same values n x Nothing below) ∙ is ∙ ap (values_of values) (sym e)
          | inr d ↦ ap value_in (get_or-set_other values n k x Nothing d)
        ]

pub kept : (values : List Guarded) (n lock : ℕ) (x : Guarded) → n ≡ lock → IsCheckedValue (values_of values lock) → value_in x ≡ values_of values lock
    → values_of (set values n x) ≡ values_of values
kept values n lock x at held is =
    let below : n < length values = subst (λ (k : ℕ). k < length values) (sym at) (within values lock held) in
    kept-at values n x below (is ∙ ap (values_of values) (sym at))
