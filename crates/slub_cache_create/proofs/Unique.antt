-- What a creation does is the only thing that it can do.
use Rattle.std.proofs.Common.{◌≡◌, ℕ, ◌<◌, ◌∷◌, ◌++◌, List, [], length, get_or, Option, Some, None, IsSome, refl, ap, sym, ◌∙◌, subst, inl, inr, arith, length-append}
use Rattle.std.specs.List.{All}
use Rattle.std.proofs.lemmas.Bool.{cases_lt}
use Rattle.std.proofs.lemmas.List.{get_or_at}
use Rattle.std.proofs.lemmas.List.Elements.{All-head, All-tail}
use Rattle.slub_object_layout.specs.declared.layout.Layout.{Layout}
use Rattle.slub_object_layout.specs.declared.layout.Spec.{Spec}
use Rattle.slub_object_layout.proofs.Unique.{layouts_same}
use Rattle.slub_cache_create.specs.declared.caches.Created.{Created}
use Rattle.slub_cache_create.specs.declared.caches.Created.TheVariants.{New, Merged}
use Rattle.slub_cache_create.specs.Table.{Table, cache_of}
use Rattle.slub_cache_create.specs.Merging.{FitsAt, IsOldestFit, NoneFits}
use Rattle.slub_cache_create.specs.Create.{Creates, IsLeastUnused, with_alias, with_cache}

-- two lists are one, and each has its first number of some kind
first_same : (P : ℕ → Type 0) (older newer older' newer' : List ℕ) (k j : ℕ) → older ++ k ∷ newer ≡ older' ++ j ∷ newer' → P k → P j
    → All (λ x. ¬ P x) older → All (λ x. ¬ P x) older' → k ≡ j
first_same P [] newer [] newer' k j same at_k at_j none none' = cc
first_same P [] newer (y ∷ ys) newer' k j same at_k at_j none none' =
    let e : k ≡ y = cc in absurd (All-head (λ x. ¬ P x) y ys none' (subst P e at_k))
first_same P (x ∷ xs) newer [] newer' k j same at_k at_j none none' =
    let e : j ≡ x = cc in absurd (All-head (λ x. ¬ P x) x xs none (subst P e at_j))
first_same P (x ∷ xs) newer (y ∷ ys) newer' k j same at_k at_j none none' =
    let rest : xs ++ k ∷ newer ≡ ys ++ j ∷ newer' = cc in
    first_same P xs newer ys newer' k j rest at_k at_j (All-tail (λ x. ¬ P x) x xs none) (All-tail (λ x. ¬ P x) y ys none')

oldest_same : (s : Table) (spec : Spec) (k j : ℕ) → IsOldestFit s spec k → IsOldestFit s spec j → k ≡ j
oldest_same s spec k j one other =
    first_same (FitsAt s spec) one.older one.newer other.older other.newer k j (sym one.aged ∙ other.aged) one.fits other.fits one.none_older other.none_older

-- where none fits, none is the oldest that fits
none_oldest : (s : Table) (spec : Spec) (k : ℕ) → NoneFits s spec → IsOldestFit s spec k → ⊥
none_oldest s spec k none one =
    let long = ap length one.aged in
    let more = length-append one.older (k ∷ one.newer) in
    let inside : length one.older < length s.ages = omega (arith, long, more) in
    let here : get_or s.ages (length one.older) 0 ≡ k = ap (λ (xs : List ℕ). get_or xs (length one.older) 0) one.aged ∙ get_or_at one.older k one.newer 0 (length one.older) refl in
    none (length one.older) 0 inside (subst (FitsAt s spec) (sym here) one.fits)

-- a number that is in use is not unused
used : {Y : Type 0} (x : Option Y) → x ≡ None → IsSome x → ⊥
used None is some = absurd cc
used (Some y) is some = absurd cc

least_same : (s : Table) (k j : ℕ) → IsLeastUnused s k → IsLeastUnused s j → k ≡ j
least_same s k j one other =
    elim (cases_lt k j) [
      | inl less ↦ absurd (used (cache_of s k) one.unused (other.least k less))
      | inr most ↦ elim (cases_lt j k) [
        | inl less ↦ absurd (used (cache_of s j) other.unused (one.least j less))
        | inr least ↦ omega arith
      ]
    ]

pub creates_same : (s : Table) (name : List ℕ) (spec : Spec) (cpus : ℕ) (one other : Created) (a b : Table) → Creates s name spec cpus one a → Creates s name spec cpus other b
    → (one ≡ other) × (a ≡ b)
creates_same s name spec cpus (Merged k) (Merged j) a b x y =
    let same = oldest_same s spec k j x.0 y.0 in (ap (λ (n : ℕ). Merged n) same, x.1 ∙ ap (with_alias s name spec) same ∙ sym y.1)
creates_same s name spec cpus (Merged k) (New j) a b x y = absurd (none_oldest s spec k y.0 x.0)
creates_same s name spec cpus (New k) (Merged j) a b x y = absurd (none_oldest s spec j x.0 y.0)
creates_same s name spec cpus (New k) (New j) a b x y =
    let same = least_same s k j x.1 y.1 in
    let laid = layouts_same spec cpus x.2 y.2 x.3 y.3 in
    (ap (λ (n : ℕ). New n) same, x.4 ∙ ap (λ (l : Layout). with_cache s name spec l k) laid ∙ ap (with_cache s name spec y.2) same ∙ sym y.4)

-- a creation keeps the trace's names
pub creates-kept : (s : Table) (name : List ℕ) (spec : Spec) (cpus : ℕ) (created : Created) (after : Table) → Creates s name spec cpus created after → after.kept ≡ s.kept
creates-kept s name spec cpus (Merged k) after x = ap (λ (t : Table). t.kept) x.1
creates-kept s name spec cpus (New k) after x = ap (λ (t : Table). t.kept) x.4
