-- The first of the ages that fits is the oldest live cache that fits.
use Rattle.std.proofs.Common.{◌≡◌, ℕ, ◌+◌, ◌<◌, ◌≤◌, ◌∷◌, ◌++◌, Bool, true, false, List, [], length, get_or, take, drop, Option, Some, IsSome, refl, ap, sym, ◌∙◌, subst, arith}
use Rattle.std.proofs.lemmas.List.{drop_more, take-append-drop, length-take-le, get_or-take, get_or_default}
use Rattle.std.specs.List.{All}
use Rattle.std.specs.Map.{lookup}
use Rattle.std.specs.Str.{bytes_eq}
use Rattle.std.proofs.lemmas.List.Elements.{All-head, All-tail}
use Rattle.slub_object_layout.specs.declared.layout.Spec.{Spec}
use Rattle.slub_cache_create.specs.Table.{Table, cache_of, number_of}
use Rattle.slub_cache_create.specs.Merging.{FitsAt, IsOldestFit, NoneFits}
use Rattle.slub_cache_create.specs.Sound.{IsSound}

pub oldest : (s : Table) (spec : Spec) (items : List ℕ) (i : ℕ) → items ≡ s.ages → i < length items
    → ((k : ℕ) → k < i → ¬ FitsAt s spec (get_or s.ages k 0)) → FitsAt s spec (get_or items i 0) → IsOldestFit s spec (get_or items i 0)
oldest s spec items i same inside none fits =
    let within : i < length s.ages = omega (arith, ap length same) in
    let here : get_or items i 0 ≡ get_or s.ages i 0 = ap (λ (xs : List ℕ). get_or xs i 0) same in
    record {
      older = take i s.ages;
      newer = drop (i + 1) s.ages;
      aged = sym (take-append-drop i s.ages) ∙ ap (λ (xs : List ℕ). take i s.ages ++ xs) (drop_more s.ages i 0 within) ∙ ap (λ (x : ℕ). take i s.ages ++ x ∷ drop (i + 1) s.ages) (sym here);
      fits = fits;
      none_older = λ k d less fit.
          let short = length-take-le i s.ages (omega arith) in
          let before : k < i = omega (arith, short, less) in
          let inner : k < length s.ages = omega arith in
          none k before (subst (FitsAt s spec) (get_or-take i s.ages k d before ∙ get_or_default s.ages k d 0 inner) fit);
    }

pub none_fits : (s : Table) (spec : Spec) (items : List ℕ) (i : ℕ) → items ≡ s.ages → length items ≤ i
    → ((k : ℕ) → k < i → ¬ FitsAt s spec (get_or s.ages k 0)) → NoneFits s spec
none_fits s spec items i same past none = λ k d less fit.
    none k (omega (arith, ap length same)) (subst (FitsAt s spec) (get_or_default s.ages k d 0 less) fit)

-- what a live name names is live
found-All : {K : Type 0} (P : ℕ → Type 0) (test : K → Bool) (es : List (K × ℕ)) (k : ℕ) → All (λ e. P e.1) es → lookup test es ≡ Some k → P k
found-All P test [] k all is = absurd cc
found-All P test (e ∷ es) k all is = by (test e.0) refl (found-All P test es k (All-tail (λ e. P e.1) e es all))
  where
    by : (b : Bool) → test e.0 ≡ b → (lookup test es ≡ Some k → P k) → P k
    by true yes' below = let here : ◌≡◌ {A = Option ℕ} (Some e.1) (Some k) = rw yes' at is in let same : e.1 ≡ k = cc in subst P same (All-head (λ e. P e.1) e es all)
    by false no' below = below (rw no' at is)

pub named_alive : (s : Table) (name : List ℕ) (cache : ℕ) → IsSound s → number_of s name ≡ Some cache → IsSome (cache_of s cache)
named_alive s name cache sound is = found-All (λ c. IsSome (cache_of s c)) (bytes_eq name) s.live cache sound.alive is
