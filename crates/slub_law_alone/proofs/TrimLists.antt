-- How many slabs of a cache go as what a CPU has of it is put away and moved, and that no other slab changes.
use Rattle.std.proofs.Common.{◌≡◌, ℕ, ◌+◌, ◌<◌, ◌≤◌, false, cond, eqb, List, [], ◌∷◌, ◌++◌, length, set, Option, Some, None, IsSome, option_map, inl, inr, refl, ap, sym, ◌∙◌, subst, arith}
use Rattle.std.specs.Prelude.{is_some, nat_lt, IfSome, ⊤}
use Rattle.std.specs.Option.{option_map_or}
use Rattle.std.proofs.lemmas.Bool.{cases_Bool, cond_both, eq-eqb}
use Rattle.std.proofs.lemmas.List.{get_or-set_same, get_or-set_other}
use Rattle.std.proofs.lemmas.List.Sums.{sum_by-set}
use Rattle.slub_common.specs.Times.{times}
use Rattle.slub_lists.specs.declared.lists.Slab.{Slab}
use Rattle.slub_lists.specs.State.{State}
use Rattle.slub_lists.specs.Alloc.{cpu_place, lists_of, marked, node_of, own_free, slab_of, with_node}
use Rattle.slub_lists.specs.Coherent.{IsConsistent}
use Rattle.slub_lists.specs.Free.{discarded, is_spare, moved, moved_all, with_partial}
use Rattle.slub_lists.specs.Leaving.{LeavesSlabs}
use Rattle.slub_lists.specs.Shrink.{is_slab_of, min_partial_of, moved_partial, put_away, put_away_slab, put_on_node, put_where, slabs_of, taken_down}
use Rattle.slub_lists.proofs.Coherence.{live-inside}
use Rattle.slub_lists.proofs.Leaving.{leaves-both, leaves-discarded, leaves-put_away, leaves-same}
use Rattle.slub_lists.proofs.Listed.{current-counted-at, partial-counted-at}
use Rattle.slub_lists.proofs.Shaped.{IsLiveOf}
use Rattle.slub_core.specs.declared.spot.Sweep.TheVariants.{Trimming}
use Rattle.slub_core.specs.World.{one_if}
use Rattle.slub_core.proofs.Lists.{times-first}
use Rattle.slub_law_alone.specs.Away.{spare_among, told_of_current, told_of_partial}
use Rattle.slub_law_alone.proofs.Movable.{AreMovable, list_movable}

-- ---- slabs of the cache

abbrev pub IsOf : State → ℕ → ℕ → Type 0
IsOf s k f = (y : Slab) × (slab_of s f ≡ Some y) × (y.cache ≡ k)

-- each of them is one, and there once
abbrev pub AreOf : State → ℕ → List ℕ → Type 0
AreOf s k [] = ⊤
AreOf s k (f ∷ fs) = IsOf s k f × (times f fs ≡ 0) × AreOf s k fs

pub live_of : (s : State) (k f : ℕ) → IsOf s k f → IsLiveOf k (slab_of s f)
live_of s k f is = subst (IsLiveOf k) (sym is.1) is.2

pub is_inside : (s : State) (k f : ℕ) → IsOf s k f → f < length s.slabs
is_inside s k f is = live-inside s.slabs f (ap is_some is.1)

some_of : (k : ℕ) (o : Option Slab) → IsSome o → IfSome o (λ y. y.cache ≡ k) → (y : Slab) × (o ≡ Some y) × (y.cache ≡ k)
some_of k None some of_cache = absurd (let e = some in cc e)
some_of k (Some y) some of_cache = (y, refl, of_cache)

-- another one stays
pub of_other : (s : State) (k f g : ℕ) (fs : List (List ℕ)) → (f ≡ g → ⊥) → IsOf s k f → IsOf (record s { slabs = set s.slabs g None; frees = fs }) k f
of_other s k f g fs away is = (is.0, get_or-set_other s.slabs g f None None away ∙ is.1, is.2)

pub of_others : (s t : State) (k g : ℕ) (fs : List ℕ) → times g fs ≡ 0 → ((f : ℕ) → (f ≡ g → ⊥) → IsOf s k f → IsOf t k f) → AreOf s k fs → AreOf t k fs
of_others s t k g [] off stays are = tt
of_others s t k g (f ∷ fs) off stays are =
    let c = times-first g f fs in
    let away : f ≡ g → ⊥ = λ e. absurd (let o : one_if (eqb f g) ≡ 1 = ap one_if (eq-eqb f g e) in omega (arith, c, o, off)) in
    (stays f away are.0, are.1, of_others s t k g fs (omega (arith, c, off)) stays are.2)

-- one that goes
pub gone_counts : (s : State) (k f : ℕ) → IsOf s k f → 1 + slabs_of (discarded s f) k ≡ slabs_of s k
gone_counts s k f is =
    let c = sum_by-set (λ z. cond {A = ℕ} (is_slab_of k z) 1 0) s.slabs f None None (is_inside s k f is) in
    let one : cond {A = ℕ} (is_slab_of k (slab_of s f)) 1 0 ≡ 1 = ap (λ o. cond {A = ℕ} (is_slab_of k o) 1 0) is.1 ∙ ap (λ z. cond {A = ℕ} z 1 0) (eq-eqb is.0.cache k is.2) in
    omega (arith, c, one)

-- ---- a set that is moved

module _ (min k : ℕ) where
  one_moved : (s : State) (f : ℕ) → IsOf s k f → (cond {A = ℕ} (is_spare s min k f) 1 0 + slabs_of (moved min k s f) k ≡ slabs_of s k) × LeavesSlabs s k (moved min k s f)
  one_moved s f is = elim (cases_Bool (is_spare s min k f)) [
    | inl spare ↦ (
      (λ i. cond {A = ℕ} (spare i) 1 0 + slabs_of (cond {A = State} (spare i) (discarded s f) (with_node s k (node_of s k ++ f ∷ []))) k) ∙ gone_counts s k f is,
      subst (λ z. LeavesSlabs s k (cond {A = State} z (discarded s f) (with_node s k (node_of s k ++ f ∷ [])))) (sym spare) (leaves-discarded s k f (live_of s k f is)),
    )
    | inr kept ↦ (
      (λ i. cond {A = ℕ} (kept i) 1 0 + slabs_of (cond {A = State} (kept i) (discarded s f) (with_node s k (node_of s k ++ f ∷ []))) k) ∙ (omega arith),
      subst (λ z. LeavesSlabs s k (cond {A = State} z (discarded s f) (with_node s k (node_of s k ++ f ∷ [])))) (sym kept) (leaves-same s (with_node s k (node_of s k ++ f ∷ [])) k refl),
    )
  ]

  moved_stays : (s : State) (g f : ℕ) → (f ≡ g → ⊥) → IsOf s k f → IsOf (moved min k s g) k f
  moved_stays s g f away is = cond_both (is_spare s min k g) (discarded s g) (with_node s k (node_of s k ++ g ∷ [])) (λ t. IsOf t k f) (λ _. of_other s k f g (set s.frees g []) away is) (λ _. is)

  pub all_counted : (fs : List ℕ) (s : State) → AreOf s k fs → (spare_among s min k fs + slabs_of (moved_all s min k fs) k ≡ slabs_of s k) × LeavesSlabs s k (moved_all s min k fs)
  all_counted [] s are = (omega arith, leaves-same s s k refl)
  all_counted (f ∷ fs) s are =
      let first = one_moved s f are.0 in
      let rest = all_counted fs (moved min k s f) (of_others s (moved min k s f) k f fs are.1 (λ g away is. moved_stays s f g away is) are.2) in
      ((let a = first.0 in let b = rest.0 in omega (arith, a, b)), leaves-both s (moved min k s f) (moved_all (moved min k s f) min k fs) k first.1 rest.1)

-- ---- a CPU

of_list : (s : State) (k c : ℕ) → IsConsistent s → c < s.cpus → (fs : List ℕ) → ((f : ℕ) → times f fs ≤ times f (lists_of s k c).partial) → AreMovable s k fs → AreOf s k fs
of_list s k c consistent below [] on are = tt
of_list s k c consistent below (f ∷ fs) on are =
    let here = times-first f f fs in let o : one_if (eqb f f) ≡ 1 = ap one_if (eq-eqb f f refl) in let some = on f in
    let counted = partial-counted-at s f (cpu_place s k c) in
    (some_of k (slab_of s f) (consistent.listed.live f (omega (arith, here, o, some, counted))) are.0.of_cache, are.1, of_list s k c consistent below fs (λ g. let t = times-first g f fs in let m = on g in omega (arith, t, m)) are.2)

pub partial_counted : (s : State) (k c : ℕ) → IsConsistent s → c < s.cpus → (told_of_partial s Trimming k c + slabs_of (moved_partial s (min_partial_of s k) k c) k ≡ slabs_of s k) × LeavesSlabs s k (moved_partial s (min_partial_of s k) k c)
partial_counted s k c consistent below =
    let r = all_counted (min_partial_of s k) k (lists_of s k c).partial (with_partial s k c []) (of_list s k c consistent below (lists_of s k c).partial (λ f. omega arith) (list_movable s k c consistent below)) in
    ((let a = r.0 in omega (arith, a)), r.1)

frozen_same : (k : ℕ) (o : Option Slab) → is_slab_of k (option_map (marked false) o) ≡ is_slab_of k o
frozen_same k None = refl
frozen_same k (Some y) = refl

pub away_counted : (s : State) (k c : ℕ) → IsConsistent s → k < 32 → c < s.cpus → (told_of_current s Trimming k c + slabs_of (put_away s (min_partial_of s k) k c) k ≡ slabs_of s k) × LeavesSlabs s k (put_away s (min_partial_of s k) k c)
away_counted s k c consistent inside below = (by (lists_of s k c).current refl, leaves-put_away s (min_partial_of s k) k c consistent inside below)
  where
    by : (o : Option ℕ) → (lists_of s k c).current ≡ o
        → option_map_or (λ f. 0 + cond {A = ℕ} (is_spare (taken_down s k c f) (min_partial_of s k) k f) 1 0) o 0 + slabs_of (option_map_or (put_away_slab s (min_partial_of s k) k c) o s) k ≡ slabs_of s k
    by None none = omega arith
    by (Some f) current = (let a = put in let b = down in omega (arith, a, b))
      where
        of_f : IsOf s k f
        of_f = some_of k (slab_of s f) (consistent.listed.live f (let one = current-counted-at s f (cpu_place s k c) current in omega (arith, one))) (consistent.listed.of_current k c f below current)

        down : slabs_of (taken_down s k c f) k ≡ slabs_of s k
        down = let c = sum_by-set (λ z. cond {A = ℕ} (is_slab_of k z) 1 0) s.slabs f (option_map (marked false) (slab_of s f)) None (is_inside s k f of_f) in
            let e = ap (λ z. cond {A = ℕ} z 1 0) (frozen_same k (slab_of s f)) in omega (arith, c, e)

        of_t : IsOf (taken_down s k c f) k f
        of_t = (marked false of_f.0, get_or-set_same s.slabs f (option_map (marked false) (slab_of s f)) None (is_inside s k f of_f) ∙ ap (option_map (marked false)) of_f.1, of_f.2)

        on_same : (own : List ℕ) → slabs_of (put_on_node (taken_down s k c f) k f own) k ≡ slabs_of (taken_down s k c f) k
        on_same [] = refl
        on_same (y ∷ ys) = refl

        put : cond {A = ℕ} (is_spare (taken_down s k c f) (min_partial_of s k) k f) 1 0 + slabs_of (put_where (taken_down s k c f) (min_partial_of s k) k f (own_free s f)) k ≡ slabs_of (taken_down s k c f) k
        put = elim (cases_Bool (is_spare (taken_down s k c f) (min_partial_of s k) k f)) [
          | inl spare ↦ (λ i. cond {A = ℕ} (spare i) 1 0 + slabs_of (cond {A = State} (spare i) (discarded (taken_down s k c f) f) (cond {A = State} (nat_lt 0 (length (own_free (taken_down s k c f) f))) (put_on_node (taken_down s k c f) k f (own_free s f)) (taken_down s k c f))) k) ∙ gone_counts (taken_down s k c f) k f of_t
          | inr kept ↦ (λ i. cond {A = ℕ} (kept i) 1 0 + slabs_of (cond {A = State} (kept i) (discarded (taken_down s k c f) f) (cond {A = State} (nat_lt 0 (length (own_free (taken_down s k c f) f))) (put_on_node (taken_down s k c f) k f (own_free s f)) (taken_down s k c f))) k)
              ∙ ap (λ n. 0 + n) (cond_both (nat_lt 0 (length (own_free (taken_down s k c f) f))) (put_on_node (taken_down s k c f) k f (own_free s f)) (taken_down s k c f) (λ y. slabs_of y k ≡ slabs_of (taken_down s k c f) k) (λ _. on_same (own_free s f)) (λ _. refl)) ∙ (omega arith)
        ]
