-- What a scan of a node list finds of each slab, and that it stays so of the others where one goes: in lists.
use Rattle.std.proofs.Common.{◌≡◌, ℕ, zero, suc, ◌+◌, ◌-◌, ◌<◌, ◌≤◌, cond, eqb, List, [], ◌∷◌, ◌++◌, length, map, filter, take, drop, None, inl, inr, refl, ap, sym, ◌∙◌, subst, arith}
use Rattle.std.specs.Prelude.{is_some, IfSome, not, slice_index, ⊤}
use Rattle.std.specs.Option.{option_map_or}
use Rattle.std.proofs.lemmas.Bool.{cases_eq, eq-eqb, ne_eqb}
use Rattle.std.proofs.lemmas.List.{get_or-set_other}
use Rattle.slub_common.specs.Times.{times}
use Rattle.slub_common.proofs.Sums.{element-counted}
use Rattle.slub_lists.specs.declared.lists.Slab.{Slab}
use Rattle.slub_lists.specs.State.{State}
use Rattle.slub_lists.specs.Alloc.{cache_of, checked_of, node_of, own_free}
use Rattle.slub_lists.specs.Coherent.{IsConsistent, times_partial}
use Rattle.slub_lists.specs.Free.{discarded, inuse_of, without_slab}
use Rattle.slub_lists.proofs.Places.{listed-is}
use Rattle.slub_core.specs.World.{size_in, one_if}
use Rattle.slub_core.specs.Offline.{without_at}
use Rattle.slub_core.proofs.Lists.{times-first}
use Rattle.slub_law_opening.specs.Opening.{value_of}
use Rattle.slub_law_alone.proofs.Movable.{no_value, size_kept}
use Rattle.slub_law_alone.proofs.TrimLists.{IsOf}

-- ---- a slab at a place of a list

pub at_seam : (done : List ℕ) (f : ℕ) (fs : List ℕ) → slice_index (done ++ f ∷ fs) (length done) ≡ f
at_seam [] f fs = refl
at_seam (g ∷ done) f fs = at_seam done f fs

pub without_seam : (done : List ℕ) (f : ℕ) (fs : List ℕ) → without_at (done ++ f ∷ fs) (length done) ≡ done ++ fs
without_seam [] f fs = refl
without_seam (g ∷ done) f fs = ap (λ n. take (suc (length done)) (g ∷ done ++ f ∷ fs) ++ drop n (g ∷ done ++ f ∷ fs)) (let e : suc (length done) + 1 ≡ suc (length done + 1) = omega arith in e) ∙ ap (λ xs. g ∷ xs) (without_seam done f fs)

filter_off : (f : ℕ) (xs : List ℕ) → times f xs ≡ 0 → filter (λ other. not (eqb other f)) xs ≡ xs
filter_off f [] none = refl
filter_off f (g ∷ xs) none =
    let c = times-first f g xs in
    let away : g ≡ f → ⊥ = λ e. absurd (let o : one_if (eqb g f) ≡ 1 = ap one_if (eq-eqb g f e) in omega (arith, c, o, none)) in
    ap (λ z. cond {A = List ℕ} (not z) (g ∷ filter (λ other. not (eqb other f)) xs) (filter (λ other. not (eqb other f)) xs)) (ne_eqb g f away) ∙ ap (λ xs. g ∷ xs) (filter_off f xs (omega (arith, c, none)))

pub filter_seam : (done : List ℕ) (f : ℕ) (fs : List ℕ) → times f done ≡ 0 → times f fs ≡ 0 → filter (λ other. not (eqb other f)) (done ++ f ∷ fs) ≡ done ++ fs
filter_seam [] f fs off none = ap (λ z. cond {A = List ℕ} (not z) (f ∷ filter (λ other. not (eqb other f)) fs) (filter (λ other. not (eqb other f)) fs)) (eq-eqb f f refl) ∙ filter_off f fs none
filter_seam (g ∷ done) f fs off none =
    let c = times-first f g done in
    let away : g ≡ f → ⊥ = λ e. absurd (let o : one_if (eqb g f) ≡ 1 = ap one_if (eq-eqb g f e) in omega (arith, c, o, off)) in
    ap (λ z. cond {A = List ℕ} (not z) (g ∷ filter (λ other. not (eqb other f)) (done ++ f ∷ fs)) (filter (λ other. not (eqb other f)) (done ++ f ∷ fs))) (ne_eqb g f away) ∙ ap (λ xs. g ∷ xs) (filter_seam done f fs (omega (arith, c, off)) none)

-- ---- what the scan relies on

-- a slab of the cache with a free object, on the cache's node list and no other, and of no checked cache
pub record IsScanned (s : State) (k f : ℕ) : Type 0 where
  pub slab : IsOf s k f
  pub stocked : 0 < length (own_free s f)
  pub off_others : (i : ℕ) → (i ≡ k → ⊥) → times f (node_of s i) ≡ 0
  pub off_values : (n : ℕ) → size_in (value_of s n) f ≡ 0

-- each of them is one, and there once
abbrev pub AreScanned : State → ℕ → List ℕ → Type 0
AreScanned s k [] = ⊤
AreScanned s k (f ∷ fs) = IsScanned s k f × (times f fs ≡ 0) × AreScanned s k fs

scanned_on : (s : State) (k f : ℕ) → IsConsistent s → 1 ≤ times f (node_of s k) → IsScanned s k f
scanned_on s k f consistent has =
    let e = element-counted (times f) s.nodes k [] refl in
    let partial : 0 < times_partial s f = omega (arith, e, has) in
    let at = listed-is s f consistent partial in
    let own : at.0.cache ≡ k = subst (λ o. IfSome o (λ (y : Slab). y.cache ≡ k)) at.1 (consistent.listed.of_node k f has) in
    record {
      slab = (at.0, at.1, own);
      stocked = consistent.listed.stocked f partial;
      off_others = λ i away. elim (cases_eq (times f (node_of s i)) 0) [
        | inl none ↦ none
        | inr some ↦ absurd (away (sym (subst (λ o. IfSome o (λ (y : Slab). y.cache ≡ i)) at.1 (consistent.listed.of_node i f (omega (arith, some)))) ∙ own))
      ];
      off_values = no_value s f at.0 consistent at.1 at.2;
    }

all_scanned : (s : State) (k : ℕ) → IsConsistent s → (fs : List ℕ) → ((f : ℕ) → times f fs ≤ times f (node_of s k)) → AreScanned s k fs
all_scanned s k consistent [] on = tt
all_scanned s k consistent (f ∷ fs) on =
    let here = times-first f f fs in let o : one_if (eqb f f) ≡ 1 = ap one_if (eq-eqb f f refl) in let some = on f in
    let e = element-counted (times f) s.nodes k [] refl in let once = consistent.listed.once f in
    (scanned_on s k f consistent (omega (arith, here, o, some)), omega (arith, here, o, some, e, once), all_scanned s k consistent fs (λ g. let t = times-first g f fs in let m = on g in omega (arith, t, m)))

pub node_scanned : (s : State) (k : ℕ) → IsConsistent s → AreScanned s k (node_of s k)
node_scanned s k consistent = all_scanned s k consistent (node_of s k) (λ f. omega arith)

-- ---- one goes

module _ (s : State) (k g : ℕ) where
  abbrev gone : State
  gone = discarded (without_slab s k g) g

  pub scanned_stays : (f : ℕ) → (f ≡ g → ⊥) → IsScanned s k f → IsScanned (discarded (without_slab s k g) g) k f
  scanned_stays f away is = record {
    slab = (is.slab.0, get_or-set_other s.slabs g f None None away ∙ is.slab.1, is.slab.2);
    stocked = subst (λ (xs : List ℕ). 0 < length xs) (sym (get_or-set_other s.frees g f [] [] away)) is.stocked;
    off_others = λ i apart. ap (times f) (get_or-set_other s.nodes k i (filter (λ other. not (eqb other g)) (node_of s k)) [] apart) ∙ is.off_others i apart;
    off_values = off;
  }
    where
      off : (n : ℕ) → size_in (value_of (discarded (without_slab s k g) g) n) f ≡ 0
      off zero = refl
      off (suc n) = size_kept (is_some (cache_of s n)) (checked_of s n) (node_of (without_slab s k g) n) (node_of s n) f ∙ is.off_values (suc n)

  pub all_stay : (fs : List ℕ) → times g fs ≡ 0 → AreScanned s k fs → AreScanned (discarded (without_slab s k g) g) k fs
  all_stay [] off are = tt
  all_stay (f ∷ fs) off are =
      let c = times-first g f fs in
      let away : f ≡ g → ⊥ = λ e. absurd (let o : one_if (eqb f g) ≡ 1 = ap one_if (eq-eqb f g e) in omega (arith, c, o, off)) in
      (scanned_stays f away are.0, are.1, all_stay fs (omega (arith, c, off)) are.2)

  -- of the others as many objects are free, and in use
  pub counts_stay : (xs : List ℕ) → times g xs ≡ 0 → map (λ f. length (own_free (discarded (without_slab s k g) g) f)) xs ≡ map (λ f. length (own_free s f)) xs
  counts_stay [] off = refl
  counts_stay (f ∷ xs) off =
      let c = times-first g f xs in
      let away : f ≡ g → ⊥ = λ e. absurd (let o : one_if (eqb f g) ≡ 1 = ap one_if (eq-eqb f g e) in omega (arith, c, o, off)) in
      (λ i. length (get_or-set_other s.frees g f [] [] away i) ∷ counts_stay xs (omega (arith, c, off)) i)

  pub used_stays : (f : ℕ) → (f ≡ g → ⊥) → inuse_of (discarded (without_slab s k g) g) f ≡ inuse_of s f
  used_stays f away = λ i. option_map_or (λ (y : Slab). y.objects) (get_or-set_other s.slabs g f None None away i) 0 - length (get_or-set_other s.frees g f [] [] away i)
