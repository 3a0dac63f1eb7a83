-- What sweeping a checked cache leaves.
use Rattle.std.proofs.Common.{◌≡◌, ◌≢◌, ℕ, zero, suc, ◌+◌, ◌<◌, ◌≤◌, ◌&&◌, Bool, true, false, cond, eqb, nat_lt, not, List, [], ◌∷◌, length, map, get_or, set, filter, fold, refl, sym, ◌∙◌, ap, subst, arith, Option, Some, None, is_some, IsSome, MatchOption, unwrap_or, inl, inr, get_or-set_other, get_or-set_same}
use Rattle.std.specs.Option.{option_map_or}
use Rattle.std.proofs.lemmas.Bool.{cases_Bool, cases_eq, eq-eqb, false≢true, ne_eqb}
use Rattle.slub_common.specs.Times.{times}
use Rattle.slub_common.proofs.Lists.{filter-filter, filter_all}
use Rattle.slub_common.proofs.Times.{times-cons, times-cons_other, times-cons_same, times-contained}
use Rattle.slub_node_partial.specs.Promotion.{IsPromoted}
use Rattle.slub_red_zone.specs.State.{CheckedState, SlabState, no_slab, slab_of as checked_slab}
use Rattle.slub_red_zone.specs.Steps.{free_counts, without_slab as without_checked}
use Rattle.slub_red_zone.specs.Sound.{is_stocked}
use Rattle.slub_lists.specs.declared.lists.Slab.{Slab}
use Rattle.slub_lists.specs.State.{State}
use Rattle.slub_lists.specs.Alloc.{checked_of, slab_of}
use Rattle.slub_lists.specs.Checked.{with_checked}
use Rattle.slub_lists.specs.Coherent.{IsCoherent}
use Rattle.slub_lists.specs.Free.{discarded}
use Rattle.slub_lists.specs.Shrink.{PromotesChecked, all_free, swept_checked_slab}
use Rattle.slub_common.proofs.Writes.{inside-of}
use Rattle.slub_lists.proofs.CheckedSlabs.{was-checked}
use Rattle.slub_lists.proofs.SweepingChecked.{listed-is, listed-slab}
use Rattle.slub_law_replay.specs.Shrinking.{LeavesUsedListed, used_in}
use Rattle.slub_law_replay.proofs.Swept.{filter-same, map-same, not-both, positive, sifted-in}

-- ---- a list of slabs is swept

-- the slab is one of those, and all its objects are free
abbrev goes : List ℕ → CheckedState → ℕ → Bool
goes frames slabs frame = nat_lt 0 (times frame frames) && all_free slabs frame

record IsSweptOf (cache : ℕ) (frames : List ℕ) (s : State) (slabs : CheckedState) (t : State) : Type 0 where
  pub now : CheckedState
  pub there : checked_of t cache ≡ Some now
  pub listed : now.listed ≡ filter (λ frame. not (goes frames slabs frame)) slabs.listed
  pub same : (frame : ℕ) → goes frames slabs frame ≡ false → checked_slab now frame ≡ checked_slab slabs frame
  pub slab : (frame : ℕ) → goes frames slabs frame ≡ false → slab_of t frame ≡ slab_of s frame
  pub gone : (frame : ℕ) → goes frames slabs frame ≡ true → slab_of t frame ≡ None

set-none : (xs : List (Option Slab)) (i : ℕ) → get_or (set xs i None) i None ≡ None
set-none [] i = refl
set-none (x ∷ xs) zero = refl
set-none (x ∷ xs) (suc i) = set-none xs i

module _ (cache x : ℕ) (xs : List ℕ) (s : State) (slabs : CheckedState) (was : checked_of s cache ≡ Some slabs) (once : (frame : ℕ) → times frame (x ∷ xs) ≤ 1) where
  rest-once : (frame : ℕ) → times frame xs ≤ 1
  rest-once frame = omega (arith, once frame, times-cons frame x xs)

  no-more : times x xs ≡ 0
  no-more = omega (arith, once x, times-cons_same x x xs refl)

  abbrev left : CheckedState
  left = without_checked slabs x

  abbrev away : State
  away = discarded (with_checked s cache (without_checked slabs x)) x

  away-was : checked_of away cache ≡ Some left
  away-was = get_or-set_same s.checked cache (Some left) None (inside-of s.checked cache slabs was)

  other-slab : (frame : ℕ) → frame ≢ x → slab_of away frame ≡ slab_of s frame
  other-slab frame differ = get_or-set_other s.slabs x frame None None differ

  other-checked : (frame : ℕ) → frame ≢ x → checked_slab left frame ≡ checked_slab slabs frame
  other-checked frame differ = ap (λ (y : Option SlabState). unwrap_or y no_slab) (get_or-set_other slabs.slabs x frame None None differ)

  swept-is : swept_checked_slab cache s x ≡ cond (all_free slabs x) away s
  swept-is = ap (λ (y : Option CheckedState). option_map_or (λ (c : CheckedState). cond (all_free c x) (discarded (with_checked s cache (without_checked c x)) x) s) y s) was

  goes-other : (frame : ℕ) → frame ≢ x → goes (x ∷ xs) slabs frame ≡ goes xs slabs frame
  goes-other frame differ = ap (λ n. nat_lt 0 n && all_free slabs frame) (times-cons_other frame x xs (λ same. differ (sym same)))

  goes-here : goes (x ∷ xs) slabs x ≡ all_free slabs x
  goes-here = ap (λ n. nat_lt 0 n && all_free slabs x) (times-cons_same x x xs refl) ∙ ap (λ b. b && all_free slabs x) (positive (1 + times x xs) (omega arith))

  goes-not : (c : CheckedState) → goes xs c x ≡ false
  goes-not c = ap (λ n. nat_lt 0 n && all_free c x) no-more

  goes-away : (frame : ℕ) → frame ≢ x → goes (x ∷ xs) slabs frame ≡ goes xs left frame
  goes-away frame differ = goes-other frame differ ∙ sym (ap (λ (slab : SlabState). nat_lt 0 (times frame xs) && eqb (length slab.free) (length slab.states)) (other-checked frame differ))

  same-goes : (used : all_free slabs x ≡ false) (frame : ℕ) → goes (x ∷ xs) slabs frame ≡ goes xs slabs frame
  same-goes used frame = elim (cases_eq frame x) [
    | inl e ↦ subst (λ f. goes (x ∷ xs) slabs f ≡ goes xs slabs f) (sym e) (goes-here ∙ used ∙ sym (goes-not slabs))
    | inr differ ↦ goes-other frame differ
  ]

  stayed : (used : all_free slabs x ≡ false) → IsSweptOf cache xs s slabs (fold (swept_checked_slab cache) s xs) → IsSweptOf cache (x ∷ xs) s slabs (fold (swept_checked_slab cache) s xs)
  stayed used rest = record {
    now = rest.now;
    there = rest.there;
    listed = rest.listed ∙ filter-same (λ frame. not (goes xs slabs frame)) (λ frame. not (goes (x ∷ xs) slabs frame)) slabs.listed (λ frame some. ap not (sym (same-goes used frame)));
    same = λ frame stays. rest.same frame (sym (same-goes used frame) ∙ stays);
    slab = λ frame stays. rest.slab frame (sym (same-goes used frame) ∙ stays);
    gone = λ frame is. rest.gone frame (sym (same-goes used frame) ∙ is);
  }

  both : (unused : all_free slabs x ≡ true) (frame : ℕ) → not (goes (x ∷ xs) slabs frame) ≡ (not (eqb frame x) && not (goes xs left frame))
  both unused frame = elim (cases_eq frame x) [
    | inl e ↦ subst (λ f. not (goes (x ∷ xs) slabs f) ≡ (not (eqb f x) && not (goes xs left f))) (sym e)
        (ap not (goes-here ∙ unused) ∙ sym (ap (λ b. not b && not (goes xs left x)) (eq-eqb x x refl)))
    | inr differ ↦ ap not (goes-away frame differ) ∙ sym (ap (λ b. not b && not (goes xs left frame)) (ne_eqb frame x differ))
  ]

  went : (unused : all_free slabs x ≡ true) → IsSweptOf cache xs away left (fold (swept_checked_slab cache) away xs) → IsSweptOf cache (x ∷ xs) s slabs (fold (swept_checked_slab cache) away xs)
  went unused rest = record {
    now = rest.now;
    there = rest.there;
    listed = rest.listed ∙ filter-filter (λ frame. not (goes xs left frame)) (λ other. not (eqb other x)) (λ frame. not (goes (x ∷ xs) slabs frame)) (both unused) slabs.listed;
    same = λ frame stays. elim (cases_eq frame x) [
      | inl e ↦ absurd (false≢true (sym stays ∙ ap (goes (x ∷ xs) slabs) e ∙ goes-here ∙ unused))
      | inr differ ↦ rest.same frame (sym (goes-away frame differ) ∙ stays) ∙ other-checked frame differ
    ];
    slab = λ frame stays. elim (cases_eq frame x) [
      | inl e ↦ absurd (false≢true (sym stays ∙ ap (goes (x ∷ xs) slabs) e ∙ goes-here ∙ unused))
      | inr differ ↦ rest.slab frame (sym (goes-away frame differ) ∙ stays) ∙ other-slab frame differ
    ];
    gone = λ frame is. elim (cases_eq frame x) [
      | inl e ↦ subst (λ f. slab_of (fold (swept_checked_slab cache) away xs) f ≡ None) (sym e) (rest.slab x (goes-not left) ∙ set-none s.slabs x)
      | inr differ ↦ rest.gone frame (sym (goes-away frame differ) ∙ is)
    ];
  }

are-swept : (cache : ℕ) (frames : List ℕ) (s : State) (slabs : CheckedState) → checked_of s cache ≡ Some slabs → ((frame : ℕ) → times frame frames ≤ 1)
    → IsSweptOf cache frames s slabs (fold (swept_checked_slab cache) s frames)
are-swept cache [] s slabs was once = record {
  now = slabs;
  there = was;
  listed = sym (filter_all (λ frame. not (goes [] slabs frame)) slabs.listed (λ frame there. refl));
  same = λ frame stays. refl;
  slab = λ frame stays. refl;
  gone = λ frame is. absurd (false≢true is);
}
are-swept cache (x ∷ xs) s slabs was once =
    elim (cases_Bool (all_free slabs x)) [
      | inl unused ↦ subst (λ t. IsSweptOf cache (x ∷ xs) s slabs (fold (swept_checked_slab cache) t xs)) (sym (swept-is cache x xs s slabs was once ∙ rw unused refl))
          (went cache x xs s slabs was once unused (are-swept cache xs (away cache x xs s slabs was once) (left cache x xs s slabs was once) (away-was cache x xs s slabs was once) (rest-once cache x xs s slabs was once)))
      | inr used ↦ subst (λ t. IsSweptOf cache (x ∷ xs) s slabs (fold (swept_checked_slab cache) t xs)) (sym (swept-is cache x xs s slabs was once ∙ rw used refl))
          (stayed cache x xs s slabs was once used (are-swept cache xs s slabs was (rest-once cache x xs s slabs was once)))
    ]

-- ---- the listed slabs are swept and put in order

module _ (cache : ℕ) (s after : State) (slabs : CheckedState) (coherent : IsCoherent s) (was : checked_of s cache ≡ Some slabs) (done : PromotesChecked (fold (swept_checked_slab cache) s slabs.listed) cache after) where
  abbrev the-swept : State
  the-swept = fold (swept_checked_slab cache) s slabs.listed

  listed-once : (frame : ℕ) → times frame slabs.listed ≤ 1
  listed-once frame = omega (arith, (was-checked s cache slabs slabs was coherent.shaped.checked).sound.listed frame, one-at-most (is_stocked (get_or slabs.slabs frame None)))
    where
      one-at-most : (b : Bool) → cond b 1 0 ≤ 1
      one-at-most true = omega arith
      one-at-most false = omega arith

  is-swept : IsSweptOf cache slabs.listed s slabs (fold (swept_checked_slab cache) s slabs.listed)
  is-swept = are-swept cache slabs.listed s slabs was listed-once

  promotes : (new : CheckedState) → checked_of the-swept cache ≡ Some new
      → (frames : List ℕ) × IsPromoted new.listed (free_counts new) frames × (after ≡ with_checked the-swept cache (record new { listed = frames }))
  promotes new is = subst (λ (x : Option CheckedState). MatchOption x ⊥ (λ (c : CheckedState). (frames : List ℕ) × IsPromoted c.listed (free_counts c) frames × (after ≡ with_checked the-swept cache (record c { listed = frames })))) is done

  goes-listed : (frame : ℕ) → 0 < times frame slabs.listed → goes slabs.listed slabs frame ≡ all_free slabs frame
  goes-listed frame some = ap (λ b. b && all_free slabs frame) (positive (times frame slabs.listed) some)

  left-listed : is-swept.now.listed ≡ used_in slabs
  left-listed = is-swept.listed ∙ filter-same (λ frame. not (goes slabs.listed slabs frame)) (λ frame. not (all_free slabs frame)) slabs.listed (λ frame some. ap not (goes-listed frame some))

  in-use-stays : (frame : ℕ) → 0 < times frame (used_in slabs) → checked_slab is-swept.now frame ≡ checked_slab slabs frame
  in-use-stays frame some =
      is-swept.same frame (not-both (nat_lt 0 (times frame slabs.listed)) (all_free slabs frame) (sifted-in (λ f. not (all_free slabs f)) slabs.listed frame some))

  left-counts : free_counts is-swept.now ≡ map (λ frame. length (checked_slab slabs frame).free) (used_in slabs)
  left-counts = ap (map (λ frame. length (checked_slab is-swept.now frame).free)) left-listed
      ∙ map-same (λ frame. length (checked_slab is-swept.now frame).free) (λ frame. length (checked_slab slabs frame).free) (used_in slabs) (λ frame some. ap (λ (slab : SlabState). length slab.free) (in-use-stays frame some))

  abbrev last : (frames : List ℕ) × IsPromoted is-swept.now.listed (free_counts is-swept.now) frames × (after ≡ with_checked the-swept cache (record is-swept.now { listed = frames }))
  last = promotes is-swept.now is-swept.there

  after-slab : (frame : ℕ) → slab_of after frame ≡ slab_of the-swept frame
  after-slab frame = ap (λ t. slab_of t frame) last.2

  pub sweep-leaves-listed : LeavesUsedListed slabs cache after
  sweep-leaves-listed = record {
    now = record is-swept.now { listed = last.0 };
    there = ap (λ t. checked_of t cache) last.2
        ∙ get_or-set_same the-swept.checked cache (Some (record is-swept.now { listed = last.0 })) None (inside-of the-swept.checked cache is-swept.now is-swept.there);
    order = subst (λ l. IsPromoted (used_in slabs) l last.0) left-counts (subst (λ l. IsPromoted l (free_counts is-swept.now) last.0) left-listed last.1);
    gone = λ frame there.
        let some = times-contained frame slabs.listed there in
        (by-none frame some, λ free. after-slab frame ∙ is-swept.gone frame (goes-listed frame some ∙ free));
  }
    where
      has-slab : (x : Option Slab) → IsSome x → x ≡ None → ⊥
      has-slab None some none = cc
      has-slab (Some slab) some none = absurd (false≢true (sym (ap is_some none)))

      by-none : (frame : ℕ) → 0 < times frame slabs.listed → slab_of after frame ≡ None → all_free slabs frame ≡ true
      by-none frame some none = elim (cases_Bool (all_free slabs frame)) [
        | inl free ↦ free
        | inr used ↦ absurd (has-slab (slab_of s frame) (listed-slab s cache frame slabs coherent was (omega (arith, some, ap (times frame) (listed-is s cache frame slabs coherent was))))
            (sym (is-swept.slab frame (goes-listed frame some ∙ used)) ∙ sym (after-slab frame) ∙ none))
      ]
