-- What sweeping a node list leaves.
use Rattle.std.proofs.Common.{◌≡◌, ◌≢◌, ℕ, zero, suc, ◌+◌, ◌-◌, ◌<◌, ◌≤◌, ◌&&◌, Bool, true, false, cond, eqb, nat_lt, not, List, [], ◌∷◌, length, map, get_or, set, filter, fold, refl, sym, ◌∙◌, ap, subst, arith, Option, Some, None, is_some, inl, inr, get_or-set_other, get_or-set_same, length-set}
use Rattle.std.specs.Option.{option_map_or}
use Rattle.std.proofs.lemmas.Bool.{cases_Bool, cases_eq, eq-eqb, false≢true, ne_eqb}
use Rattle.std.proofs.lemmas.Bool.Decides.{nat_tests}
use Rattle.slub_common.specs.Times.{times}
use Rattle.slub_common.proofs.Lists.{filter-filter, filter_all}
use Rattle.slub_lists.proofs.Sweeping.{goes-slab, stays-slab}
use Rattle.slub_common.proofs.Times.{times-cons, times-cons_other, times-cons_same, times-contained, times-filter_fail}
use Rattle.slub_node_partial.specs.Promotion.{IsPromoted}
use Rattle.slub_lists.specs.declared.lists.Slab.{Slab}
use Rattle.slub_lists.specs.State.{State}
use Rattle.slub_lists.specs.Alloc.{node_of, own_free, slab_of}
use Rattle.slub_lists.specs.Free.{discarded, inuse_of, without_slab}
use Rattle.slub_lists.specs.Shrink.{Promotes, node_counts, swept_slab}
use Rattle.slub_law_replay.specs.Shrinking.{LeavesUsed, is_in_use, used_of}

-- ---- lists

pub filter-same : (p q : ℕ → Bool) (xs : List ℕ) → ((x : ℕ) → 0 < times x xs → p x ≡ q x) → filter p xs ≡ filter q xs
filter-same p q [] same = refl
filter-same p q (x ∷ xs) same =
    let first = same x (omega (arith, times-cons_same x x xs refl)) in
    let rest = filter-same p q xs (λ y some. same y (omega (arith, some, times-cons y x xs))) in
    ap (λ b. cond b (x ∷ filter p xs) (filter p xs)) first ∙ ap (λ l. cond (q x) (x ∷ l) l) rest

pub map-same : (f g : ℕ → ℕ) (xs : List ℕ) → ((x : ℕ) → 0 < times x xs → f x ≡ g x) → map f xs ≡ map g xs
map-same f g [] same = refl
map-same f g (x ∷ xs) same =
    let first = same x (omega (arith, times-cons_same x x xs refl)) in
    let rest = map-same f g xs (λ y some. same y (omega (arith, some, times-cons y x xs))) in
    ap (λ n. n ∷ map f xs) first ∙ ap (λ l. g x ∷ l) rest

-- what is sifted out passes
pub sifted-in : (p : ℕ → Bool) (xs : List ℕ) (x : ℕ) → 0 < times x (filter p xs) → p x ≡ true
sifted-in p xs x some =
    elim (cases_Bool (p x)) [
      | inl is ↦ is
      | inr isnt ↦ absurd (omega (arith, some, times-filter_fail x p xs isnt))
    ]

-- ---- one slab

-- a slab of which nothing is in use goes, and nothing else changes
module _ (cache : ℕ) (s : State) (frame : ℕ) (within : cache < length s.nodes) where
  gone : State
  gone = discarded (without_slab s cache frame) frame

  gone-node : node_of (discarded (without_slab s cache frame) frame) cache ≡ filter (λ other. not (eqb other frame)) (node_of s cache)
  gone-node = get_or-set_same s.nodes cache (filter (λ other. not (eqb other frame)) (node_of s cache)) [] within

  other-slab : (at : ℕ) → at ≢ frame → slab_of (discarded (without_slab s cache frame) frame) at ≡ slab_of s at
  other-slab at differ = get_or-set_other s.slabs frame at None None differ

  other-free : (at : ℕ) → at ≢ frame → own_free (discarded (without_slab s cache frame) frame) at ≡ own_free s at
  other-free at differ = get_or-set_other s.frees frame at [] [] differ

  gone-slab : slab_of (discarded (without_slab s cache frame) frame) frame ≡ None
  gone-slab = set-none s.slabs frame
    where
      set-none : (xs : List (Option Slab)) (i : ℕ) → get_or (set xs i None) i None ≡ None
      set-none [] i = refl
      set-none (x ∷ xs) zero = refl
      set-none (x ∷ xs) (suc i) = set-none xs i

-- ---- a list of slabs is swept

pub positive : (n : ℕ) → 0 < n → nat_lt 0 n ≡ true
positive n some = grind (arith, nat_tests, some)

pub not-both : (a b : Bool) → not b ≡ true → (a && b) ≡ false
not-both true true is = absurd (false≢true is)
not-both true false is = refl
not-both false b is = refl

-- the slab is one of those, and nothing of it is in use
abbrev goes : List ℕ → State → ℕ → Bool
goes frames s frame = nat_lt 0 (times frame frames) && eqb (inuse_of s frame) 0

record IsSweptOf (cache : ℕ) (frames : List ℕ) (s t : State) : Type 0 where
  pub node : node_of t cache ≡ filter (λ frame. not (goes frames s frame)) (node_of s cache)
  pub nodes : length t.nodes ≡ length s.nodes
  pub slab : (frame : ℕ) → goes frames s frame ≡ false → slab_of t frame ≡ slab_of s frame
  pub own : (frame : ℕ) → goes frames s frame ≡ false → own_free t frame ≡ own_free s frame
  pub gone : (frame : ℕ) → goes frames s frame ≡ true → slab_of t frame ≡ None

module _ (cache x : ℕ) (xs : List ℕ) (s : State) (within : cache < length s.nodes) (once : (frame : ℕ) → times frame (x ∷ xs) ≤ 1) where
  rest-once : (frame : ℕ) → times frame xs ≤ 1
  rest-once frame = omega (arith, once frame, times-cons frame x xs)

  no-more : times x xs ≡ 0
  no-more = omega (arith, once x, times-cons_same x x xs refl)

  abbrev away : State
  away = discarded (without_slab s cache x) x

  other-use : (frame : ℕ) → frame ≢ x → inuse_of away frame ≡ inuse_of s frame
  other-use frame differ = rw (other-slab cache s x within frame differ, other-free cache s x within frame differ) refl

  -- another goes as it did without this one
  goes-other : (frame : ℕ) → frame ≢ x → goes (x ∷ xs) s frame ≡ goes xs s frame
  goes-other frame differ = ap (λ n. nat_lt 0 n && eqb (inuse_of s frame) 0) (times-cons_other frame x xs (λ same. differ (sym same)))

  goes-here : goes (x ∷ xs) s x ≡ eqb (inuse_of s x) 0
  goes-here = ap (λ n. nat_lt 0 n && eqb (inuse_of s x) 0) (times-cons_same x x xs refl) ∙ ap (λ b. b && eqb (inuse_of s x) 0) (positive (1 + times x xs) (omega arith))

  goes-not : (t : State) → goes xs t x ≡ false
  goes-not t = ap (λ n. nat_lt 0 n && eqb (inuse_of t x) 0) no-more

  goes-away : (frame : ℕ) → frame ≢ x → goes (x ∷ xs) s frame ≡ goes xs away frame
  goes-away frame differ = goes-other frame differ ∙ sym (ap (λ n. nat_lt 0 (times frame xs) && eqb n 0) (other-use frame differ))

  same : (used : eqb (inuse_of s x) 0 ≡ false) (frame : ℕ) → goes (x ∷ xs) s frame ≡ goes xs s frame
  same used frame = elim (cases_eq frame x) [
    | inl e ↦ subst (λ f. goes (x ∷ xs) s f ≡ goes xs s f) (sym e) (goes-here ∙ used ∙ sym (goes-not s))
    | inr differ ↦ goes-other frame differ
  ]

  stayed : (used : eqb (inuse_of s x) 0 ≡ false) → IsSweptOf cache xs s (fold (swept_slab cache) s xs) → IsSweptOf cache (x ∷ xs) s (fold (swept_slab cache) s xs)
  stayed used rest = record {
    node = rest.node ∙ filter-same (λ frame. not (goes xs s frame)) (λ frame. not (goes (x ∷ xs) s frame)) (node_of s cache) (λ frame some. ap not (sym (same used frame)));
    nodes = rest.nodes;
    slab = λ frame stays. rest.slab frame (sym (same used frame) ∙ stays);
    own = λ frame stays. rest.own frame (sym (same used frame) ∙ stays);
    gone = λ frame is. rest.gone frame (sym (same used frame) ∙ is);
  }

  both : (unused : eqb (inuse_of s x) 0 ≡ true) (frame : ℕ) → not (goes (x ∷ xs) s frame) ≡ (not (eqb frame x) && not (goes xs away frame))
  both unused frame = elim (cases_eq frame x) [
    | inl e ↦ subst (λ f. not (goes (x ∷ xs) s f) ≡ (not (eqb f x) && not (goes xs away f))) (sym e)
        (ap not (goes-here ∙ unused) ∙ sym (ap (λ b. not b && not (goes xs away x)) (eq-eqb x x refl)))
    | inr differ ↦ ap not (goes-away frame differ) ∙ sym (ap (λ b. not b && not (goes xs away frame)) (ne_eqb frame x differ))
  ]

  left : (unused : eqb (inuse_of s x) 0 ≡ true) → IsSweptOf cache xs away (fold (swept_slab cache) away xs) → IsSweptOf cache (x ∷ xs) s (fold (swept_slab cache) away xs)
  left unused rest = record {
    node = rest.node ∙ ap (filter (λ frame. not (goes xs away frame))) (gone-node cache s x within)
        ∙ filter-filter (λ frame. not (goes xs away frame)) (λ other. not (eqb other x)) (λ frame. not (goes (x ∷ xs) s frame)) (both unused) (node_of s cache);
    nodes = rest.nodes ∙ length-set s.nodes cache (filter (λ other. not (eqb other x)) (node_of s cache));
    slab = λ frame stays. elim (cases_eq frame x) [
      | inl e ↦ absurd (false≢true (sym stays ∙ ap (goes (x ∷ xs) s) e ∙ goes-here ∙ unused))
      | inr differ ↦ rest.slab frame (sym (goes-away frame differ) ∙ stays) ∙ other-slab cache s x within frame differ
    ];
    own = λ frame stays. elim (cases_eq frame x) [
      | inl e ↦ absurd (false≢true (sym stays ∙ ap (goes (x ∷ xs) s) e ∙ goes-here ∙ unused))
      | inr differ ↦ rest.own frame (sym (goes-away frame differ) ∙ stays) ∙ other-free cache s x within frame differ
    ];
    gone = λ frame is. elim (cases_eq frame x) [
      | inl e ↦ subst (λ f. slab_of (fold (swept_slab cache) away xs) f ≡ None) (sym e) (rest.slab x (goes-not away) ∙ gone-slab cache s x within)
      | inr differ ↦ rest.gone frame (sym (goes-away frame differ) ∙ is)
    ];
  }

  away-slot : cache < length away.nodes
  away-slot = omega (arith, within, length-set s.nodes cache (filter (λ other. not (eqb other x)) (node_of s cache)))

are-swept : (cache : ℕ) (frames : List ℕ) (s : State) → cache < length s.nodes → ((frame : ℕ) → times frame frames ≤ 1) → IsSweptOf cache frames s (fold (swept_slab cache) s frames)
are-swept cache [] s within once = record {
  node = sym (filter_all (λ frame. not (goes [] s frame)) (node_of s cache) (λ frame there. refl));
  nodes = refl;
  slab = λ frame stays. refl;
  own = λ frame stays. refl;
  gone = λ frame is. absurd (false≢true is);
}
are-swept cache (x ∷ xs) s within once =
    elim (cases_Bool (eqb (inuse_of s x) 0)) [
      | inl unused ↦ subst (λ t. IsSweptOf cache (x ∷ xs) s (fold (swept_slab cache) t xs)) (sym (goes-slab s cache x unused))
          (left cache x xs s within once unused (are-swept cache xs (away cache x xs s within once) (away-slot cache x xs s within once) (rest-once cache x xs s within once)))
      | inr used ↦ subst (λ t. IsSweptOf cache (x ∷ xs) s (fold (swept_slab cache) t xs)) (sym (stays-slab s cache x used))
          (stayed cache x xs s within once used (are-swept cache xs s within (rest-once cache x xs s within once)))
    ]

-- ---- the node list is swept and put in order

module _ (cache : ℕ) (s after : State) (within : cache < length s.nodes) (once : (frame : ℕ) → times frame (node_of s cache) ≤ 1) (done : Promotes (fold (swept_slab cache) s (node_of s cache)) cache after) where
  abbrev the-swept : State
  the-swept = fold (swept_slab cache) s (node_of s cache)

  is-swept : IsSweptOf cache (node_of s cache) s (fold (swept_slab cache) s (node_of s cache))
  is-swept = are-swept cache (node_of s cache) s within once

  goes-listed : (frame : ℕ) → 0 < times frame (node_of s cache) → goes (node_of s cache) s frame ≡ eqb (inuse_of s frame) 0
  goes-listed frame some = ap (λ b. b && eqb (inuse_of s frame) 0) (positive (times frame (node_of s cache)) some)

  left-node : node_of the-swept cache ≡ used_of s cache
  left-node = is-swept.node ∙ filter-same (λ frame. not (goes (node_of s cache) s frame)) (is_in_use s) (node_of s cache) (λ frame some. ap not (goes-listed frame some))

  in-use-stays : (frame : ℕ) → 0 < times frame (used_of s cache) → own_free the-swept frame ≡ own_free s frame
  in-use-stays frame some =
      is-swept.own frame (not-both (nat_lt 0 (times frame (node_of s cache))) (eqb (inuse_of s frame) 0) (sifted-in (is_in_use s) (node_of s cache) frame some))

  left-counts : node_counts the-swept cache ≡ map (λ frame. length (own_free s frame)) (used_of s cache)
  left-counts = ap (map (λ frame. length (own_free the-swept frame))) left-node
      ∙ map-same (λ frame. length (own_free the-swept frame)) (λ frame. length (own_free s frame)) (used_of s cache) (λ frame some. ap length (in-use-stays frame some))

  then-order : IsPromoted (used_of s cache) (map (λ frame. length (own_free s frame)) (used_of s cache)) (node_of after cache)
  then-order =
      let is-after : node_of after cache ≡ done.0 = ap (λ t. node_of t cache) done.2 ∙ get_or-set_same the-swept.nodes cache done.0 [] (omega (arith, within, is-swept.nodes)) in
      subst (λ l. IsPromoted (used_of s cache) (map (λ frame. length (own_free s frame)) (used_of s cache)) l) (sym is-after)
      (subst (λ l. IsPromoted l (map (λ frame. length (own_free s frame)) (used_of s cache)) done.0) left-node
      (subst (λ l. IsPromoted (node_of the-swept cache) l done.0) left-counts done.1))

  after-slab : (frame : ℕ) → slab_of after frame ≡ slab_of the-swept frame
  after-slab frame = ap (λ t. slab_of t frame) done.2

  -- what has an object in use is a slab
  used-some : (x : Option Slab) (n : ℕ) → option_map_or (λ slab. slab.objects) x 0 - n ≢ 0 → x ≢ None
  used-some None n used is = used (omega arith)
  used-some (Some slab) n used is = absurd (false≢true (sym (ap is_some is)))

  pub sweep-leaves : LeavesUsed s cache after
  sweep-leaves = record {
    order = then-order;
    gone = λ frame there.
        let some = times-contained frame (node_of s cache) there in
        (by-none frame some, λ unused. after-slab frame ∙ is-swept.gone frame (goes-listed frame some ∙ eq-eqb (inuse_of s frame) 0 unused));
  }
    where
      by-none : (frame : ℕ) → 0 < times frame (node_of s cache) → slab_of after frame ≡ None → inuse_of s frame ≡ 0
      by-none frame some none = elim (cases_eq (inuse_of s frame) 0) [
        | inl unused ↦ unused
        | inr used ↦ absurd (used-some (slab_of s frame) (length (own_free s frame)) used
            (sym (is-swept.slab frame (goes-listed frame some ∙ ne_eqb (inuse_of s frame) 0 used)) ∙ sym (after-slab frame) ∙ none))
      ]
