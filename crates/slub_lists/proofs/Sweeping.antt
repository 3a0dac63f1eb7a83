-- The node list is swept, and put in order.
use Rattle.std.proofs.Common.{◌≡◌, ◌≢◌, ℕ, zero, suc, ◌+◌, ◌<◌, ◌≤◌, true, false, cond, eqb, List, [], ◌∷◌, length, get_or, take, drop, filter, fold, None, inl, inr, refl, ap, sym, ◌∙◌, subst, arith, IsPermutation, get_or-set_same, get_or-set_other}
use Rattle.std.specs.Prelude.{not}
use Rattle.std.proofs.lemmas.List.{set-get_or, length-map}
use Rattle.std.proofs.lemmas.List.Sums.{sum_by-set}
use Rattle.std.proofs.lemmas.List.Sorted.{sum_by-IsPermutation}
use Rattle.std.proofs.lemmas.Bool.{cases_eq}
use Rattle.std.proofs.lemmas.Bool.Decides.{nat_tests}
use Rattle.slub_common.specs.Times.{times}
use Rattle.slub_node_partial.specs.Promotion.{IsPromoted}
use Rattle.slub_node_partial.proofs.Promotions.{keeps}
use Rattle.slub_lists.specs.declared.lists.CpuLists.{CpuLists}
use Rattle.slub_lists.specs.State.{State}
use Rattle.slub_lists.specs.Alloc.{cpu_place, lists_of, no_lists, node_of, own_free, slab_of, with_node}
use Rattle.slub_lists.specs.Coherent.{IsConsistent, IsKept, times_current}
use Rattle.slub_lists.specs.Free.{discarded, inuse_of, without_slab}
use Rattle.slub_lists.specs.Shrink.{node_counts, swept_slab}
use Rattle.slub_lists.specs.Shrinking.{IsSwept, KeepsChecked}
use Rattle.slub_lists.proofs.Times.{current-same, current-other}
use Rattle.slub_common.proofs.Times.{times-cons, times-filter_pass}
use Rattle.slub_lists.proofs.Listed.{node-counted}
use Rattle.slub_lists.proofs.Coherence.{gathered-consistent}
use Rattle.slub_lists.proofs.Kept.{IsKeptBut, kept-no-hand}
use Rattle.slub_lists.proofs.Flushing.{kept-gone}

-- ---- a place of a list

-- without what isn't there
filter-absent : (x : ℕ) (xs : List ℕ) → times x xs ≡ 0 → filter (λ y. not (eqb y x)) xs ≡ xs
filter-absent x [] absent = refl
filter-absent x (y ∷ ys) absent =
    let e = times-cons x y ys in
    elim (cases_eq x y) [
      | inl same ↦ absurd (omega (arith, absent, e, current-same x y 1 same))
      | inr other ↦
          let passes : not (eqb y x) ≡ true = grind (arith, nat_tests, other) in
          rw passes (ap (λ l. y ∷ l) (filter-absent x ys (omega (arith, absent, e))))
    ]

-- what stands at a place is counted
pub at-counted : (p : ℕ) (xs : List ℕ) → p < length xs → 0 < times (get_or xs p 0) xs
at-counted p [] below = absurd (omega arith)
at-counted zero (y ∷ ys) below = omega (arith, times-cons y y ys, current-same y y 1 refl)
at-counted (suc p) (y ∷ ys) below = omega (arith, at-counted p ys (omega arith), times-cons (get_or ys p 0) y ys)

-- what is left from a place on, and what stands before the next
pub drop-at : (p : ℕ) (xs : List ℕ) → p < length xs → drop p xs ≡ get_or xs p 0 ∷ drop (suc p) xs
drop-at p [] below = absurd (omega arith)
drop-at zero (y ∷ ys) below = refl
drop-at (suc p) (y ∷ ys) below = drop-at p ys (omega arith)

pub take-at : (f p : ℕ) (xs : List ℕ) → p < length xs → f ≢ get_or xs p 0 → times f (take (suc p) xs) ≡ times f (take p xs)
take-at f p [] below ne = absurd (omega arith)
take-at f zero (y ∷ ys) below ne = let none : times f [] ≡ 0 = refl in omega (arith, times-cons f y [], none, current-other f y 1 ne)
take-at f (suc p) (y ∷ ys) below ne = omega (arith, times-cons f y (take (suc p) ys), times-cons f y (take p ys), take-at f p ys (omega arith) ne)

-- nothing is left past the end
pub drop-past : (p : ℕ) (xs : List ℕ) → length xs ≤ p → drop p xs ≡ []
drop-past zero [] past = refl
drop-past (suc p) [] past = refl
drop-past zero (y ∷ ys) past = absurd (omega arith)
drop-past (suc p) (y ∷ ys) past = drop-past p ys (omega arith)

pub take-past : (p : ℕ) (xs : List ℕ) → length xs ≤ p → take p xs ≡ xs
take-past zero [] past = refl
take-past (suc p) [] past = refl
take-past zero (y ∷ ys) past = absurd (omega arith)
take-past (suc p) (y ∷ ys) past = ap (λ (l : List ℕ). y ∷ l) (take-past p ys (omega arith))

-- a list without what stands once at a place
pub record IsWithout (p : ℕ) (xs ys : List ℕ) : Type 0 where
  pub after : drop p ys ≡ drop (suc p) xs
  pub before : take p ys ≡ take p xs
  pub shorter : length ys + 1 ≡ length xs
  pub absent : times (get_or xs p 0) (take p xs) ≡ 0

pub without-at : (p : ℕ) (xs : List ℕ) → p < length xs → times (get_or xs p 0) xs ≤ 1 → IsWithout p xs (filter (λ y. not (eqb y (get_or xs p 0))) xs)
without-at p [] below once = absurd (omega arith)
without-at zero (y ∷ ys) below once =
    let none : times y ys ≡ 0 = omega (arith, times-cons y y ys, once, current-same y y 1 refl) in
    let fails : not (eqb y y) ≡ false = grind (arith, nat_tests) in
    let gone : filter (λ z. not (eqb z y)) (y ∷ ys) ≡ ys = rw fails (filter-absent y ys none) in
    record {
      after = gone;
      before = refl;
      shorter = let e = ap length gone in omega (arith, e);
      absent = refl;
    }
without-at (suc p) (y ∷ ys) below once =
    let x = get_or ys p 0 in
    let there = at-counted p ys (omega arith) in
    let counted = times-cons x y ys in
    let apart : x ≢ y = λ e. omega (arith, once, counted, there, current-same x y 1 e) in
    let passes : not (eqb y x) ≡ true = grind (arith, nat_tests, apart) in
    let stays : filter (λ z. not (eqb z x)) (y ∷ ys) ≡ y ∷ filter (λ z. not (eqb z x)) ys = rw passes refl in
    let rest = without-at p ys (omega arith) (omega (arith, once, counted)) in
    record {
      after = ap (λ (l : List ℕ). drop (suc p) l) stays ∙ rest.after;
      before = ap (λ (l : List ℕ). take (suc p) l) stays ∙ ap (λ (l : List ℕ). y ∷ l) rest.before;
      shorter = let e = ap length stays in omega (arith, e, rest.shorter);
      absent = omega (arith, times-cons x y (take p ys), rest.absent, current-other x y 1 apart);
    }

-- ---- one slab is swept

-- the slab is in use, and stays
pub stays-slab : (s : State) (cache frame : ℕ) → eqb (inuse_of s frame) 0 ≡ false → swept_slab cache s frame ≡ s
stays-slab s cache frame used = rw used refl

-- or nothing of it is in use, and it goes
pub goes-slab : (s : State) (cache frame : ℕ) → eqb (inuse_of s frame) 0 ≡ true → swept_slab cache s frame ≡ discarded (without_slab s cache frame) frame
goes-slab s cache frame unused = rw unused refl

-- no other is lost then
pub gone-kept : (s : State) (cache frame : ℕ) → cache < length s.nodes → IsKept s → IsKept (discarded (without_slab s cache frame) frame)
gone-kept s cache frame slot kept =
    let t : State = without_slab s cache frame in
    let in_hand : IsKeptBut (frame ∷ []) t = λ f some.
    let none : times f [] ≡ 0 = refl in
    elim (cases_eq f frame) [
      | inl e ↦ omega (arith, times-cons f frame [], current-same f frame 1 e)
      | inr ne ↦
          let node = sum_by-set (times f) s.nodes cache (filter (λ other. not (eqb other frame)) (node_of s cache)) [] slot in
          let stays = times-filter_pass f (λ other. not (eqb other frame)) (node_of s cache) (grind (arith, nat_tests, ne)) in
          omega (arith, kept f some, node, stays, times-cons f frame [], none)
    ] in
    kept-no-hand (discarded t frame) (kept-gone t frame [] in_hand)

pub gone-rest : (s : State) (cache frame : ℕ) → KeepsChecked s (discarded (without_slab s cache frame) frame)
gone-rest s cache frame = record { held = record { frames = refl; cpus = refl; table = refl; board = refl; gone = refl; live = refl }; checked = refl }

-- a slab of the node list is current nowhere
pub node-not-current : (s : State) (cache frame : ℕ) → IsConsistent s → 0 < times frame (node_of s cache) → times_current s frame ≡ 0
node-not-current s cache frame consistent there = omega (arith, there, node-counted s frame cache, consistent.listed.once frame)

-- ---- the list is swept from its head on

-- the first slabs are used
abbrev pub AreUsed : State → List ℕ → Type 0
AreUsed s frames = (frame : ℕ) → 0 < times frame frames → 0 < inuse_of s frame

module _ (s : State) (cache place : ℕ) (consistent : IsConsistent s) (within : cache < 32) (below : place < length (node_of s cache)) where
  abbrev frames : List ℕ
  frames = node_of s cache

  abbrev pub frame-at : ℕ
  frame-at = get_or (node_of s cache) place 0

  pub at-there : 0 < times frame-at (node_of s cache)
  at-there = at-counted place (node_of s cache) below

  at-once : times frame-at (node_of s cache) ≤ 1
  at-once = omega (arith, node-counted s frame-at cache, consistent.listed.once frame-at)

  -- the slab stays: the next is at the next place
  pub stays-next : (A : State) → eqb (inuse_of s frame-at) 0 ≡ false → fold (swept_slab cache) s (drop place (node_of s cache)) ≡ A → fold (swept_slab cache) s (drop (place + 1) (node_of s cache)) ≡ A
  stays-next A used all =
      let next : place + 1 ≡ suc place = omega arith in
      ap (λ n. fold (swept_slab cache) s (drop n (node_of s cache))) next
      ∙ sym (ap (λ (t : State). fold (swept_slab cache) t (drop (suc place) (node_of s cache))) (stays-slab s cache frame-at used))
      ∙ sym (ap (λ (l : List ℕ). fold (swept_slab cache) s l) (drop-at place (node_of s cache) below)) ∙ all

  pub stays-used : eqb (inuse_of s frame-at) 0 ≡ false → AreUsed s (take place (node_of s cache)) → AreUsed s (take (place + 1) (node_of s cache))
  stays-used used first f some =
      let next : place + 1 ≡ suc place = omega arith in
      let same : times f (take (place + 1) (node_of s cache)) ≡ times f (take (suc place) (node_of s cache)) = ap (λ n. times f (take n (node_of s cache))) next in
      elim (cases_eq f frame-at) [
        | inl e ↦ subst (λ n. 0 < inuse_of s n) (sym e) (grind (arith, nat_tests, used))
        | inr ne ↦ first f (omega (arith, some, same, take-at f place (node_of s cache) below ne))
      ]

  -- the slab goes: the next is at the same place
  abbrev pub gone : State
  gone = discarded (without_slab s cache frame-at) frame-at

  gone-node : node_of gone cache ≡ filter (λ y. not (eqb y frame-at)) (node_of s cache)
  gone-node = get_or-set_same s.nodes cache (filter (λ y. not (eqb y frame-at)) (node_of s cache)) [] (omega (arith, consistent.shaped.nodes, within))

  gone-without : IsWithout place (node_of s cache) (node_of gone cache)
  gone-without = subst (λ (l : List ℕ). IsWithout place (node_of s cache) l) (sym gone-node) (without-at place (node_of s cache) below at-once)

  pub gone-next : (A : State) → eqb (inuse_of s frame-at) 0 ≡ true → fold (swept_slab cache) s (drop place (node_of s cache)) ≡ A → fold (swept_slab cache) gone (drop place (node_of gone cache)) ≡ A
  gone-next A unused all =
      ap (λ (l : List ℕ). fold (swept_slab cache) gone l) gone-without.after
      ∙ sym (ap (λ (t : State). fold (swept_slab cache) t (drop (suc place) (node_of s cache))) (goes-slab s cache frame-at unused))
      ∙ sym (ap (λ (l : List ℕ). fold (swept_slab cache) s l) (drop-at place (node_of s cache) below)) ∙ all

  pub gone-used : AreUsed s (take place (node_of s cache)) → AreUsed gone (take place (node_of gone cache))
  gone-used first f some =
      let same : times f (take place (node_of gone cache)) ≡ times f (take place (node_of s cache)) = ap (times f) gone-without.before in
      let apart : f ≢ frame-at = λ e. omega (arith, some, same, ap (λ n. times n (take place (node_of s cache))) e, gone-without.absent) in
      let slab : slab_of gone f ≡ slab_of s f = get_or-set_other s.slabs frame-at f None None apart in
      let own : own_free gone f ≡ own_free s f = get_or-set_other s.frees frame-at f [] [] apart in
      let inuse : inuse_of gone f ≡ inuse_of s f = rw (slab, own) refl in
      omega (arith, first f (omega (arith, some, same)), inuse)

  pub gone-shorter : length (node_of gone cache) + 1 ≡ length (node_of s cache)
  gone-shorter = gone-without.shorter

-- ---- the list is put in order

pub times-IsPermutation : (f : ℕ) (xs ys : List ℕ) → IsPermutation xs ys → times f xs ≡ times f ys
times-IsPermutation f xs ys p = sym (sum_by-IsPermutation (λ y. cond (eqb y f) 1 0) xs ys p)

module _ (s : State) (cache : ℕ) (frames : List ℕ) (promoted : IsPromoted (node_of s cache) (node_counts s cache) frames) where
  -- the same slabs stand on it
  same-slabs : (f : ℕ) → times f (node_of s cache) ≡ times f frames
  same-slabs f = times-IsPermutation f (node_of s cache) frames (keeps (node_of s cache) (node_counts s cache) frames (length-map (node_of s cache) (λ frame. length (own_free s frame))) promoted)

  pub promoted-consistent : IsConsistent s → cache < 32 → IsConsistent (with_node s cache frames)
  promoted-consistent consistent within =
      let cpu_within : 0 < s.cpus = omega (arith, consistent.shaped.cpus.0) in
      let lists : CpuLists = lists_of s cache 0 in
      let t : State = with_node s cache frames in
      subst IsConsistent (ap (λ (all : List CpuLists). record t { cpu_lists = all }) (set-get_or s.cpu_lists (cpu_place s cache 0) no_lists))
      (gathered-consistent s cache 0 consistent within cpu_within lists.partial frames (λ f. omega (arith, same-slabs f)))

  pub promoted-kept : cache < length s.nodes → IsKept s → IsKept (with_node s cache frames)
  promoted-kept slot kept f some =
      let node = sum_by-set (times f) s.nodes cache frames [] slot in
      omega (arith, kept f some, node, same-slabs f)

  pub promoted-swept : cache < length s.nodes → IsSwept s cache → IsSwept (with_node s cache frames) cache
  promoted-swept slot swept = record {
    bare = swept.bare;
    used = λ f some. swept.used f (let now : node_of (with_node s cache frames) cache ≡ frames = get_or-set_same s.nodes cache frames [] slot in omega (arith, some, ap (times f) now, same-slabs f));
  }
