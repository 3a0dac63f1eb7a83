-- The listed slabs of a checked cache are swept, and put in order.
use Rattle.std.proofs.Common.{◌≡◌, ◌≢◌, ℕ, zero, suc, ◌+◌, ◌<◌, ◌≤◌, Bool, true, false, cond, eqb, List, [], ◌∷◌, length, get_or, set, take, drop, filter, fold, sum_by, count_by, Option, Some, None, is_some, IsSome, IfSome, MatchOption, inl, inr, refl, ap, sym, ◌∙◌, subst, arith, get_or-set_same, get_or-set_other}
use Rattle.std.specs.Prelude.{⊤, not, slice_get}
use Rattle.std.specs.Option.{option_map, option_map_or, unwrap_or}
use Rattle.std.proofs.lemmas.List.{length-map}
use Rattle.std.proofs.lemmas.List.Sums.{sum_by-set, sum_by-cons}
use Rattle.std.proofs.lemmas.Bool.{cases_eq, cases_Bool}
use Rattle.std.proofs.lemmas.Bool.Decides.{nat_tests}
use Rattle.slub_common.specs.Times.{times}
use Rattle.slub_node_partial.specs.Promotion.{IsPromoted}
use Rattle.slub_red_zone.specs.declared.slab.ObjectState.{ObjectState}
use Rattle.slub_red_zone.specs.declared.slab.ObjectState.TheVariants.{Free, Used, Aside}
use Rattle.slub_red_zone.specs.declared.checked.Run.{Run as SlabRun}
use Rattle.slub_red_zone.specs.State.{CheckedState, Has, SlabState, no_slab, is_aside, is_free, objects_in, aside_in, aside_count, slab_of as checked_slab}
use Rattle.slub_red_zone.specs.Objects.{KeepsObjects, is_idle, shape_at, shape_of, idle}
use Rattle.slub_red_zone.specs.Sound.{IsSlab, IsSound, is_stocked}
use Rattle.slub_red_zone.specs.Steps.{IsSpare, TakesEmpty, free_counts, without_slab as without_checked}
use Rattle.slub_lists.specs.declared.lists.Slab.{Slab}
use Rattle.slub_lists.specs.State.{State}
use Rattle.slub_lists.specs.Alloc.{checked_of, own_free, slab_of}
use Rattle.slub_lists.specs.Checked.{discarded_where, with_checked}
use Rattle.slub_lists.specs.CheckedSteps.{DiscardsSpare}
use Rattle.slub_lists.specs.Coherent.{Agrees, IsCheckedOf, IsCoherent, IsConsistent, IsKept, IsShaped, has_object, idle_in, times_current, times_partial}
use Rattle.slub_lists.specs.Free.{discarded}
use Rattle.slub_lists.specs.Leaving.{KeepsHeld}
use Rattle.slub_lists.specs.Shrink.{PromotesChecked, all_free, busy_of, has_slab, is_slab_of, swept_checked_slab}
use Rattle.slub_lists.specs.Shrinking.{all_free_in, listed_of}
use Rattle.slub_lists.proofs.CheckedSlabs.{at_match, at_some, idle-with, keeps-checked, was-checked}
use Rattle.slub_common.proofs.Writes.{inside-of}
use Rattle.slub_lists.proofs.CheckedTaking.{with-checked-same}
use Rattle.slub_lists.proofs.Discarding.{slab-bounds}
use Rattle.slub_lists.proofs.Coherence.{live-inside}
use Rattle.slub_common.proofs.Sums.{element-counted}
use Rattle.slub_lists.proofs.Emptied.{idle-none, none-held, no-slabs, on-no-cpu, sum-none}
use Rattle.slub_lists.proofs.Kept.{at_emptied}
use Rattle.slub_lists.proofs.Sweeping.{IsWithout, at-counted, drop-at, take-at, times-IsPermutation, without-at}
use Rattle.slub_node_partial.proofs.Promotions.{keeps}

-- the same of a machine under another name
pub coherent-at : (s after : State) → after ≡ s → IsCoherent s → IsCoherent after
coherent-at s after e coherent = subst IsCoherent (sym e) coherent

-- the checked cache that is there
pub the-checked : (x : Option CheckedState) → IsSome x → (slabs : CheckedState) × (x ≡ Some slabs)
the-checked None h = cc
the-checked (Some slabs) h = (slabs, refl)

pub not-flip : (a b : Bool) → a ≡ not b → b ≡ not a
not-flip a true e = rw e refl
not-flip a false e = rw e refl

-- ---- one slab is swept

module _ (s : State) (cache frame : ℕ) (slabs : CheckedState) (coherent : IsCoherent s) (was : checked_of s cache ≡ Some slabs) where
  of-cache : IsCheckedOf s cache slabs
  of-cache = was-checked s cache slabs slabs was coherent.shaped.checked

  -- the listed slabs are the cache's
  pub listed-is : listed_of s cache ≡ slabs.listed
  listed-is = ap (λ (x : Option CheckedState). option_map_or (λ (c : CheckedState). c.listed) x []) was

  pub all-free-is : all_free_in s cache frame ≡ all_free slabs frame
  all-free-is = ap (λ (x : Option CheckedState). option_map_or (λ (c : CheckedState). all_free c frame) x false) was

  module _ (there : 0 < times frame (listed_of s cache)) where
    -- a listed slab is there
    pub listed-has : Has slabs frame
    listed-has =
        let same = ap (times frame) listed-is in
        some (get_or slabs.slabs frame None) (omega (arith, there, same, of-cache.sound.listed frame))
      where
        some : (x : Option SlabState) → 0 < cond (is_stocked x) 1 0 → IsSome x
        some None h = absurd (omega arith)
        some (Some slab) h = refl

    -- and so is one of the machine
    pub listed-slab : IsSome (slab_of s frame)
    listed-slab = by (slab_of s frame) (get_or slabs.slabs frame None) refl listed-has (of-cache.agrees frame)
      where
        by : (x : Option Slab) (y : Option SlabState) → slab_of s frame ≡ x → IsSome y → Agrees cache x (option_map shape_of y) → IsSome x
        by (Some slab) y is has agrees = refl
        by None None is has agrees = cc
        by None (Some slab) is has agrees = absurd agrees

    -- it goes, or it stays
    module _ (after : State) (done : DiscardsSpare s cache frame 0 after) where
      same-slabs : slabs ≡ done.slabs
      same-slabs = some-is (sym was ∙ done.was)
        where
          some-is : {x y : CheckedState} → Some x ≡ Some y → x ≡ y
          some-is e = cc

      swept-is : swept_checked_slab cache s frame ≡ cond (all_free slabs frame) (discarded (with_checked s cache (without_checked slabs frame)) frame) s
      swept-is = ap (λ (x : Option CheckedState). option_map_or (λ (c : CheckedState). cond (all_free c frame) (discarded (with_checked s cache (without_checked c frame)) frame) s) x s) was

      -- whether it went, and what is left
      by-run : (run : Option SlabRun) (rest : CheckedState) → TakesEmpty done.slabs frame 0 run rest → after ≡ discarded_where (with_checked s cache rest) frame run
          → (after ≡ swept_checked_slab cache s frame) × (not (is_some (slab_of after frame)) ≡ all_free slabs frame)
      by-run None rest taken now =
          let stays : all_free slabs frame ≡ false = elim (cases_Bool (all_free slabs frame)) [
            | inl whole_free ↦ absurd (taken.0 (record { all_free = ap (λ (c : CheckedState). length (checked_slab c frame).free) (sym same-slabs) ∙ grind (arith, nat_tests, whole_free) ∙ ap (λ (c : CheckedState). objects_in (checked_slab c frame)) same-slabs; enough = omega arith }))
            | inr used ↦ used
          ] in
          let all : after ≡ s = now ∙ ap (λ (c : CheckedState). with_checked s cache c) (taken.1 ∙ sym same-slabs) ∙ with-checked-same s cache slabs was in
          let some = ap (λ (t : State). is_some (slab_of t frame)) all in
          (all ∙ sym (swept-is ∙ rw stays refl), ap not (some ∙ is-some (slab_of s frame) listed-slab) ∙ sym stays)
        where
          is-some : (x : Option Slab) → IsSome x → is_some x ≡ true
          is-some None h = cc
          is-some (Some slab) h = refl
      by-run (Some run) rest taken now =
          let spare : IsSpare done.slabs frame 0 = taken.0 in
          let free : length (checked_slab slabs frame).free ≡ objects_in (checked_slab slabs frame) = subst (λ (c : CheckedState). length (checked_slab c frame).free ≡ objects_in (checked_slab c frame)) (sym same-slabs) spare.all_free in
          let goes : all_free slabs frame ≡ true = grind (arith, nat_tests, free) in
          let all : after ≡ discarded (with_checked s cache (without_checked slabs frame)) frame =
          now ∙ ap (λ (c : CheckedState). discarded (with_checked s cache c) frame) (taken.2 ∙ ap (λ (c : CheckedState). without_checked c frame) (sym same-slabs)) in
          let gone : slab_of after frame ≡ None = ap (λ (t : State). slab_of t frame) all ∙ set-none s.slabs frame in
          (all ∙ sym (swept-is ∙ rw goes refl), ap (λ (x : Option Slab). not (is_some x)) gone ∙ sym goes)
        where
          set-none : (xs : List (Option Slab)) (i : ℕ) → get_or (set xs i None) i None ≡ None
          set-none [] i = refl
          set-none (x ∷ xs) zero = refl
          set-none (x ∷ xs) (suc i) = set-none xs i

      pub swept-slab : (after ≡ swept_checked_slab cache s frame) × (not (is_some (slab_of after frame)) ≡ all_free slabs frame)
      swept-slab = by-run done.run done.rest done.taken done.now

-- no slab is lost
pub swept_checked-kept : (s : State) (cache frame : ℕ) → IsKept s → IsKept (swept_checked_slab cache s frame)
swept_checked-kept s cache frame kept = by (checked_of s cache)
  where
    gone : (c : CheckedState) → IsKept (discarded (with_checked s cache (without_checked c frame)) frame)
    gone c f = at_emptied s.frees frame f (times_current s f + times_partial s f) (λ ne some. kept f some)

    pick : (b : Bool) (c : CheckedState) → IsKept (cond b (discarded (with_checked s cache (without_checked c frame)) frame) s)
    pick true c = gone c
    pick false c = kept

    by : (x : Option CheckedState) → IsKept (option_map_or (λ (c : CheckedState). cond (all_free c frame) (discarded (with_checked s cache (without_checked c frame)) frame) s) x s)
    by None = kept
    by (Some c) = pick (all_free c frame) c

pub held-both : (a b c : State) → KeepsHeld a b → KeepsHeld b c → KeepsHeld a c
held-both a b c ab bc = record {
  frames = bc.frames ∙ ab.frames;
  cpus = bc.cpus ∙ ab.cpus;
  table = bc.table ∙ ab.table;
  board = bc.board ∙ ab.board;
  gone = bc.gone ∙ ab.gone;
  live = bc.live ∙ ab.live;
}

-- nor does anything change of the board
pub swept_checked-held : (s : State) (cache frame : ℕ) → KeepsHeld s (swept_checked_slab cache s frame)
swept_checked-held s cache frame = by (checked_of s cache)
  where
    pick : (b : Bool) (c : CheckedState) → KeepsHeld s (cond b (discarded (with_checked s cache (without_checked c frame)) frame) s)
    pick true c = record { frames = refl; cpus = refl; table = refl; board = refl; gone = refl; live = refl }
    pick false c = record { frames = refl; cpus = refl; table = refl; board = refl; gone = refl; live = refl }

    by : (x : Option CheckedState) → KeepsHeld s (option_map_or (λ (c : CheckedState). cond (all_free c frame) (discarded (with_checked s cache (without_checked c frame)) frame) s) x s)
    by None = record { frames = refl; cpus = refl; table = refl; board = refl; gone = refl; live = refl }
    by (Some c) = pick (all_free c frame) c

-- ---- the listed slabs are put in order

pub promotes-from : (s after : State) (cache : ℕ) (slabs new : CheckedState) → checked_of s cache ≡ Some slabs → IsPromoted slabs.listed (free_counts slabs) new.listed → new ≡ record slabs { listed = new.listed } → after ≡ with_checked s cache new → PromotesChecked s cache after
promotes-from s after cache slabs new was promoted rest now =
    subst (λ (x : Option CheckedState). MatchOption x ⊥ (λ slabs. (frames : List ℕ) × IsPromoted slabs.listed (free_counts slabs) frames × (after ≡ with_checked s cache (record slabs { listed = frames })))) (sym was)
    (new.listed, promoted, now ∙ ap (λ (c : CheckedState). with_checked s cache c) rest)

module _ (s : State) (cache : ℕ) (slabs new : CheckedState) (coherent : IsCoherent s) (was : checked_of s cache ≡ Some slabs) (same : KeepsObjects slabs new) (sound : IsSound new) where
  pub ordered-consistent : IsConsistent (with_checked s cache new)
  ordered-consistent =
      let shaped = coherent.shaped in
      record {
        shaped = record {
          frames = shaped.frames;
          cpus = shaped.cpus;
          pool = shaped.pool;
          pool_frames = shaped.pool_frames;
          slabs = shaped.slabs;
          frees = shaped.frees;
          table = shaped.table;
          checked = keeps-checked s cache slabs new was same.slabs sound shaped.checked;
          cpu_lists = shaped.cpu_lists;
          nodes = shaped.nodes;
          memory = shaped.memory;
          live = shaped.live;
          board = shaped.board;
          gone = shaped.gone;
          slab = shaped.slab;
          aligned = shaped.aligned;
          held = shaped.held;
          no_zero = shaped.no_zero;
          bare = shaped.bare;
        };
        placed = λ f i. omega (arith, coherent.placed f i, idle-with s cache slabs new was f i, same.objects f i);
        framed = coherent.framed;
        listed = record {
          once = coherent.listed.once;
          live = coherent.listed.live;
          stocked = coherent.listed.stocked;
          of_current = coherent.listed.of_current;
          of_partial = coherent.listed.of_partial;
          of_node = coherent.listed.of_node;
          frozen = coherent.listed.frozen;
        };
        accounted = coherent.accounted;
      }

-- ---- the listed slabs are swept, from the first on

-- the slab that is swept stood in the machine, and its place is inside still
pub inside-after : (s after : State) (cache frame : ℕ) → IsShaped s → IsShaped after → IsSome (slab_of s frame) → after ≡ swept_checked_slab cache s frame → frame < length after.slabs
inside-after s after cache frame shaped shaped_after live now =
    let frames = ap (λ (u : State). u.frames) now ∙ (swept_checked-held s cache frame).frames in
    omega (arith, live-inside s.slabs frame live, shaped.slabs, shaped_after.slabs, frames)

-- none of the first slabs has all its objects free
abbrev pub AreInUse : State → ℕ → List ℕ → Type 0
AreInUse s cache frames = (frame : ℕ) → 0 < times frame frames → all_free_in s cache frame ≡ false

one-at-most : (b : Bool) → cond b 1 0 ≤ 1
one-at-most true = omega arith
one-at-most false = omega arith

module _ (s : State) (cache place : ℕ) (slabs : CheckedState) (coherent : IsCoherent s) (was : checked_of s cache ≡ Some slabs) (below : place < length (listed_of s cache)) where
  abbrev at : ℕ
  at = get_or (listed_of s cache) place 0

  pub listed-there : 0 < times at (listed_of s cache)
  listed-there = at-counted place (listed_of s cache) below

  at-once : times at (listed_of s cache) ≤ 1
  at-once =
      let same = ap (times at) (listed-is s cache at slabs coherent was) in
      let sound = (was-checked s cache slabs slabs was coherent.shaped.checked).sound in
      omega (arith, same, sound.listed at, one-at-most (is_stocked (get_or slabs.slabs at None)))

  -- what sweeping the slab does
  at-swept : swept_checked_slab cache s at ≡ cond (all_free slabs at) (discarded (with_checked s cache (without_checked slabs at)) at) s
  at-swept = ap (λ (x : Option CheckedState). option_map_or (λ (c : CheckedState). cond (all_free c at) (discarded (with_checked s cache (without_checked c at)) at) s) x s) was

  at-free : all_free_in s cache at ≡ all_free slabs at
  at-free = all-free-is s cache at slabs coherent was

  -- the slab stays: the next is at the next place
  pub at-stays : all_free_in s cache at ≡ false → swept_checked_slab cache s at ≡ s
  at-stays used = let no = sym at-free ∙ used in at-swept ∙ rw no refl

  pub stays-next-listed : (A : State) → all_free_in s cache at ≡ false → fold (swept_checked_slab cache) s (drop place (listed_of s cache)) ≡ A → fold (swept_checked_slab cache) s (drop (place + 1) (listed_of s cache)) ≡ A
  stays-next-listed A used all =
      let next : place + 1 ≡ suc place = omega arith in
      ap (λ n. fold (swept_checked_slab cache) s (drop n (listed_of s cache))) next
      ∙ sym (ap (λ (t : State). fold (swept_checked_slab cache) t (drop (suc place) (listed_of s cache))) (at-stays used))
      ∙ sym (ap (λ (l : List ℕ). fold (swept_checked_slab cache) s l) (drop-at place (listed_of s cache) below)) ∙ all

  pub stays-in-use : all_free_in s cache at ≡ false → AreInUse s cache (take place (listed_of s cache)) → AreInUse s cache (take (place + 1) (listed_of s cache))
  stays-in-use used first f some =
      let next : place + 1 ≡ suc place = omega arith in
      let same : times f (take (place + 1) (listed_of s cache)) ≡ times f (take (suc place) (listed_of s cache)) = ap (λ n. times f (take n (listed_of s cache))) next in
      elim (cases_eq f at) [
        | inl e ↦ subst (λ n. all_free_in s cache n ≡ false) (sym e) used
        | inr ne ↦ first f (omega (arith, some, same, take-at f place (listed_of s cache) below ne))
      ]

  -- the slab goes: the next is at the same place
  abbrev pub left : CheckedState
  left = without_checked slabs at

  abbrev pub left-state : State
  left-state = discarded (with_checked s cache left) at

  pub at-goes : all_free_in s cache at ≡ true → swept_checked_slab cache s at ≡ left-state
  at-goes free = let yes_free = sym at-free ∙ free in at-swept ∙ rw yes_free refl

  pub left-was : checked_of left-state cache ≡ Some left
  left-was = get_or-set_same s.checked cache (Some left) None (inside-of s.checked cache slabs was)

  left-listed : listed_of left-state cache ≡ filter (λ y. not (eqb y at)) (listed_of s cache)
  left-listed =
      ap (λ (x : Option CheckedState). option_map_or (λ (c : CheckedState). c.listed) x []) left-was
      ∙ sym (ap (filter (λ y. not (eqb y at))) (listed-is s cache at slabs coherent was))

  left-without : IsWithout place (listed_of s cache) (listed_of left-state cache)
  left-without = subst (λ (l : List ℕ). IsWithout place (listed_of s cache) l) (sym left-listed) (without-at place (listed_of s cache) below at-once)

  pub left-next : (A : State) → all_free_in s cache at ≡ true → fold (swept_checked_slab cache) s (drop place (listed_of s cache)) ≡ A → fold (swept_checked_slab cache) left-state (drop place (listed_of left-state cache)) ≡ A
  left-next A free all =
      ap (λ (l : List ℕ). fold (swept_checked_slab cache) left-state l) left-without.after
      ∙ sym (ap (λ (t : State). fold (swept_checked_slab cache) t (drop (suc place) (listed_of s cache))) (at-goes free))
      ∙ sym (ap (λ (l : List ℕ). fold (swept_checked_slab cache) s l) (drop-at place (listed_of s cache) below)) ∙ all

  pub left-in-use : AreInUse s cache (take place (listed_of s cache)) → AreInUse left-state cache (take place (listed_of left-state cache))
  left-in-use first f some =
      let same : times f (take place (listed_of left-state cache)) ≡ times f (take place (listed_of s cache)) = ap (times f) left-without.before in
      let apart : f ≢ at = λ e. omega (arith, some, same, ap (λ n. times n (take place (listed_of s cache))) e, left-without.absent) in
      let slab : checked_slab left f ≡ checked_slab slabs f = ap (λ (x : Option SlabState). unwrap_or x no_slab) (get_or-set_other slabs.slabs at f None None apart) in
      ap (λ (x : Option CheckedState). option_map_or (λ (c : CheckedState). all_free c f) x false) left-was
      ∙ ap (λ (x : SlabState). eqb (length x.free) (objects_in x)) slab
      ∙ sym (all-free-is s cache f slabs coherent was) ∙ first f (omega (arith, some, same))

  pub left-shorter : length (listed_of left-state cache) + 1 ≡ length (listed_of s cache)
  left-shorter = left-without.shorter

  -- no more is held or set aside
  pub left-busy : busy_of left-state cache ≤ busy_of s cache
  left-busy =
      let has = listed-has s cache at slabs coherent was listed-there in
      let sums = sum_by-set (λ (slab : Option SlabState). aside_in (unwrap_or slab no_slab)) slabs.slabs at None None (live-inside slabs.slabs at has) in
      let nothing : aside_in (unwrap_or None no_slab) ≡ 0 = refl in
      let now : busy_of left-state cache ≡ get_or s.live cache 0 + aside_count left = ap (λ (x : Option CheckedState). get_or s.live cache 0 + option_map_or aside_count x 0) left-was in
      let before : busy_of s cache ≡ get_or s.live cache 0 + aside_count slabs = ap (λ (x : Option CheckedState). get_or s.live cache 0 + option_map_or aside_count x 0) was in
      omega (arith, sums, nothing, now, before)

-- ---- none is left of which nothing is held or set aside

-- objects of which none is used and none set aside are free
free-all : (states : List ObjectState) → ((i : ℕ) → i < length states → is_idle (slice_get states i) ≡ true) → count_by is_aside states ≡ 0 → count_by is_free states ≡ length states
free-all [] idle none = refl
free-all (Free ∷ xs) idle none =
    let rest = free-all xs (λ i below. idle (suc i) (omega arith)) (omega (arith, none, sum_by-cons (λ x. cond (is_aside x) 1 0) Free xs)) in
    omega (arith, sum_by-cons (λ x. cond (is_free x) 1 0) Free xs, rest)
free-all (Used ∷ xs) idle none = let h = idle 0 (omega arith) in cc
free-all (Aside ∷ xs) idle none = absurd (omega (arith, none, sum_by-cons (λ x. cond (is_aside x) 1 0) Aside xs))

module _ (s : State) (cache frame : ℕ) (slabs : CheckedState) (slab : Slab) (coherent : IsCoherent s) (was : checked_of s cache ≡ Some slabs) (is : slab_of s frame ≡ Some slab) (own : slab.cache ≡ cache) (free : get_or s.live cache 0 ≡ 0) where
  its : IsCheckedOf s cache slabs
  its = was-checked s cache slabs slabs was coherent.shaped.checked

  -- the cache has the slab
  has-slab : (st : SlabState) × (get_or slabs.slabs frame None ≡ Some st) × (slab.objects ≡ objects_in st)
  has-slab = by (get_or slabs.slabs frame None) refl (subst (λ (x : Option Slab). Agrees cache x (shape_at slabs frame)) is (its.agrees frame))
    where
      by : (y : Option SlabState) → get_or slabs.slabs frame None ≡ y → Agrees cache (Some slab) (option_map shape_of y) → (st : SlabState) × (get_or slabs.slabs frame None ≡ Some st) × (slab.objects ≡ objects_in st)
      by None e agrees = absurd (agrees own)
      by (Some st) e agrees = (st, e, agrees.2)

  -- another cache has no object of it
  idle-elsewhere : (index other : ℕ) → other ≢ cache → (x : Option CheckedState) → checked_of s other ≡ x → IfSome x (IsCheckedOf s other) → idle_in frame index x ≡ 0
  idle-elsewhere index other ne None e of = refl
  idle-elsewhere index other ne (Some c) e of = idle-none c frame index (shape (shape_at c frame) (subst (λ (x : Option Slab). Agrees other x (shape_at c frame)) is (of.agrees frame)))
    where
      shape : (x : Option (ℕ × ℕ)) → Agrees other (Some slab) x → x ≡ None
      shape None agrees = refl
      shape (Some y) agrees = absurd (ne (sym agrees.0 ∙ own))

  -- its own freelist here is empty
  unfree : own_free s frame ≡ []
  unfree = by (slab_of s frame) is (its.unfree frame)
    where
      by : (x : Option Slab) → x ≡ Some slab → MatchOption x ⊤ (λ slab. slab.cache ≡ cache → own_free s frame ≡ []) → own_free s frame ≡ []
      by None e h = cc
      by (Some y) e h = h (let same : y ≡ slab = cc in ap (λ (z : Slab). z.cache) same ∙ own)

  -- so each of its objects is free or set aside there
  each-idle : (index : ℕ) → index < slab.objects → is_idle (slice_get has-slab.0.states index) ≡ true
  each-idle index below =
      elim (cases_eq (idle slabs frame index) 0) [
        | inl none ↦
            let idles : sum_by (idle_in frame index) s.checked ≡ 0 = sum-none (idle_in frame index) s.checked None
            (λ other inside. elim (cases_eq other cache) [
              | inl e ↦ ap (λ n. idle_in frame index (checked_of s n)) e ∙ ap (idle_in frame index) was ∙ none
              | inr ne ↦ idle-elsewhere index other ne (checked_of s other) refl (coherent.shaped.checked.those other)
            ]) in
            let object : has_object index (slab_of s frame) ≡ has_object index (Some slab) = ap (has_object index) is in
            let one : has_object index (Some slab) ≡ 1 = grind (arith, nat_tests, below) in
            let nothing : times index (own_free s frame) ≡ 0 = ap (times index) unfree in
            absurd (omega (arith, coherent.placed frame index, object, one, nothing, idles, none-held s cache frame slab coherent is own free index, on-no-cpu s cache frame slab coherent is own its.unlisted index))
        | inr some ↦
            let at_slab : idle slabs frame index ≡ cond (is_idle (slice_get has-slab.0.states index)) 1 0 = ap (λ (x : Option SlabState). cond (is_idle (slice_get (unwrap_or x no_slab).states index)) 1 0) has-slab.1 in
            truth (is_idle (slice_get has-slab.0.states index)) (λ e. some (at_slab ∙ e))
      ]
    where
      truth : (b : Bool) → (◌≡◌ {A = ℕ} (cond b 1 0) 0 → ⊥) → b ≡ true
      truth true h = refl
      truth false h = absurd (h refl)

  -- and where none is set aside, all are free, and the slab is listed
  module _ (none_aside : aside_count slabs ≡ 0) where
    all-are-free : length has-slab.0.free ≡ objects_in has-slab.0
    all-are-free =
        let st : SlabState = has-slab.0 in
        let sound : IsSlab slabs.layout st = at_some (get_or slabs.slabs frame None) st (IsSlab slabs.layout) has-slab.1 (its.sound.slab frame) in
        let aside : aside_in st ≤ aside_count slabs =
        omega (arith, element-counted (λ (slab : Option SlabState). aside_in (unwrap_or slab no_slab)) slabs.slabs frame None refl, ap (λ (x : Option SlabState). aside_in (unwrap_or x no_slab)) has-slab.1) in
        sound.free.count ∙ free-all st.states (λ i below. each-idle i (omega (arith, below, has-slab.2))) (omega (arith, aside, none_aside))

    pub impossible-checked : ((f : ℕ) → 0 < times f (listed_of s cache) → all_free_in s cache f ≡ false) → ⊥
    impossible-checked used =
        let st : SlabState = has-slab.0 in
        let bounds = slab-bounds s frame slab coherent.shaped is in
        let stocked : is_stocked (get_or slabs.slabs frame None) ≡ true = ap is_stocked has-slab.1 ∙ grind (arith, nat_tests, all-are-free, has-slab.2, bounds.2) in
        let one : ◌≡◌ {A = ℕ} (cond (is_stocked (get_or slabs.slabs frame None)) 1 0) 1 = ap (λ b. cond b 1 0) stocked in
        let same = ap (times frame) (listed-is s cache frame slabs coherent was) in
        let fails = used frame (omega (arith, same, its.sound.listed frame, one)) in
        let holds : all_free slabs frame ≡ true = ap (λ (x : Option SlabState). eqb (length (unwrap_or x no_slab).free) (objects_in (unwrap_or x no_slab))) has-slab.1 ∙ grind (arith, nat_tests, all-are-free) in
        let both = sym holds ∙ sym (all-free-is s cache frame slabs coherent was) ∙ fails in
        cc

pub checked-emptied : (s : State) (cache : ℕ) → IsCoherent s → IsSome (checked_of s cache) → ((f : ℕ) → 0 < times f (listed_of s cache) → all_free_in s cache f ≡ false) → busy_of s cache ≡ 0 → has_slab s cache ≡ false
checked-emptied s cache coherent checked used busy = no-slabs s cache (λ f. by f (slab_of s f) refl)
  where
    by : (f : ℕ) (x : Option Slab) → slab_of s f ≡ x → is_slab_of cache x ≡ false
    by f None is = refl
    by f (Some slab) is =
        let own = the-checked (checked_of s cache) checked in
        let sum : busy_of s cache ≡ get_or s.live cache 0 + aside_count own.0 = ap (λ (x : Option CheckedState). get_or s.live cache 0 + option_map_or aside_count x 0) own.1 in
        elim (cases_eq slab.cache cache) [
          | inl e ↦ absurd (impossible-checked s cache f own.0 slab coherent own.1 is e (omega (arith, busy, sum)) (omega (arith, busy, sum)) used)
          | inr ne ↦ grind (arith, nat_tests, ne)
        ]

-- ---- order leaves all of this

module _ (s after : State) (cache : ℕ) (slabs : CheckedState) (coherent : IsCoherent s) (was : checked_of s cache ≡ Some slabs) (done : PromotesChecked s cache after) where
  ordered : (frames : List ℕ) × IsPromoted slabs.listed (free_counts slabs) frames × (after ≡ with_checked s cache (record slabs { listed = frames }))
  ordered = at_match (checked_of s cache) slabs (λ slabs. (frames : List ℕ) × IsPromoted slabs.listed (free_counts slabs) frames × (after ≡ with_checked s cache (record slabs { listed = frames }))) was done

  abbrev last : CheckedState
  last = record slabs { listed = ordered.0 }

  now-checked : checked_of after cache ≡ Some last
  now-checked = ap (λ (t : State). checked_of t cache) ordered.2 ∙ get_or-set_same s.checked cache (Some last) None (inside-of s.checked cache slabs was)

  pub ordered-checked : IsSome (checked_of after cache)
  ordered-checked = ap is_some now-checked

  pub ordered-in-use : AreInUse s cache (listed_of s cache) → AreInUse after cache (listed_of after cache)
  ordered-in-use used f some =
      let now : listed_of after cache ≡ ordered.0 = ap (λ (x : Option CheckedState). option_map_or (λ (c : CheckedState). c.listed) x []) now-checked in
      let same = times-IsPermutation f slabs.listed ordered.0 (keeps slabs.listed (free_counts slabs) ordered.0 (length-map slabs.listed (λ frame. length (checked_slab slabs frame).free)) ordered.1) in
      let before = ap (times f) (listed-is s cache 0 slabs coherent was) in
      ap (λ (x : Option CheckedState). option_map_or (λ (c : CheckedState). all_free c f) x false) now-checked ∙ sym (all-free-is s cache f slabs coherent was)
      ∙ used f (omega (arith, some, ap (times f) now, same, before))

  pub ordered-busy : busy_of after cache ≡ busy_of s cache
  ordered-busy =
      let live = ap (λ (t : State). get_or t.live cache 0) ordered.2 in
      let aside = ap (λ (x : Option CheckedState). option_map_or aside_count x 0) now-checked in
      let before = ap (λ (x : Option CheckedState). option_map_or aside_count x 0) was in
      omega (arith, live, aside, before)

  pub ordered-held : KeepsHeld s after
  ordered-held = subst (KeepsHeld s) (sym ordered.2) (record { frames = refl; cpus = refl; table = refl; board = refl; gone = refl; live = refl })

  pub ordered-slabs : after.slabs ≡ s.slabs
  ordered-slabs = ap (λ (t : State). t.slabs) ordered.2
