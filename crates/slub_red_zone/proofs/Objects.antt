-- What each step leaves of the objects and slabs.
use Rattle.std.proofs.Common.{◌≡◌, ◌≢◌, ℕ, zero, suc, ◌+◌, ◌<◌, ◌≤◌, ◌++◌, ◌==◌, not, List, [], ◌∷◌, length, get_or, set, drop, filter, Option, None, Some, IsSome, option_map, ℤ, Result, Ok, Err, unwrap_or, slice_get, refl, ap, arith, subst, sym, ◌∙◌, inl, inr, append_assoc, append-nil, length-append, length-set}
use Rattle.std.proofs.lemmas.Bool.{cases_eq}
use Rattle.std.proofs.lemmas.Bool.Decides.{nat_tests}
use Rattle.std.proofs.lemmas.Grind.{get_or-set_at}
use Rattle.std.proofs.lemmas.List.{get_or-set_other, length-map, length-replicate}
use Rattle.std.proofs.lemmas.List.Sums.{length-filter, count_by-le-length}
use Rattle.std.specs.List.{range_with_len}
use Rattle.slub_trace.specs.declared.damage.Damage.{Damage}
use Rattle.slub_trace.specs.declared.damage.Report.{Report}
use Rattle.slub_red_zone.specs.declared.slab.ObjectState.TheVariants.{Free, Used}
use Rattle.slub_red_zone.specs.declared.checked.CheckedGive.{CheckedGive}
use Rattle.slub_red_zone.specs.declared.checked.CheckedGive.TheVariants.{Given, Empty}
use Rattle.slub_red_zone.specs.declared.checked.OutOfSlot.{OutOfSlot}
use Rattle.slub_red_zone.specs.declared.checked.Run.{Run}
use Rattle.slub_red_zone.specs.declared.checked.Slot.{Slot}
use Rattle.slub_red_zone.specs.State.{SlabState, CheckedState, Has, IsUsed, no_slab, slab_of, with_slab, objects_in}
use Rattle.slub_red_zone.specs.Steps.{Gives, nothing_listed, next_is_whole, next_is_damaged, IsNext, Pokes, TakesBack, TakesEmpty, first_of, slab_with_given, slab_with_taken, slab_set_aside, set_aside, with_given, with_damaged, with_taken, relisted, listed_with, report_of, new_slab, with_new_slab}
use Rattle.slub_red_zone.specs.Sound.{IsSound}
use Rattle.slub_object_layout.specs.Layout.{IsSized}
use Rattle.slub_red_zone.specs.Objects.{here, shape_of, findable, KeepsSlabs, KeepsOthers, KeepsIdle, KeepsObjects, GivesOne, GivesObject, TakesObject, AddsSlab, AddsGivenSlab, TakesSlab}
use Rattle.slub_red_zone.proofs.Idle.{one_idle, same, idle-given, idle-taken, idle-aside, idle-new, idle-all, slice_get-set}
use Rattle.slub_red_zone.proofs.OneSlab.{first-is-free}
use Rattle.slub_red_zone.proofs.Whole.{slab-there}
use Rattle.slub_red_zone.proofs.Sums.{slab_at-set}
use Rattle.slub_red_zone.proofs.Stocks.{by-count}
use Rattle.slub_red_zone.proofs.Given.{next-there, next-slab, next-object, next-frame, damaged-sound}
use Rattle.slub_red_zone.proofs.Taken.{used-object, used-some, used-state, frame-within}
use Rattle.slub_red_zone.proofs.Comings.{full, within}

-- what holds of two states holds of those that are equal to them
pub at_equal : (P : CheckedState → CheckedState → Type 0) {s t u v : CheckedState} → s ≡ t → v ≡ u → P s u → P t v
at_equal P {s} {t} {u} {v} p q h = let Q : CheckedState → Type 0 = λ x. P x v in subst Q p (let R : CheckedState → Type 0 = P s in subst R (sym q) h)

-- ---- one slab is written

-- 1 for an idle object of a slab
abbrev idle_in : Option SlabState → ℕ → ℕ
idle_in x index = one_idle (slice_get (unwrap_or x no_slab).states index)

-- what holds of the slab that is written, and of each other, holds of each
each-slab : (slabs : List (Option SlabState)) (frame : ℕ) (x : Option SlabState) (P : ℕ → Option SlabState → Option SlabState → Type 0) → frame < length slabs → P frame (get_or slabs frame None) x
    → ((f : ℕ) → f ≢ frame → P f (get_or slabs f None) (get_or slabs f None)) → (f : ℕ) → P f (get_or slabs f None) (get_or (set slabs frame x) f None)
each-slab slabs frame x P inside new others f =
    elim (cases_eq f frame) [
      | inl e ↦
          let Q : ℕ → Type 0 = λ g. P g (get_or slabs g None) (get_or (set slabs frame x) g None) in
          let R : Option SlabState → Type 0 = λ y. P frame (get_or slabs frame None) y in
          subst Q (sym e) (subst R (sym (get_or-set_at slabs frame frame x None refl inside)) new)
      | inr ne ↦
          let R : Option SlabState → Type 0 = λ y. P f (get_or slabs f None) y in
          subst R (sym (get_or-set_other slabs frame f x None ne)) (others f ne)
    ]

-- the number of the slabs stays, where one is written with the same order and number of objects
keeps-slabs : (s : CheckedState) (frame : ℕ) (slab : SlabState) (listed : List ℕ) (reports : List Report) → frame < length s.slabs → get_or s.slabs frame None ≡ Some (slab_of s frame)
    → slab.order ≡ (slab_of s frame).order → objects_in slab ≡ objects_in (slab_of s frame) → KeepsSlabs s (record s { slabs = set s.slabs frame (Some slab); listed = listed; reports = reports })
keeps-slabs s frame slab listed reports inside there order objects = record {
  layout = refl;
  flags = refl;
  cache = refl;
  shape = each-slab s.slabs frame (Some slab) (λ f old new. option_map shape_of new ≡ option_map shape_of old) inside
      (same_shape ∙ sym (ap (option_map shape_of) there)) (λ f ne. refl);
}
  where
    same_shape : ◌≡◌ {A = Option (ℕ × ℕ)} (Some (slab.order, objects_in slab)) (Some ((slab_of s frame).order, objects_in (slab_of s frame)))
    same_shape = λ i. Some (order i, objects i)

-- the other slabs stay
keeps-others : (s : CheckedState) (frame : ℕ) (x : Option SlabState) (listed : List ℕ) (reports : List Report) → KeepsOthers s frame (record s { slabs = set s.slabs frame x; listed = listed; reports = reports })
keeps-others s frame x listed reports = record {
  layout = refl;
  flags = refl;
  cache = refl;
  shape = λ other ne. ap (option_map shape_of) (get_or-set_other s.slabs frame other x None ne);
  objects = λ other index ne. ap (λ y. idle_in y index) (get_or-set_other s.slabs frame other x None ne);
}

-- 1 for one object among those of its slab, and none of another's
here-there : (slot : Slot) (index : ℕ) → here slot slot.frame index ≡ same slot.index index
here-there slot index = grind (arith, nat_tests)

here-other : (slot : Slot) (frame index : ℕ) → frame ≢ slot.frame → here slot frame index ≡ 0
here-other slot frame index ne = let other : slot.frame ≢ frame = λ e. ne (sym e) in grind (arith, nat_tests, other)

-- ---- giving

-- the list is no longer than before, or longer by one
relisted-few : (listed : List ℕ) (slab : SlabState) → length (relisted listed slab) ≤ length listed
relisted-few listed slab = by-count (length slab.free) (drop 1 listed) listed (λ xs. length xs ≤ length listed) (λ none. dropped listed) (λ some. omega arith)
  where
    dropped : (xs : List ℕ) → length (drop 1 xs) ≤ length xs
    dropped [] = omega arith
    dropped (x ∷ xs) = omega arith

module _ (s : CheckedState) (slot : Slot) (sound : IsSound s) (next : IsNext s slot) where
  -- the object is given
  pub given-object : GivesObject s (Given slot) (with_given s slot)
  given-object =
      let was = slab_of s slot.frame in
      let now : SlabState = slab_with_given s.layout s.flags was slot.index in
      let object = next-object s slot sound next in
      let inside = next-frame s slot sound next in
      let there = next-there s slot sound next in
      let free = first-is-free s.layout was (next-slab s slot sound next) slot.index _ next.free in
      let long : objects_in now ≡ objects_in was = length-set was.states slot.index Used in
      let written = slab_at-set s.slabs slot.frame now inside in
      record {
        slabs = keeps-slabs s slot.frame now (relisted s.listed now) s.reports inside there refl long;
        objects = record {
          one = λ frame index. each-slab s.slabs slot.frame (Some now) (λ f old new. idle_in old index ≡ idle_in new index + here slot f index) inside
              (let h = idle-given was.states slot.index index object free in let e = here-there slot index in omega (arith, h, e))
              (λ f ne. let e = here-other slot f index ne in omega (arith, e)) frame;
          inside = let e = ap (λ (slab : SlabState). objects_in slab) written in omega (arith, e, long, object);
          used = ap (λ (slab : SlabState). slice_get slab.states slot.index) written ∙ slice_get-set was.states slot.index Used object;
        };
        reports = ([], sym (append-nil s.reports));
        bounded = omega (arith, relisted-few s.listed now);
      }

  -- its slab is set aside
  module _ (damage : Damage) where
    damaged-slabs : KeepsSlabs s (with_damaged s slot damage)
    damaged-slabs =
        let was = slab_of s slot.frame in
        keeps-slabs s slot.frame (slab_set_aside was) (drop 1 s.listed) (s.reports ++ report_of s slot damage ∷ []) (next-frame s slot sound next) (next-there s slot sound next) refl (length-map was.states set_aside)

    damaged-idle : KeepsIdle s (with_damaged s slot damage)
    damaged-idle frame index =
        let was = slab_of s slot.frame in
        each-slab s.slabs slot.frame (Some (slab_set_aside was)) (λ f old new. idle_in new index ≡ idle_in old index) (next-frame s slot sound next) (idle-aside was.states index) (λ f ne. refl) frame

    damaged-findable : findable (with_damaged s slot damage) ≡ findable s
    damaged-findable = let l = ap length next.listed in omega (arith, l, length-append s.reports (report_of s slot damage ∷ []))

-- slabs that stay and stay
keeps-slabs_twice : {a b c : CheckedState} → KeepsSlabs a b → KeepsSlabs b c → KeepsSlabs a c
keeps-slabs_twice p q = record { layout = q.layout ∙ p.layout; flags = q.flags ∙ p.flags; cache = q.cache ∙ p.cache; shape = λ frame. q.shape frame ∙ p.shape frame }

-- the same objects are idle, then one is given or the same are idle
gives-later : (a b : CheckedState) (answer : CheckedGive) (c : CheckedState) → KeepsIdle a b → GivesOne b answer c → GivesOne a answer c
gives-later a b (Given slot) c same gives = record { one = λ frame index. sym (same frame index) ∙ gives.one frame index; inside = gives.inside; used = gives.used }
gives-later a b Empty c same gives = λ frame index. gives frame index ∙ same frame index

-- what is given after a slab is set aside
pub given-later : (s : CheckedState) (slot : Slot) → IsSound s → IsNext s slot → (damage : Damage) (answer : CheckedGive) (after : CheckedState) → GivesObject (with_damaged s slot damage) answer after → GivesObject s answer after
given-later s slot sound next damage answer after gives = record {
  slabs = keeps-slabs_twice (damaged-slabs s slot sound next damage) gives.slabs;
  objects = gives-later s (with_damaged s slot damage) answer after (damaged-idle s slot sound next damage) gives.objects;
  reports = (report_of s slot damage ∷ gives.reports.0, gives.reports.1 ∙ append_assoc s.reports (report_of s slot damage ∷ []) gives.reports.0);
  bounded = omega (arith, gives.bounded, damaged-findable s slot sound next damage);
}

-- nothing is given
pub none-given : (s : CheckedState) → GivesObject s Empty s
none-given s = record {
  slabs = record { layout = refl; flags = refl; cache = refl; shape = λ frame. refl };
  objects = λ frame index. refl;
  reports = ([], sym (append-nil s.reports));
  bounded = omega arith;
}

-- what any give leaves
pub gives-object : (s : CheckedState) (answer : CheckedGive) (after : CheckedState) → IsSound s → Gives s answer after → GivesObject s answer after
gives-object _ _ _ sound (nothing_listed s none) = none-given s
gives-object _ _ _ sound (next_is_whole s slot next whole) = given-object s slot sound next
gives-object _ _ _ sound (next_is_damaged s slot damage answer after next damaged gives) =
    given-later s slot sound next damage answer after (gives-object (with_damaged s slot damage) answer after (damaged-sound s slot sound next damage) gives)

-- ---- taking back

listed_with-few : (listed : List ℕ) (frame : ℕ) (slab : SlabState) → length (listed_with listed frame slab) ≤ length listed + 1
listed_with-few listed frame slab = by-count (length slab.free) (listed ++ frame ∷ []) listed (λ xs. length xs ≤ length listed + 1) (λ none. omega (arith, length-append listed (frame ∷ []))) (λ some. omega arith)

pub taken-object : (s : CheckedState) (slot : Slot) → IsSound s → IsUsed s slot → TakesObject s slot (Ok tt) (with_taken s slot)
taken-object s slot sound used =
    let was = slab_of s slot.frame in
    let now : SlabState = slab_with_taken s.layout s.flags was slot.index in
    let object = used-object s slot sound used in
    let some = used-some s slot sound used in
    let inside = frame-within s slot.frame sound some in
    record {
      slabs = keeps-slabs s slot.frame now (listed_with s.listed slot.frame was) s.reports inside (slab-there s.slabs slot.frame some) refl (length-set was.states slot.index Free);
      objects = λ frame index. each-slab s.slabs slot.frame (Some now) (λ f old new. idle_in new index ≡ idle_in old index + here slot f index) inside
          (let h = idle-taken was.states slot.index index object (used-state s slot sound used) in let e = here-there slot index in omega (arith, h, e))
          (λ f ne. let e = here-other slot f index ne in omega (arith, e)) frame;
      reports = refl;
      bounded = omega (arith, listed_with-few s.listed slot.frame was);
    }

pub takes-object : (s : CheckedState) (slot : Slot) (answer : Result (Unit {0}) Damage) (after : CheckedState) → IsSound s → IsUsed s slot → TakesBack s slot answer after → TakesObject s slot answer after
takes-object s slot (Ok _) after sound used takes = let P : CheckedState → Type 0 = TakesObject s slot (Ok tt) in subst P (sym takes.1) (taken-object s slot sound used)
takes-object s slot (Err damage) after sound used takes =
    let P : CheckedState → Type 0 = TakesObject s slot (Err damage) in
    subst P (sym takes.1) (record { slabs = record { layout = refl; flags = refl; cache = refl; shape = λ frame. refl }; objects = λ frame index. refl; reports = refl; bounded = omega arith })

-- ---- slabs that come and go

pub adds-slab : (s : CheckedState) (run : Run) (objects : ℕ) → run.frame < length s.slabs → AddsSlab s run objects (with_new_slab s run objects)
adds-slab s run objects inside =
    let slab = new_slab s.layout s.flags run.order objects in
    let there = get_or-set_at s.slabs run.frame run.frame (Some slab) None refl inside in
    record {
      others = keeps-others s run.frame (Some slab) (run.frame ∷ s.listed) s.reports;
      shape = ap (option_map shape_of) there ∙ ap (λ n. Some (run.order, n)) (length-replicate objects Free);
      objects = λ index. ap (λ x. idle_in x index) there ∙ idle-new objects index;
      reports = refl;
      bounded = omega arith;
    }

-- the first object of a new slab is the next
pub first-is-next : (s : CheckedState) (run : Run) (objects : ℕ) (slot : Slot) → slot ≡ first_of run → run.frame < length s.slabs → 1 ≤ objects → IsNext (with_new_slab s run objects) slot
first-is-next s run objects slot first inside some = let P : Slot → Type 0 = IsNext (with_new_slab s run objects) in subst P (sym first) (record { listed = refl; free = front })
  where
    rising : (n : ℕ) → 1 ≤ n → range_with_len 0 n ≡ 0 ∷ drop 1 (range_with_len 0 n)
    rising zero some = absurd (omega (arith, some))
    rising (suc n) some = refl

    front : (slab_of (with_new_slab s run objects) run.frame).free ≡ 0 ∷ drop 1 (slab_of (with_new_slab s run objects) run.frame).free
    front =
        let e = ap (λ (slab : SlabState). slab.free) (slab_at-set s.slabs run.frame (new_slab s.layout s.flags run.order objects) inside) in
        e ∙ rising objects some ∙ sym (ap (λ xs. 0 ∷ drop 1 xs) e)

module _ (s : CheckedState) (run : Run) (objects : ℕ) (sound : IsSound (with_new_slab s run objects)) (last : run.frame < 4096) (sized : IsSized s.layout run.order objects) (slot : Slot) (first : slot ≡ first_of run) where
  place : run.frame < length s.slabs
  place = omega (arith, last, sound.frames, length-set s.slabs run.frame (Some (new_slab s.layout s.flags run.order objects)))

  some : 1 ≤ objects
  some = let b = sound.layout.bounds in elim sized [ inl usual ↦ omega (arith, usual.1, b.objects) | inr least ↦ omega (arith, least.1, b.min_objects_slab) ]

  pub first-comes : IsNext (with_new_slab s run objects) slot
  first-comes = first-is-next s run objects slot first place some

  -- a new slab whose first object is given
  pub adds-given : AddsGivenSlab s run objects slot (with_given (with_new_slab s run objects) slot)
  adds-given =
      let added = adds-slab s run objects place in
      let given = given-object (with_new_slab s run objects) slot sound first-comes in
      let same : slot.frame ≡ run.frame = ap (λ (slot : Slot). slot.frame) first in
      record {
        others = record {
          layout = refl;
          flags = refl;
          cache = refl;
          shape = λ other ne. given.slabs.shape other ∙ added.others.shape other ne;
          objects = λ other index ne. let none = here-other slot other index (λ e. ne (e ∙ same)) in omega (arith, given.objects.one other index, added.others.objects other index ne, none);
        };
        shape = given.slabs.shape run.frame ∙ added.shape;
        objects = λ index. sym (given.objects.one run.frame index) ∙ added.objects index;
        used = given.objects.used;
        reports = refl;
        bounded = omega (arith, given.bounded, added.bounded);
      }

filter-few : (frame : ℕ) (xs : List ℕ) → length (filter (λ other. not (other == frame)) xs) ≤ length xs
filter-few frame xs = omega (arith, length-filter (λ other. not (other == frame)) xs, count_by-le-length (λ other. not (other == frame)) xs)

pub takes-slab : (s : CheckedState) (frame limit : ℕ) (run : Run) (after : CheckedState) → IsSound s → Has s frame → TakesEmpty s frame limit (Some run) after → TakesSlab s frame after
takes-slab s frame limit run after sound has takes =
    let was = slab_of s frame in
    let there = is-there (get_or s.slabs frame None) has in
    let all : objects_in was ≤ length was.free = omega (arith, takes.0.all_free) in
    let inside = within s frame was sound there all in
    let gone = get_or-set_at s.slabs frame frame None None refl inside in
    let P : CheckedState → Type 0 = TakesSlab s frame in
    subst P (sym takes.2) (record {
      others = keeps-others s frame None (filter (λ other. not (other == frame)) s.listed) s.reports;
      shape = ap (option_map shape_of) gone;
      before = λ index. idle-all was.states index (full s frame was sound there all).2;
      objects = λ index. ap (λ x. idle_in x index) gone;
      reports = refl;
      bounded = omega (arith, filter-few frame s.listed);
    })
  where
    is-there : (x : Option SlabState) → IsSome x → x ≡ Some (unwrap_or x no_slab)
    is-there None has = cc
    is-there (Some slab) has = refl

-- ---- bytes and the order of the list

pub written-objects : (s : CheckedState) (frame : ℕ) → IsSound s → 0 < objects_in (slab_of s frame) → (bytes : List ℕ) → KeepsObjects s (with_slab s frame (record (slab_of s frame) { bytes = bytes }))
written-objects s frame sound some bytes =
    let now : SlabState = record (slab_of s frame) { bytes = bytes } in
    let inside = frame-within s frame sound some in
    record {
      slabs = keeps-slabs s frame now s.listed s.reports inside (slab-there s.slabs frame some) refl refl;
      objects = λ f index. each-slab s.slabs frame (Some now) (λ f old new. idle_in new index ≡ idle_in old index) inside refl (λ f ne. refl) f;
      reports = refl;
      listed = refl;
    }

pub pokes-objects : (s : CheckedState) (slot : Slot) (offset : ℤ) (byte : ℕ) (answer : Result (Unit {0}) OutOfSlot) (after : CheckedState) → IsSound s → slot.index < objects_in (slab_of s slot.frame) → Pokes s slot offset byte answer after → KeepsObjects s after
pokes-objects s slot offset byte (Ok _) after sound object pokes = let P : CheckedState → Type 0 = KeepsObjects s in subst P (sym pokes.1) (written-objects s slot.frame sound (omega (arith, object)) _)
pokes-objects s slot offset byte (Err _) after sound object pokes =
    let P : CheckedState → Type 0 = KeepsObjects s in
    subst P (sym pokes.1) (record { slabs = record { layout = refl; flags = refl; cache = refl; shape = λ frame. refl }; objects = λ frame index. refl; reports = refl; listed = refl })

pub moved-objects : (s : CheckedState) (listed : List ℕ) → length listed ≡ length s.listed → KeepsObjects s (record s { listed = listed })
moved-objects s listed long = record { slabs = record { layout = refl; flags = refl; cache = refl; shape = λ frame. refl }; objects = λ frame index. refl; reports = refl; listed = long }
