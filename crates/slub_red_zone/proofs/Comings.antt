-- A slab that comes, and one that goes.
use Rattle.std.proofs.Common.{◌≡◌, ℕ, suc, ◌+◌, ◌*◌, ◌-◌, ◌<◌, ◌≤◌, ◌++◌, not, Bool, List, [], ◌∷◌, length, get_or, set, filter, Option, None, Some, IfSome, IsSome, is_some, unwrap_or, refl, ap, arith, subst, sym, ◌∙◌, eqb, inl, inr, length-set, Contains, IsPermutation, cond}
use Rattle.std.proofs.lemmas.List.Sums.{count_by-le-length}
use Rattle.std.proofs.lemmas.List.FromFn.{length-range_with_len}
use Rattle.std.proofs.lemmas.Bool.{cases_eq, cond_both}
use Rattle.std.proofs.lemmas.Bool.Decides.{nat_tests}
use Rattle.std.proofs.lemmas.List.Sorted.{sum_by-IsPermutation, length_permutation}
use Rattle.slub_node_partial.specs.PartialList.{IsTakenOut}
use Rattle.slub_common.proofs.Times.{times-cons, times-append}
use Rattle.slub_red_zone.specs.declared.checked.Run.{Run}
use Rattle.slub_red_zone.specs.declared.totals.Totals.{Totals}
use Rattle.slub_red_zone.specs.State.{SlabState, CheckedState, Has, no_slab, slab_of, free_in, used_in, aside_in, objects_in}
use Rattle.slub_red_zone.specs.Steps.{new_slab, with_new_slab, without_slab}
use Rattle.slub_common.specs.Times.{times}
use Rattle.slub_red_zone.specs.Sound.{IsSound, IsSlab, is_stocked}
use Rattle.slub_object_layout.specs.Layout.{IsSized}
use Rattle.slub_red_zone.specs.Kept.{IsKept}
use Rattle.slub_red_zone.proofs.Counting.{one_if, count-set, new-kinds}
use Rattle.slub_red_zone.proofs.OneSlab.{few-free, new-slab}
use Rattle.slub_red_zone.proofs.Whole.{stock, sound-with, relisted-front, relisted-without, frame-inside, frame-positive}
use Rattle.slub_red_zone.proofs.Sums.{each, sum-with, objects-small}
use Rattle.slub_red_zone.proofs.Stocks.{stock-one}

-- a new slab
module _ (s : CheckedState) (run : Run) (objects : ℕ) (sound : IsSound s) (new : ¬ Has s run.frame) (first : 1 ≤ run.frame) (last : run.frame < 4096) (sized : IsSized s.layout run.order objects) where
  pub none-there : get_or s.slabs run.frame None ≡ None
  none-there = none (get_or s.slabs run.frame None) new
    where
      none : (x : Option SlabState) → ¬ IsSome x → x ≡ None
      none None h = refl
      none (Some slab) h = absurd (h refl)

  pub place-inside : run.frame < length s.slabs
  place-inside = omega (arith, last, sound.frames)

  some-objects : (1 ≤ objects) × (objects ≤ 512)
  some-objects = let b = sound.layout.bounds in elim sized [ inl usual ↦ (omega (arith, usual.1, b.objects), omega (arith, usual.1, b.objects)) | inr least ↦ (omega (arith, least.1, b.min_objects_slab, b.objects), omega (arith, least.1, b.min_objects_slab, b.objects)) ]

  pub objects-few : objects ≤ 512
  objects-few = some-objects.1

  -- there is room for it on the list
  pub room-on-list : length s.listed < 4096
  room-on-list =
      let slab = new_slab s.layout s.flags run.order objects in
      let more = count-set is_stocked s.slabs run.frame (Some slab) None place-inside in
      let most = count_by-le-length is_stocked (set s.slabs run.frame (Some slab)) in
      let old = ap stock none-there in
      omega (arith, more, most, old, stocked, sound.listed_count, sound.frames, length-set s.slabs run.frame (Some slab))
    where
      stocked : stock (Some (new_slab s.layout s.flags run.order objects)) ≡ 1
      stocked = stock-one (new_slab s.layout s.flags run.order objects) (omega (arith, length-range_with_len 0 objects, some-objects))

  module _ (whole : length (new_slab s.layout s.flags run.order objects).bytes ≡ objects * s.layout.size) where
    pub new-sound : IsSound (with_new_slab s run objects)
    new-sound =
        let slab = new_slab s.layout s.flags run.order objects in
        let kinds = new-kinds objects in
        let one = stock-one slab (omega (arith, length-range_with_len 0 objects, some-objects)) in
        let none = ap stock none-there in
        let aside_was = ap (each aside_in) none-there in
        let aside = sum-with aside_in s.slabs run.frame (Some slab) place-inside in
        sound-with s run.frame (Some slab) (run.frame ∷ s.listed) s.reports sound (omega (arith, first)) last (new-slab s.layout s.flags run.order objects sized whole)
        (relisted-front s run.frame (Some slab) sound none one) (omega (arith, none, one)) (omega (arith, sound.reported, aside, aside_was, kinds))

    pub new-kept : {t : Totals} {a b c c' : ℕ} → IsKept s t a b c → t.free + t.used + t.aside + objects ≤ c' → IsKept (with_new_slab s run objects) (record { free = t.free + objects; used = t.used; aside = t.aside; slabs = t.slabs + 1 }) a b c'
    new-kept kept room =
        let slab = new_slab s.layout s.flags run.order objects in
        let kinds = new-kinds objects in
        let free_was = ap (each free_in) none-there in
        let used_was = ap (each used_in) none-there in
        let aside_was = ap (each aside_in) none-there in
        let free = sum-with free_in s.slabs run.frame (Some slab) place-inside in
        let used = sum-with used_in s.slabs run.frame (Some slab) place-inside in
        let aside = sum-with aside_in s.slabs run.frame (Some slab) place-inside in
        let slabs = count-set is_some s.slabs run.frame (Some slab) None place-inside in
        let was : one_if (is_some (get_or s.slabs run.frame None)) ≡ 0 = ap (λ x. one_if (is_some x)) none-there in
        record {
          sound = new-sound;
          are_totals = record { free = omega (arith, kept.are_totals, kinds, free, free_was); used = omega (arith, kept.are_totals, kinds, used, used_was); aside = omega (arith, kept.are_totals, kinds, aside, aside_was); slabs = omega (arith, kept.are_totals, slabs, was) };
          list_room = kept.list_room;
          counts_room = kept.counts_room;
          reports_room = omega (arith, room);
        }

-- ---- a list without one that stands there once

-- what is counted is there
pub counted-there : (x : ℕ) (xs : List ℕ) → 0 < times x xs → Contains xs x
counted-there x [] some = absurd (omega (arith, some))
counted-there x (y ∷ ys) some =
    elim (cases_eq y x) [
      | inl same ↦ (0, omega arith, same)
      | inr other ↦ let t = times-cons x y ys in let h = counted-there x ys (grind (arith, nat_tests, t, some, other)) in (suc h.0, omega (arith, h.1), h.2)
    ]

-- a filter takes nothing away where there is nothing to take
pub filter-none : (x : ℕ) (xs : List ℕ) → times x xs ≡ 0 → filter (λ other. not (eqb other x)) xs ≡ xs
filter-none x [] none = refl
filter-none x (y ∷ ys) none =
    let t = times-cons x y ys in
    let h : times x ys ≡ 0 = omega (arith, t, none) in
    cond_both (not (eqb y x)) (y ∷ filter (λ other. not (eqb other x)) ys) (filter (λ other. not (eqb other x)) ys) (λ zs. zs ≡ y ∷ ys)
    (λ kept. ap (λ zs. y ∷ zs) (filter-none x ys h))
    (λ gone. absurd (grind (arith, nat_tests, t, none, gone)))

filter-both : (p : ℕ → Bool) (xs ys : List ℕ) → filter p (xs ++ ys) ≡ filter p xs ++ filter p ys
filter-both p [] ys = refl
filter-both p (x ∷ xs) ys =
    cond_both (p x) (x ∷ filter p (xs ++ ys)) (filter p (xs ++ ys)) (λ zs. zs ≡ cond (p x) (x ∷ filter p xs) (filter p xs) ++ filter p ys)
    (λ yes. rw (yes, filter-both p xs ys) refl)
    (λ no. rw (no, filter-both p xs ys) refl)

-- what is left when it is taken out
pub taken-out : (before : List ℕ) (x : ℕ) (after : List ℕ) → times x before ≡ 1 → IsTakenOut before x after → after ≡ filter (λ other. not (eqb other x)) before
taken-out before x after once out =
    let parts = ap (times x) out.was ∙ times-append x out.front (x ∷ out.rest) in
    let t = times-cons x x out.rest in
    let both : (times x out.front ≡ 0) × (times x out.rest ≡ 0) = (grind (arith, nat_tests, once, parts, t), grind (arith, nat_tests, once, parts, t)) in
    let p : ℕ → Bool = λ other. not (eqb other x) in
    let whole = ap (filter p) out.was ∙ filter-both p out.front (x ∷ out.rest) in
    let front = filter-none x out.front both.0 in
    let rest = filter-none x out.rest both.1 in
    let self : filter p (x ∷ out.rest) ≡ filter p out.rest = skipped x out.rest in
    out.is ∙ sym (whole ∙ ap (λ xs. xs ++ filter p (x ∷ out.rest)) front ∙ ap (λ xs. out.front ++ xs) (self ∙ rest))
  where
    skipped : (x : ℕ) (xs : List ℕ) → filter (λ other. not (eqb other x)) (x ∷ xs) ≡ filter (λ other. not (eqb other x)) xs
    skipped x xs = cond_both (not (eqb x x)) (x ∷ filter (λ other. not (eqb other x)) xs) (filter (λ other. not (eqb other x)) xs) (λ zs. zs ≡ filter (λ other. not (eqb other x)) xs) (λ kept. absurd (grind (arith, nat_tests, kept))) (λ gone. refl)

-- a slab with no object in use
module _ (s : CheckedState) (frame : ℕ) (slab : SlabState) (sound : IsSound s) (there : get_or s.slabs frame None ≡ Some slab) (all : objects_in slab ≤ length slab.free) where
  pub slab-is : slab_of s frame ≡ slab
  slab-is = ap (λ x. unwrap_or x no_slab) there

  its : IsSlab s.layout slab
  its = let P : Option SlabState → Type 0 = λ y. IfSome y (IsSlab s.layout) in subst P there (sound.slab frame)

  pub full : (length slab.free ≡ objects_in slab) × (1 ≤ objects_in slab) × (used_in slab ≡ 0) × (aside_in slab ≡ 0)
  full = let f = few-free s.layout slab its in let b = sound.layout.bounds in
      let some : 1 ≤ objects_in slab = elim its.sized [ inl usual ↦ omega (arith, usual.1, b.objects) | inr least ↦ omega (arith, least.1, b.min_objects_slab) ] in
      (omega (arith, f, all), some, omega (arith, f, all), omega (arith, f, all))

  pub all-free-there : length (slab_of s frame).free ≡ objects_in (slab_of s frame)
  all-free-there = ap (λ (x : SlabState). length x.free) slab-is ∙ full.0 ∙ sym (ap (λ (x : SlabState). objects_in x) slab-is)

  some-there : 0 < objects_in (slab_of s frame)
  some-there = let e = ap (λ (x : SlabState). objects_in x) slab-is in omega (arith, e, full.1)

  pub within : frame < length s.slabs
  within = omega (arith, frame-inside s frame sound some-there, sound.frames)

  stocked : stock (get_or s.slabs frame None) ≡ 1
  stocked = ap stock there ∙ stock-one slab (omega (arith, full))

  -- it stands on the list, once
  pub listed-once : times frame s.listed ≡ 1
  listed-once = sound.listed frame ∙ stocked

  pub listed-there : Contains s.listed frame
  listed-there = counted-there frame s.listed (omega (arith, listed-once))

  shorter : (xs : List ℕ) → times frame xs ≡ 1 → length (filter (λ other. not (eqb other frame)) xs) + 1 ≡ length xs
  shorter xs once = omega (arith, parts xs, once)
    where
      parts : (xs : List ℕ) → length (filter (λ other. not (eqb other frame)) xs) + times frame xs ≡ length xs
      parts [] = omega arith
      parts (x ∷ xs) =
          let t = times-cons frame x xs in let h = parts xs in
          cond_both (not (eqb x frame)) (x ∷ filter (λ other. not (eqb other frame)) xs) (filter (λ other. not (eqb other frame)) xs) (λ zs. length zs + times frame (x ∷ xs) ≡ length (x ∷ xs))
          (λ kept. grind (arith, nat_tests, t, h, kept)) (λ gone. grind (arith, nat_tests, t, h, gone))

  pub gone-kept : {t : Totals} {a b c : ℕ} → IsKept s t a b c → IsKept (without_slab s frame) (record { free = t.free - objects_in slab; used = t.used; aside = t.aside; slabs = t.slabs - 1 }) a b c
  gone-kept {t} kept =
      let free = sum-with free_in s.slabs frame None within in
      let used = sum-with used_in s.slabs frame None within in
      let aside = sum-with aside_in s.slabs frame None within in
      let free_is = ap (λ (x : SlabState). free_in x) slab-is in
      let used_is = ap (λ (x : SlabState). used_in x) slab-is in
      let aside_is = ap (λ (x : SlabState). aside_in x) slab-is in
      let slabs = count-set is_some s.slabs frame None None within in
      let was : one_if (is_some (get_or s.slabs frame None)) ≡ 1 = ap (λ x. one_if (is_some x)) there in
      let less = shorter s.listed listed-once in
      record {
        sound = sound-with s frame None (filter (λ other. not (eqb other frame)) s.listed) s.reports sound (frame-positive s frame sound some-there) (frame-inside s frame sound some-there) tt
            (relisted-without s frame) (omega (arith, less, stocked)) (omega (arith, sound.reported, aside, aside_is, full));
        are_totals = record { free = omega (arith, kept.are_totals, free, free_is, its.free.count, full); used = omega (arith, kept.are_totals, used, used_is, full); aside = omega (arith, kept.are_totals, aside, aside_is, full); slabs = omega (arith, kept.are_totals, slabs, was) };
        list_room = kept.list_room;
        counts_room = kept.counts_room;
        reports_room = omega (arith, kept.reports_room);
      }

  pub slabs-counted : {t : Totals} {a b c : ℕ} → IsKept s t a b c → 1 ≤ t.slabs
  slabs-counted kept =
      let slabs = count-set is_some s.slabs frame None None within in
      let was : one_if (is_some (get_or s.slabs frame None)) ≡ 1 = ap (λ x. one_if (is_some x)) there in
      omega (arith, kept.are_totals, slabs, was)

-- ---- the list in another order
pub promoted-kept : {s : CheckedState} {t : Totals} {a b c : ℕ} (listed : List ℕ) → IsPermutation s.listed listed → IsKept s t a b c → IsKept (record s { listed = listed }) t a b c
promoted-kept {s} listed moved kept =
    let sound = kept.sound in record {
      sound = record {
        cache = sound.cache;
        checked = sound.checked;
        layout = sound.layout;
        frames = sound.frames;
        first_frame = sound.first_frame;
        slab = sound.slab;
        listed = λ f. sum_by-IsPermutation (λ y. cond (eqb y f) 1 0) s.listed listed moved ∙ sound.listed f;
        listed_count = length_permutation s.listed listed moved ∙ sound.listed_count;
        reported = sound.reported;
      };
      are_totals = record { free = kept.are_totals.free; used = kept.are_totals.used; aside = kept.are_totals.aside; slabs = kept.are_totals.slabs };
      list_room = kept.list_room;
      counts_room = kept.counts_room;
      reports_room = kept.reports_room;
    }

-- no slab has many free objects
pub free-small : (s : CheckedState) (frame : ℕ) → IsSound s → length (slab_of s frame).free ≤ 512
free-small s frame sound = small (get_or s.slabs frame None) (sound.slab frame)
  where
    small : (x : Option SlabState) → IfSome x (IsSlab s.layout) → length (unwrap_or x no_slab).free ≤ 512
    small None is = omega arith
    small (Some slab) is = omega (arith, few-free s.layout slab is, objects-small s.layout slab sound.layout.bounds is)
