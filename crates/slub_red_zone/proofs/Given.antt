-- Giving an object, and setting a slab aside.
use Rattle.std.proofs.Common.{◌≡◌, ℕ, ◌+◌, ◌*◌, ◌-◌, ◌<◌, ◌≤◌, ◌++◌, [], ◌∷◌, length, get_or, drop, Option, None, Some, IfSome, is_some, unwrap_or, refl, ap, arith, subst, sym, ◌∙◌, length-append}
use Rattle.slub_trace.specs.declared.damage.Damage.{Damage}
use Rattle.slub_red_zone.specs.declared.checked.Slot.{Slot}
use Rattle.slub_red_zone.specs.declared.totals.Totals.{Totals}
use Rattle.slub_red_zone.specs.State.{SlabState, CheckedState, no_slab, slab_of, free_in, used_in, aside_in, objects_in}
use Rattle.slub_red_zone.specs.Steps.{IsNext, slab_with_given, slab_set_aside, with_given, with_damaged, relisted, report_of}
use Rattle.slub_red_zone.specs.Sound.{IsSound, IsSlab}
use Rattle.slub_red_zone.specs.Kept.{IsKept}
use Rattle.slub_red_zone.proofs.Counting.{one_if, count-set, aside-kinds}
use Rattle.slub_red_zone.proofs.OneSlab.{slot-inside, first-is-object, given-slab, given-counts, aside-slab}
use Rattle.slub_red_zone.proofs.Whole.{stock, IsRelisted, sound-with, relisted-same, relisted-less, frame-inside, frame-positive, listed-stocked}
use Rattle.slub_red_zone.proofs.Sums.{sum-with, objects-most}
use Rattle.slub_red_zone.proofs.Stocks.{stock-none, stock-one, by-count}

module _ (s : CheckedState) (slot : Slot) (sound : IsSound s) (next : IsNext s slot) where
  -- there is a slab at the front
  pub next-there : get_or s.slabs slot.frame None ≡ Some (slab_of s slot.frame)
  next-there = there (get_or s.slabs slot.frame None) (listed-stocked s slot.frame _ sound next.listed)
    where
      there : (x : Option SlabState) → stock x ≡ 1 → x ≡ Some (unwrap_or x no_slab)
      there None e = absurd (omega (arith, e))
      there (Some slab) e = refl

  pub next-slab : IsSlab s.layout (slab_of s slot.frame)
  next-slab = let P : Option SlabState → Type 0 = λ y. IfSome y (IsSlab s.layout) in subst P next-there (sound.slab slot.frame)

  -- the object is one of it, and its slot lies among its bytes
  pub next-object : slot.index < objects_in (slab_of s slot.frame)
  next-object = first-is-object s.layout (slab_of s slot.frame) next-slab slot.index _ next.free

  pub next-inside : slot.index * s.layout.size + s.layout.size ≤ length (slab_of s slot.frame).bytes
  next-inside = slot-inside s.layout (slab_of s slot.frame) next-slab slot.index next-object

  some : 0 < objects_in (slab_of s slot.frame)
  some = omega (arith, next-object)

  pub next-frame : slot.frame < length s.slabs
  next-frame = omega (arith, frame-inside s slot.frame sound some, sound.frames)

  -- some objects are free
  pub next-some : {t : Totals} {a b c : ℕ} → IsKept s t a b c → (length (slab_of s slot.frame).free ≤ t.free) × (1 ≤ length (slab_of s slot.frame).free)
  next-some kept =
      let kinds = aside-kinds (slab_of s slot.frame).states in
      let free = sum-with free_in s.slabs slot.frame (Some (slab_set_aside (slab_of s slot.frame))) next-frame in
      let f = ap length next.free in
      (omega (arith, kept.are_totals, kinds, free, next-slab.free.count), omega (arith, f))

  -- the next object is one of the layout's
  pub next-of-layout : slot.index < s.layout.objects
  next-of-layout = omega (arith, next-object, objects-most s.layout (slab_of s slot.frame) sound.layout.bounds next-slab)

  -- ---- the object is given
  module _ (whole : length (slab_with_given s.layout s.flags (slab_of s slot.frame) slot.index).bytes ≡ length (slab_of s slot.frame).bytes) where
    relisted-given : IsRelisted s slot.frame (Some (slab_with_given s.layout s.flags (slab_of s slot.frame) slot.index)) (relisted s.listed (slab_with_given s.layout s.flags (slab_of s slot.frame) slot.index))
    relisted-given =
        let new = slab_with_given s.layout s.flags (slab_of s slot.frame) slot.index in
        by-count (length new.free) (drop 1 s.listed) s.listed (IsRelisted s slot.frame (Some new))
        (λ none. relisted-less s slot.frame (Some new) (drop 1 s.listed) sound next.listed (stock-none new none))
        (λ some. relisted-same s slot.frame (Some new) sound (stock-one new some ∙ sym (listed-stocked s slot.frame _ sound next.listed)))

    counted-given : length (relisted s.listed (slab_with_given s.layout s.flags (slab_of s slot.frame) slot.index)) + stock (get_or s.slabs slot.frame None) ≡ length s.listed + stock (Some (slab_with_given s.layout s.flags (slab_of s slot.frame) slot.index))
    counted-given =
        let new = slab_with_given s.layout s.flags (slab_of s slot.frame) slot.index in
        let l = ap length next.listed in
        by-count (length new.free) (drop 1 s.listed) s.listed (λ xs. length xs + stock (get_or s.slabs slot.frame None) ≡ length s.listed + stock (Some new))
        (λ none. omega (arith, l, stock-none new none, listed-stocked s slot.frame _ sound next.listed))
        (λ some. omega (arith, stock-one new some, listed-stocked s slot.frame _ sound next.listed))

    pub given-sound : IsSound (with_given s slot)
    given-sound =
        let new = slab_with_given s.layout s.flags (slab_of s slot.frame) slot.index in
        let counts = given-counts s.layout (slab_of s slot.frame) next-slab slot.index _ next.free s.flags in
        let aside = sum-with aside_in s.slabs slot.frame (Some new) next-frame in
        sound-with s slot.frame (Some new) (relisted s.listed new) s.reports sound (frame-positive s slot.frame sound some) (frame-inside s slot.frame sound some)
        (given-slab s.layout (slab_of s slot.frame) next-slab slot.index _ next.free s.flags whole) relisted-given counted-given
        (omega (arith, sound.reported, counts, aside))

    pub given-kept : {t : Totals} {a b c : ℕ} → IsKept s t a b c → IsKept (with_given s slot) (record { free = t.free - 1; used = t.used + 1; aside = t.aside; slabs = t.slabs }) a b c
    given-kept {t} {a} {b} {c} kept =
        let new = slab_with_given s.layout s.flags (slab_of s slot.frame) slot.index in
        let counts = given-counts s.layout (slab_of s slot.frame) next-slab slot.index _ next.free s.flags in
        let free = sum-with free_in s.slabs slot.frame (Some new) next-frame in
        let used = sum-with used_in s.slabs slot.frame (Some new) next-frame in
        let aside = sum-with aside_in s.slabs slot.frame (Some new) next-frame in
        let slabs = count-set is_some s.slabs slot.frame (Some new) None next-frame in
        let was : one_if (is_some (get_or s.slabs slot.frame None)) ≡ 1 = ap (λ x. one_if (is_some x)) next-there in
        record {
          sound = given-sound;
          are_totals = record { free = omega (arith, kept.are_totals, counts, free); used = omega (arith, kept.are_totals, counts, used); aside = omega (arith, kept.are_totals, counts, aside); slabs = omega (arith, kept.are_totals, slabs, was) };
          list_room = kept.list_room;
          counts_room = kept.counts_room;
          reports_room = omega (arith, kept.reports_room, kept.are_totals, counts, free);
        }

  -- ---- or its slab is set aside
  module _ (damage : Damage) where
    stock-aside : stock (Some (slab_set_aside (slab_of s slot.frame))) ≡ 0
    stock-aside = stock-none (slab_set_aside (slab_of s slot.frame)) refl

    free-here : length (slab_of s slot.frame).free ≡ free_in (slab_of s slot.frame)
    free-here = next-slab.free.count

    pub damaged-sound : IsSound (with_damaged s slot damage)
    damaged-sound =
        let new = slab_set_aside (slab_of s slot.frame) in
        let kinds = aside-kinds (slab_of s slot.frame).states in
        let aside = sum-with aside_in s.slabs slot.frame (Some new) next-frame in
        let l = ap length next.listed in
        let f = ap length next.free in
        sound-with s slot.frame (Some new) (drop 1 s.listed) (s.reports ++ report_of s slot damage ∷ []) sound (frame-positive s slot.frame sound some) (frame-inside s slot.frame sound some)
        (aside-slab s.layout (slab_of s slot.frame) next-slab)
        (relisted-less s slot.frame (Some new) (drop 1 s.listed) sound next.listed stock-aside)
        (omega (arith, l, stock-aside, listed-stocked s slot.frame _ sound next.listed))
        (omega (arith, sound.reported, kinds, aside, f, free-here, length-append s.reports (report_of s slot damage ∷ [])))

    pub damaged-kept : {t : Totals} {a b c : ℕ} → IsKept s t a b c → IsKept (with_damaged s slot damage) (record { free = t.free - length (slab_of s slot.frame).free; used = t.used; aside = t.aside + length (slab_of s slot.frame).free; slabs = t.slabs }) a b c
    damaged-kept {t} {a} {b} {c} kept =
        let new = slab_set_aside (slab_of s slot.frame) in
        let kinds = aside-kinds (slab_of s slot.frame).states in
        let free = sum-with free_in s.slabs slot.frame (Some new) next-frame in
        let used = sum-with used_in s.slabs slot.frame (Some new) next-frame in
        let aside = sum-with aside_in s.slabs slot.frame (Some new) next-frame in
        let slabs = count-set is_some s.slabs slot.frame (Some new) None next-frame in
        let was : one_if (is_some (get_or s.slabs slot.frame None)) ≡ 1 = ap (λ x. one_if (is_some x)) next-there in
        record {
          sound = damaged-sound;
          are_totals = record { free = omega (arith, kept.are_totals, kinds, free, free-here); used = omega (arith, kept.are_totals, kinds, used); aside = omega (arith, kept.are_totals, kinds, aside, free-here); slabs = omega (arith, kept.are_totals, slabs, was) };
          list_room = kept.list_room;
          counts_room = kept.counts_room;
          reports_room = omega (arith, kept.reports_room, kept.are_totals, kinds, free, free-here);
        }
