-- Taking an object back, and writing bytes.
use Rattle.std.proofs.Common.{◌≡◌, ℕ, ◌+◌, ◌*◌, ◌-◌, ◌<◌, ◌≤◌, ◌++◌, List, [], ◌∷◌, length, get_or, set, None, Some, is_some, ap, arith, sym, ◌∙◌, length-append}
use Rattle.std.proofs.lemmas.Option.{get_or_from_slice_get, slice_get_within}
use Rattle.std.proofs.lemmas.List.Sums.{count_by-le-length}
use Rattle.std.proofs.Common.{length-set}
use Rattle.slub_red_zone.specs.declared.slab.ObjectState.TheVariants.{Used, Aside}
use Rattle.slub_red_zone.specs.declared.checked.Slot.{Slot}
use Rattle.slub_red_zone.specs.declared.totals.Totals.{Totals}
use Rattle.slub_red_zone.specs.State.{SlabState, CheckedState, IsUsed, slab_of, with_slab, free_in, used_in, aside_in, objects_in}
use Rattle.slub_red_zone.specs.Steps.{slab_with_taken, with_taken, listed_with}
use Rattle.slub_red_zone.specs.Sound.{IsSound, IsSlab, is_stocked}
use Rattle.slub_red_zone.specs.Kept.{IsKept}
use Rattle.slub_red_zone.proofs.Counting.{one_if, count-set}
use Rattle.slub_red_zone.proofs.OneSlab.{slot-inside, taken-room, taken-slab, taken-counts, written-slab}
use Rattle.slub_red_zone.proofs.Whole.{stock, IsRelisted, sound-with, relisted-same, relisted-end, frame-inside, frame-positive, slab-sound, slab-there}
use Rattle.slub_red_zone.proofs.Sums.{sum-with}
use Rattle.slub_red_zone.proofs.Stocks.{stock-none, stock-one, by-count}

-- a slab that has an object
module _ (s : CheckedState) (frame : ℕ) (sound : IsSound s) (some : 0 < objects_in (slab_of s frame)) where
  pub frame-within : frame < length s.slabs
  frame-within = omega (arith, frame-inside s frame sound some, sound.frames)

  pub stock-there : stock (get_or s.slabs frame None) ≡ stock (Some (slab_of s frame))
  stock-there = ap stock (slab-there s.slabs frame some)

  -- its bytes are of no weight
  pub written-sound : (bytes : List ℕ) → length bytes ≡ length (slab_of s frame).bytes → IsSound (with_slab s frame (record (slab_of s frame) { bytes = bytes }))
  written-sound bytes same =
      let new : SlabState = record (slab_of s frame) { bytes = bytes } in
      let aside = sum-with aside_in s.slabs frame (Some new) frame-within in
      sound-with s frame (Some new) s.listed s.reports sound (frame-positive s frame sound some) (frame-inside s frame sound some)
      (written-slab s.layout (slab_of s frame) (slab-sound s frame sound some) bytes same)
      (relisted-same s frame (Some new) sound (sym stock-there))
      (omega (arith, stock-there))
      (omega (arith, sound.reported, aside))

  pub written-kept : (bytes : List ℕ) → length bytes ≡ length (slab_of s frame).bytes → {t : Totals} {a b c : ℕ} → IsKept s t a b c → IsKept (with_slab s frame (record (slab_of s frame) { bytes = bytes })) t a b c
  written-kept bytes same kept =
      let new : SlabState = record (slab_of s frame) { bytes = bytes } in
      let free = sum-with free_in s.slabs frame (Some new) frame-within in
      let used = sum-with used_in s.slabs frame (Some new) frame-within in
      let aside = sum-with aside_in s.slabs frame (Some new) frame-within in
      let slabs = count-set is_some s.slabs frame (Some new) None frame-within in
      let was : one_if (is_some (get_or s.slabs frame None)) ≡ 1 = ap (λ x. one_if (is_some x)) (slab-there s.slabs frame some) in
      record {
        sound = written-sound bytes same;
        are_totals = record { free = omega (arith, kept.are_totals, free); used = omega (arith, kept.are_totals, used); aside = omega (arith, kept.are_totals, aside); slabs = omega (arith, kept.are_totals, slabs, was) };
        list_room = kept.list_room;
        counts_room = kept.counts_room;
        reports_room = kept.reports_room;
      }

-- a used object
module _ (s : CheckedState) (slot : Slot) (sound : IsSound s) (used : IsUsed s slot) where
  pub used-object : slot.index < objects_in (slab_of s slot.frame)
  used-object = slice_get_within (slab_of s slot.frame).states slot.index Used used

  pub used-some : 0 < objects_in (slab_of s slot.frame)
  used-some = omega (arith, used-object)

  pub used-state : get_or (slab_of s slot.frame).states slot.index Aside ≡ Used
  used-state = get_or_from_slice_get (slab_of s slot.frame).states slot.index Used Aside used

  pub used-slab : IsSlab s.layout (slab_of s slot.frame)
  used-slab = slab-sound s slot.frame sound used-some

  pub used-inside : slot.index * s.layout.size + s.layout.size ≤ length (slab_of s slot.frame).bytes
  used-inside = slot-inside s.layout (slab_of s slot.frame) used-slab slot.index used-object

  pub used-room : length (slab_of s slot.frame).free < objects_in (slab_of s slot.frame)
  used-room = taken-room s.layout (slab_of s slot.frame) used-slab slot.index used-object used-state

  -- each of its words lies among the bytes
  pub word-inside : (word : ℕ) → 8 * (word + 1) ≤ s.layout.object_size → slot.index * s.layout.size + s.layout.left_pad + 8 * word + 8 ≤ length (slab_of s slot.frame).bytes
  word-inside word within = let b = sound.layout.bounds in omega (arith, within, used-inside, b.inuse, b.left_pad)

  here : slot.frame < length s.slabs
  here = frame-within s slot.frame sound used-some

  -- where its slab isn't listed, there is room for it on the list
  pub list-room : length (slab_of s slot.frame).free ≡ 0 → length s.listed < 4096
  list-room none =
      let new = slab_with_taken s.layout s.flags (slab_of s slot.frame) slot.index in
      let more = count-set is_stocked s.slabs slot.frame (Some new) None here in
      let most = count_by-le-length is_stocked (set s.slabs slot.frame (Some new)) in
      let old = stock-there s slot.frame sound used-some ∙ stock-none (slab_of s slot.frame) none in
      let one = stock-one new (omega arith) in
      omega (arith, more, most, old, one, sound.listed_count, sound.frames, length-set s.slabs slot.frame (Some new))

  pub used-counted : {t : Totals} {a b c : ℕ} → IsKept s t a b c → 1 ≤ t.used
  used-counted kept =
      let new = slab_with_taken s.layout s.flags (slab_of s slot.frame) slot.index in
      let counts = taken-counts s.layout (slab_of s slot.frame) used-slab slot.index used-object used-state s.flags in
      let used = sum-with used_in s.slabs slot.frame (Some new) here in
      omega (arith, kept.are_totals, counts, used)

  module _ (whole : length (slab_with_taken s.layout s.flags (slab_of s slot.frame) slot.index).bytes ≡ length (slab_of s slot.frame).bytes) where
    relisted-taken : IsRelisted s slot.frame (Some (slab_with_taken s.layout s.flags (slab_of s slot.frame) slot.index)) (listed_with s.listed slot.frame (slab_of s slot.frame))
    relisted-taken =
        let new = slab_with_taken s.layout s.flags (slab_of s slot.frame) slot.index in
        let old = stock-there s slot.frame sound used-some in
        by-count (length (slab_of s slot.frame).free) (s.listed ++ slot.frame ∷ []) s.listed (IsRelisted s slot.frame (Some new))
        (λ none. relisted-end s slot.frame (Some new) sound (old ∙ stock-none (slab_of s slot.frame) none) (stock-one new (omega arith)))
        (λ some. relisted-same s slot.frame (Some new) sound (stock-one new (omega arith) ∙ sym (old ∙ stock-one (slab_of s slot.frame) some)))

    counted-taken : length (listed_with s.listed slot.frame (slab_of s slot.frame)) + stock (get_or s.slabs slot.frame None) ≡ length s.listed + stock (Some (slab_with_taken s.layout s.flags (slab_of s slot.frame) slot.index))
    counted-taken =
        let new = slab_with_taken s.layout s.flags (slab_of s slot.frame) slot.index in
        let old = stock-there s slot.frame sound used-some in
        let one = stock-one new (omega arith) in
        by-count (length (slab_of s slot.frame).free) (s.listed ++ slot.frame ∷ []) s.listed (λ xs. length xs + stock (get_or s.slabs slot.frame None) ≡ length s.listed + stock (Some new))
        (λ none. omega (arith, old, one, stock-none (slab_of s slot.frame) none, length-append s.listed (slot.frame ∷ [])))
        (λ some. omega (arith, old, one, stock-one (slab_of s slot.frame) some))

    pub taken-sound : IsSound (with_taken s slot)
    taken-sound =
        let new = slab_with_taken s.layout s.flags (slab_of s slot.frame) slot.index in
        let counts = taken-counts s.layout (slab_of s slot.frame) used-slab slot.index used-object used-state s.flags in
        let aside = sum-with aside_in s.slabs slot.frame (Some new) here in
        sound-with s slot.frame (Some new) (listed_with s.listed slot.frame (slab_of s slot.frame)) s.reports sound (frame-positive s slot.frame sound used-some) (frame-inside s slot.frame sound used-some)
        (taken-slab s.layout (slab_of s slot.frame) used-slab slot.index used-object used-state s.flags whole) relisted-taken counted-taken
        (omega (arith, sound.reported, counts, aside))

    pub taken-kept : {t : Totals} {a b c : ℕ} → IsKept s t a b c → IsKept (with_taken s slot) (record { free = t.free + 1; used = t.used - 1; aside = t.aside; slabs = t.slabs }) a b c
    taken-kept kept =
        let new = slab_with_taken s.layout s.flags (slab_of s slot.frame) slot.index in
        let counts = taken-counts s.layout (slab_of s slot.frame) used-slab slot.index used-object used-state s.flags in
        let free = sum-with free_in s.slabs slot.frame (Some new) here in
        let used = sum-with used_in s.slabs slot.frame (Some new) here in
        let aside = sum-with aside_in s.slabs slot.frame (Some new) here in
        let slabs = count-set is_some s.slabs slot.frame (Some new) None here in
        let was : one_if (is_some (get_or s.slabs slot.frame None)) ≡ 1 = ap (λ x. one_if (is_some x)) (slab-there s.slabs slot.frame used-some) in
        record {
          sound = taken-sound;
          are_totals = record { free = omega (arith, kept.are_totals, counts, free); used = omega (arith, kept.are_totals, counts, used); aside = omega (arith, kept.are_totals, counts, aside); slabs = omega (arith, kept.are_totals, slabs, was) };
          list_room = kept.list_room;
          counts_room = kept.counts_room;
          reports_room = omega (arith, kept.reports_room, kept.are_totals, counts, used);
        }
