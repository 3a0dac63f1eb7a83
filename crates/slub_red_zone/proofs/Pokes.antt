-- Which bytes a poke and a write change, and which a slab that comes or goes.
use Rattle.std.proofs.Common.{◌≡◌, ◌≢◌, ℕ, ◌+◌, ◌*◌, ◌-◌, ◌<◌, ◌≤◌, ◌++◌, List, length, get_or, take, drop, set, Option, None, Some, IsSome, Result, Ok, Err, ℤ, pos, negsuc, ◌<ℤ◌, ◌≤ℤ◌, nat_abs, w64, unwrap_or, refl, ap, arith, subst, sym, ◌∙◌, length-set, length-take, length-drop, inl, inr}
use Rattle.std.specs.Int.{from_le_bytes, to_le_bytes}
use Rattle.std.specs.Prelude.{slice_range, ◌^◌}
use Rattle.std.proofs.lemmas.Nat.{from_le_bytes-to_le_bytes_8}
use Rattle.std.proofs.lemmas.Bool.{cases_eq, cases_lt}
use Rattle.std.proofs.lemmas.Int.{ints}
use Rattle.std.proofs.lemmas.List.{ext_get_or, get_or-take, get_or-drop, get_or-set_same, get_or-set_other, get_or_past}
use Rattle.slub_red_zone.specs.declared.checked.OutOfSlot.{OutOfSlot}
use Rattle.slub_red_zone.specs.declared.checked.Run.{Run}
use Rattle.slub_red_zone.specs.declared.checked.Slot.{Slot}
use Rattle.slub_red_zone.specs.State.{SlabState, CheckedState, Has, IsUsed, no_slab, slab_at, slab_of, slot_of, objects_in, bytes_of}
use Rattle.slub_red_zone.specs.Steps.{place_of, Pokes, word_place, word_of, with_word, new_slab, with_new_slab, TakesEmpty}
use Rattle.slub_red_zone.specs.Sound.{IsSound}
use Rattle.slub_red_zone.specs.Changes.{IsObject, KeepsBytes, IsOffWord, PokesByte, PokesBytes, WritesWord}
use Rattle.slub_red_zone.proofs.OneSlab.{slot-inside}
use Rattle.slub_red_zone.proofs.Whole.{slab-sound}
use Rattle.slub_red_zone.proofs.Taken.{used-object, used-some, frame-within, word-inside}
use Rattle.slub_red_zone.proofs.Sums.{slab_at-set}
use Rattle.slub_red_zone.proofs.Splices.{spliced-long, spliced-in, spliced-before, spliced-behind}
use Rattle.slub_red_zone.proofs.Written.{slot-long, slot-read, slots-apart}
use Rattle.slub_red_zone.proofs.Telling.{slab_at-other}
use Rattle.slub_red_zone.proofs.Changed.{other-bytes, this-bytes}

-- the place of a byte that lies in the slot
place-below : (z : ℤ) (size : ℕ) → pos 0 ≤ℤ z → z <ℤ pos size → nat_abs z < size
place-below (pos n) size from below = omega (arith, ints, below)
place-below (negsuc n) size from below = absurd (omega (arith, ints, from))

module _ (s : CheckedState) (slot : Slot) (sound : IsSound s) (object : IsObject s slot) where
  inside : slot.index * s.layout.size + s.layout.size ≤ length (slab_of s slot.frame).bytes
  inside = slot-inside s.layout (slab_of s slot.frame) (slab-sound s slot.frame sound (omega (arith, object))) slot.index object

  other-inside : (index : ℕ) → index < objects_in (slab_of s slot.frame) → index * s.layout.size + s.layout.size ≤ length (slab_of s slot.frame).bytes
  other-inside index less = slot-inside s.layout (slab_of s slot.frame) (slab-sound s slot.frame sound (omega (arith, object))) index less

  -- one byte is written
  pokes-byte : (place byte : ℕ) → place < s.layout.size
      → let slab = record (slab_of s slot.frame) { bytes = set (slab_of s slot.frame).bytes (slot.index * s.layout.size + place) byte } in
      slot_of s.layout slab.bytes slot.index ≡ set (bytes_of s slot) place byte
  pokes-byte place byte few =
      let was = (slab_of s slot.frame).bytes in
      let at = slot.index * s.layout.size + place in
      let now = set was at byte in
      let room : slot.index * s.layout.size + s.layout.size ≤ length now = omega (arith, length-set was at byte, inside) in
      let long = slot-long s.layout was slot.index inside in
      ext_get_or 0 (slot_of s.layout now slot.index) (set (bytes_of s slot) place byte)
      (slot-long s.layout now slot.index room ∙ sym (length-set (bytes_of s slot) place byte ∙ long))
      (λ k less.
      let small : k < s.layout.size = omega (arith, less, slot-long s.layout now slot.index room) in
      slot-read s.layout now slot.index room k small
      ∙ elim (cases_eq k place) [
        | inl same ↦
            ap (λ (k : ℕ). get_or now (slot.index * s.layout.size + k) 0) same ∙ get_or-set_same was at byte 0 (omega (arith, few, inside))
            ∙ sym (ap (λ (k : ℕ). get_or (set (bytes_of s slot) place byte) k 0) same ∙ get_or-set_same (bytes_of s slot) place byte 0 (omega (arith, few, long)))
        | inr ne ↦
            get_or-set_other was at (slot.index * s.layout.size + k) byte 0 (λ same. ne (omega (arith, same)))
            ∙ sym (slot-read s.layout was slot.index inside k small) ∙ sym (get_or-set_other (bytes_of s slot) place k byte 0 ne)
      ])

  -- and none of another slot
  pokes-others : (place byte : ℕ) → place < s.layout.size → (index : ℕ) → index ≢ slot.index → index < objects_in (slab_of s slot.frame)
      → slot_of s.layout (set (slab_of s slot.frame).bytes (slot.index * s.layout.size + place) byte) index ≡ slot_of s.layout (slab_of s slot.frame).bytes index
  pokes-others place byte few index ne less =
      let was = (slab_of s slot.frame).bytes in
      let at = slot.index * s.layout.size + place in
      let now = set was at byte in
      let within = other-inside index less in
      let room : index * s.layout.size + s.layout.size ≤ length now = omega (arith, length-set was at byte, within) in
      ext_get_or 0 (slot_of s.layout now index) (slot_of s.layout was index) (slot-long s.layout now index room ∙ sym (slot-long s.layout was index within))
      (λ k small_k.
      let small : k < s.layout.size = omega (arith, small_k, slot-long s.layout now index room) in
      let apart : index * s.layout.size + k ≢ at = λ same. elim (slots-apart s.layout.size slot.index index k small (λ e. ne (sym e))) [
        | inl before ↦ omega (arith, before, same)
        | inr past ↦ omega (arith, past, same, few)
      ] in
      slot-read s.layout now index room k small ∙ get_or-set_other was at (index * s.layout.size + k) byte 0 apart ∙ sym (slot-read s.layout was index within k small))

  pub pokes-bytes : (offset : ℤ) (byte : ℕ) (answer : Result (Unit {0}) OutOfSlot) (after : CheckedState) → Pokes s slot offset byte answer after → PokesBytes s slot offset byte answer after
  pokes-bytes offset byte (Ok _) after pokes =
      let place = nat_abs (place_of s.layout offset) in
      let few = place-below (place_of s.layout offset) s.layout.size pokes.0.0 pokes.0.1 in
      let slab : SlabState = record (slab_of s slot.frame) { bytes = set (slab_of s slot.frame).bytes (slot.index * s.layout.size + place) byte } in
      let P : CheckedState → Type 0 = PokesByte s slot offset byte in
      subst P (sym pokes.1) (record {
        this = this-bytes s slot sound object slab ∙ pokes-byte place byte few;
        others = other-bytes s slot sound object slab s.listed (pokes-others place byte few);
      })
  pokes-bytes offset byte (Err _) after pokes = let P : CheckedState → Type 0 = KeepsBytes s in subst P (sym pokes.1) (λ slot is. refl)

-- a word of a used object is written
module _ (s : CheckedState) (slot : Slot) (sound : IsSound s) (used : IsUsed s slot) (word value : ℕ) (inner : 8 * (word + 1) ≤ s.layout.object_size) where
  object : IsObject s slot
  object = used-object s slot sound used

  -- it lies in the slot
  word-in_slot : s.layout.left_pad + 8 * word + 8 ≤ s.layout.size
  word-in_slot = let b = sound.layout.bounds in omega (arith, inner, b.inuse, b.left_pad)

  eight : length (to_le_bytes w64 value) ≡ word_place s.layout slot.index word + 8 - word_place s.layout slot.index word
  eight = omega arith

  -- a byte that isn't one of it
  off : (index place : ℕ) → (index ≡ slot.index → IsOffWord s word place) → place < s.layout.size → index < objects_in (slab_of s slot.frame)
      → let at = word_place s.layout slot.index word in
      let was = (slab_of s slot.frame).bytes in
      get_or (slot_of s.layout (take at was ++ to_le_bytes w64 value ++ drop (at + 8) was) index) place 0 ≡ get_or (slot_of s.layout was index) place 0
  off index place outside small less =
      let at = word_place s.layout slot.index word in
      let was = (slab_of s slot.frame).bytes in
      let now = take at was ++ to_le_bytes w64 value ++ drop (at + 8) was in
      let fits : at + 8 ≤ length was = omega (arith, word-inside s slot sound used word inner) in
      let within = other-inside s slot sound object index less in
      let room : index * s.layout.size + s.layout.size ≤ length now = omega (arith, spliced-long was (to_le_bytes w64 value) at (at + 8) (omega arith) fits eight, within) in
      let before = spliced-before was (to_le_bytes w64 value) at (at + 8) (omega arith) fits eight (index * s.layout.size + place) in
      let behind = spliced-behind was (to_le_bytes w64 value) at (at + 8) (omega arith) fits eight (index * s.layout.size + place) in
      slot-read s.layout now index room place small
      ∙ elim (cases_eq index slot.index) [
        | inl same ↦
            let rows : index * s.layout.size ≡ slot.index * s.layout.size = ap (λ (i : ℕ). i * s.layout.size) same in
            elim (outside same) [ inl low ↦ before (omega (arith, low, rows)) | inr high ↦ behind (omega (arith, high, rows)) ]
        | inr ne ↦
            elim (slots-apart s.layout.size slot.index index place small (λ e. ne (sym e))) [
              | inl low ↦ before (omega (arith, low))
              | inr high ↦ behind (omega (arith, high, word-in_slot))
            ]
      ]
      ∙ sym (slot-read s.layout was index within place small)

  pub writes-word : WritesWord s slot word (with_word s slot word value)
  writes-word =
      let at = word_place s.layout slot.index word in
      let was = (slab_of s slot.frame).bytes in
      let slab : SlabState = record (slab_of s slot.frame) { bytes = take at was ++ to_le_bytes w64 value ++ drop (at + 8) was } in
      let fits : at + 8 ≤ length was = omega (arith, word-inside s slot sound used word inner) in
      let whole = spliced-long was (to_le_bytes w64 value) at (at + 8) (omega arith) fits eight in
      record {
        this = λ place outside. ap (λ (bytes : List ℕ). get_or bytes place 0) (this-bytes s slot sound object slab) ∙ this_place place outside (slot-long s.layout slab.bytes slot.index (omega (arith, whole, inside s slot sound object))) (slot-long s.layout was slot.index (inside s slot sound object));
        others = other-bytes s slot sound object slab s.listed (λ index ne less.
            let within = other-inside s slot sound object index less in
            let room : index * s.layout.size + s.layout.size ≤ length slab.bytes = omega (arith, whole, within) in
            ext_get_or 0 (slot_of s.layout slab.bytes index) (slot_of s.layout was index) (slot-long s.layout slab.bytes index room ∙ sym (slot-long s.layout was index within))
            (λ k less_k. off index k (λ e. absurd (ne e)) (omega (arith, less_k, slot-long s.layout slab.bytes index room)) less));
      }
    where
      this_place : (place : ℕ) → IsOffWord s word place
          → length (slot_of s.layout (take (word_place s.layout slot.index word) (slab_of s slot.frame).bytes ++ to_le_bytes w64 value ++ drop (word_place s.layout slot.index word + 8) (slab_of s slot.frame).bytes) slot.index) ≡ s.layout.size
          → length (slot_of s.layout (slab_of s slot.frame).bytes slot.index) ≡ s.layout.size
          → get_or (slot_of s.layout (take (word_place s.layout slot.index word) (slab_of s slot.frame).bytes ++ to_le_bytes w64 value ++ drop (word_place s.layout slot.index word + 8) (slab_of s slot.frame).bytes) slot.index) place 0
          ≡ get_or (slot_of s.layout (slab_of s slot.frame).bytes slot.index) place 0
      this_place place outside long_now long_was =
          let now = take (word_place s.layout slot.index word) (slab_of s slot.frame).bytes ++ to_le_bytes w64 value ++ drop (word_place s.layout slot.index word + 8) (slab_of s slot.frame).bytes in
          elim (cases_lt place s.layout.size) [
            | inl small ↦ off slot.index place (λ _. outside) small object
            | inr past ↦ get_or_past (slot_of s.layout now slot.index) place 0 (omega (arith, long_now, past)) ∙ sym (get_or_past (slot_of s.layout (slab_of s slot.frame).bytes slot.index) place 0 (omega (arith, long_was, past)))
          ]

-- ---- slabs that come and go

-- every object there is keeps its bytes when a slab comes
pub adds-bytes : (s : CheckedState) (run : Run) (objects : ℕ) → ¬ Has s run.frame → KeepsBytes s (with_new_slab s run objects)
adds-bytes s run objects new slot is =
    ap (λ (slab : SlabState). slot_of s.layout slab.bytes slot.index)
    (slab_at-other s.slabs run.frame slot.frame (Some (new_slab s.layout s.flags run.order objects)) (λ same. new (has (get_or s.slabs run.frame None) (subst (λ (f : ℕ). slot.index < objects_in (slab_of s f)) same is))))
  where
    has : (x : Option SlabState) → slot.index < objects_in (unwrap_or x no_slab) → IsSome x
    has None less = absurd (omega (arith, less))
    has (Some slab) less = refl

-- and every object that is left when one goes
pub takes-empty-bytes : (s : CheckedState) (frame limit : ℕ) (answer : Option Run) (after : CheckedState) → IsSound s → TakesEmpty s frame limit answer after → (slot : Slot) → IsObject after slot → bytes_of after slot ≡ bytes_of s slot
takes-empty-bytes s frame limit None after sound takes slot is = ap (λ (s : CheckedState). bytes_of s slot) takes.1
takes-empty-bytes s frame limit (Some run) after sound takes slot is =
    let B : CheckedState → List ℕ = λ s. bytes_of s slot in
    ap B takes.2
    ∙ elim (cases_eq slot.frame frame) [
      | inl same ↦ absurd (let left = subst (λ (s : CheckedState). IsObject s slot) takes.2 is in gone (subst (λ (f : ℕ). slot.index < objects_in (slab_at (set s.slabs frame None) f)) same left))
      | inr ne ↦ ap (λ (slab : SlabState). slot_of s.layout slab.bytes slot.index) (slab_at-other s.slabs frame slot.frame None ne)
    ]
  where
    gone : slot.index < objects_in (slab_at (set s.slabs frame None) frame) → ⊥
    gone less =
        elim (cases_lt frame (length s.slabs)) [
          | inl inside ↦ let e = ap (λ (x : Option SlabState). objects_in (unwrap_or x no_slab)) (get_or-set_same s.slabs frame None None inside) in omega (arith, e, less)
          | inr past ↦ let e = ap (λ (x : Option SlabState). objects_in (unwrap_or x no_slab)) (get_or_past (set s.slabs frame None) frame None (omega (arith, past, length-set s.slabs frame None))) in omega (arith, e, less)
        ]

-- ---- words

-- a run of a run
run-of-run : (xs : List ℕ) (from size at : ℕ) → from + size ≤ length xs → at + 8 ≤ size → slice_range (slice_range xs from (from + size)) at (at + 8) ≡ slice_range xs (from + at) (from + at + 8)
run-of-run xs from size at inside within =
    let wide : from + size - from ≡ size = omega arith in
    let eight : at + 8 - at ≡ 8 = omega arith in
    let eight_more : from + at + 8 - (from + at) ≡ 8 = omega arith in
    let run = take (from + size - from) (drop from xs) in
    let long : length run ≡ size = omega (arith, length-take (from + size - from) (drop from xs), length-drop from xs, inside) in
    ext_get_or 0 (take (at + 8 - at) (drop at run)) (take (from + at + 8 - (from + at)) (drop (from + at) xs))
    (omega (arith, length-take (at + 8 - at) (drop at run), length-drop at run, long, length-take (from + at + 8 - (from + at)) (drop (from + at) xs), length-drop (from + at) xs, inside, within))
    (λ k less.
    let few : k < 8 = omega (arith, less, length-take (at + 8 - at) (drop at run), length-drop at run, long) in
    let same : from + (at + k) ≡ from + at + k = omega arith in
    get_or-take (at + 8 - at) (drop at run) k 0 (omega (arith, few)) ∙ get_or-drop at run k 0 ∙ get_or-take (from + size - from) (drop from xs) (at + k) 0 (omega (arith, few, within))
    ∙ get_or-drop from xs (at + k) 0 ∙ ap (λ (p : ℕ). get_or xs p 0) same
    ∙ sym (get_or-take (from + at + 8 - (from + at)) (drop (from + at) xs) k 0 (omega (arith, few)) ∙ get_or-drop (from + at) xs k 0))

-- a word of an object is eight bytes of its slot
pub word-in-slot : (s : CheckedState) (slot : Slot) (word : ℕ) → IsSound s → IsObject s slot → 8 * (word + 1) ≤ s.layout.object_size
    → word_of s slot word ≡ from_le_bytes w64 (slice_range (bytes_of s slot) (s.layout.left_pad + 8 * word) (s.layout.left_pad + 8 * word + 8))
word-in-slot s slot word sound object inner =
    let was = (slab_of s slot.frame).bytes in
    let b = sound.layout.bounds in
    let at : slot.index * s.layout.size + s.layout.left_pad + 8 * word ≡ slot.index * s.layout.size + (s.layout.left_pad + 8 * word) = omega arith in
    ap (λ (at : ℕ). from_le_bytes w64 (slice_range was at (at + 8))) at
    ∙ sym (ap (from_le_bytes w64) (run-of-run was (slot.index * s.layout.size) s.layout.size (s.layout.left_pad + 8 * word) (inside s slot sound object) (omega (arith, inner, b.inuse, b.left_pad))))

-- what was written is read
pub word-written : (s : CheckedState) (slot : Slot) (word value : ℕ) → IsSound s → IsUsed s slot → 8 * (word + 1) ≤ s.layout.object_size → value < 2 ^ 64 → word_of (with_word s slot word value) slot word ≡ value
word-written s slot word value sound used inner small =
    let at = word_place s.layout slot.index word in
    let was = (slab_of s slot.frame).bytes in
    let slab : SlabState = record (slab_of s slot.frame) { bytes = take at was ++ to_le_bytes w64 value ++ drop (at + 8) was } in
    let fits : at + 8 ≤ length was = omega (arith, word-inside s slot sound used word inner) in
    let long : length (to_le_bytes w64 value) ≡ at + 8 - at = omega arith in
    let eight : at + 8 - at ≡ length (to_le_bytes w64 value) = omega arith in
    let front : length (take at was) ≡ at = omega (arith, length-take at was, fits) in
    let there : slice_range slab.bytes at (at + 8) ≡ to_le_bytes w64 value =
    ext_get_or 0 (take (at + 8 - at) (drop at slab.bytes)) (to_le_bytes w64 value)
    (omega (arith, length-take (at + 8 - at) (drop at slab.bytes), length-drop at slab.bytes, spliced-long was (to_le_bytes w64 value) at (at + 8) (omega arith) fits long, fits, long))
    (λ k less.
    let few : k < 8 = omega (arith, less, length-take (at + 8 - at) (drop at slab.bytes)) in
    let back : at + k - at ≡ k = omega arith in
    get_or-take (at + 8 - at) (drop at slab.bytes) k 0 (omega (arith, few)) ∙ get_or-drop at slab.bytes k 0
    ∙ spliced-in was (to_le_bytes w64 value) at (at + 8) (omega arith) fits long (at + k) (omega arith) (omega (arith, few)) ∙ ap (λ (p : ℕ). get_or (to_le_bytes w64 value) p 0) back) in
    ap (λ (slab : SlabState). from_le_bytes w64 (slice_range slab.bytes at (at + 8))) (slab_at-set s.slabs slot.frame slab (frame-within s slot.frame sound (used-some s slot sound used)))
    ∙ ap (from_le_bytes w64) there ∙ from_le_bytes-to_le_bytes_8 value small
