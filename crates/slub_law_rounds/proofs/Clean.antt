-- A byte of an examined part that isn't the wanted one was poked.
use Rattle.std.proofs.Common.{◌≡◌, ◌≢◌, ℕ, zero, suc, ◌+◌, ◌-◌, ◌*◌, ◌<◌, ◌≤◌, List, [], ◌∷◌, ◌++◌, length, take, drop, get_or, set, map, refl, sym, ◌∙◌, ap, subst, arith, Option, Some, None, inl, inr, ◌⊎◌, replicate, get_or-set_other, get_or-set_same}
use Rattle.std.specs.List.{Contains, concat}
use Rattle.std.specs.Prelude.{slice_get, slice_range, if◌then◌else◌}
use Rattle.std.proofs.lemmas.Bool.{cases_eq, cases_lt}
use Rattle.std.proofs.lemmas.Grind.{common_steps}
use Rattle.std.proofs.lemmas.List.Elements.{Contains-append_right}
use Rattle.std.proofs.lemmas.List.{length-append, get_or-append-add, get_or-replicate, get_or_append_left, length-replicate}
use Rattle.std.proofs.lemmas.Option.{slice_get-get_or, slice_get_past}
use Rattle.std.proofs.lemmas.Nat.{same_from_place}
use Rattle.slub_object_layout.specs.declared.layout.Flags.{Flags}
use Rattle.slub_object_layout.specs.declared.layout.Layout.{Layout}
use Rattle.slub_red_zone.specs.declared.slab.ObjectState.{ObjectState}
use Rattle.slub_red_zone.specs.declared.slab.ObjectState.TheVariants.{Free, Used, Aside}
use Rattle.slub_red_zone.specs.declared.zones.Part.{Part}
use Rattle.slub_red_zone.specs.Sound.{IsLayoutFor}
use Rattle.slub_red_zone.specs.State.{SlabState, slot_of, with_slot}
use Rattle.std.specs.Int.{to_le_bytes, w64}
use Rattle.slub_red_zone.specs.Steps.{new_slab, set_aside, slab_set_aside, slab_with_given, slab_with_taken, word_place}
use Rattle.slub_red_zone.specs.Zones.{examined_free, examined_used, fill_byte, new_slot, padding, padding_byte, padding_part, poison, red_active, red_inactive, red_zones, set_up}
use Rattle.slub_law_rounds.proofs.Bytes.{Has, Piece, in-one, lies, other-row, outside-used, piece-behind, piece-before, piece-free, piece-here, set-up-at, set-up-length}

-- ---- what is examined

abbrev pub parts_of : Layout → Flags → Option ObjectState → List Part
parts_of layout flags None = []
parts_of layout flags (Some Free) = examined_free layout flags
parts_of layout flags (Some Used) = examined_used layout flags
parts_of layout flags (Some Aside) = []

-- each byte of each examined part of a slab is the wanted one, or was poked (by index, place and byte)
abbrev pub CleanSlab : (ℕ → ℕ → ℕ → Type 0) → Layout → Flags → SlabState → Type 0
CleanSlab poked layout flags slab =
    (j p : ℕ) (part : Part) → Contains (parts_of layout flags (slice_get slab.states j)) part → Has part p
    → (get_or slab.bytes (j * layout.size + p) 0 ≡ part.wanted) ⊎ poked j p (get_or slab.bytes (j * layout.size + p) 0)

-- a byte of a slot is one of the slab
pub slot-byte : (layout : Layout) (bytes : List ℕ) (i p : ℕ) → p < layout.size → get_or (slot_of layout bytes i) p 0 ≡ get_or bytes (i * layout.size + p) 0
slot-byte layout bytes i p within = by (i * layout.size) layout.size within
  where
    by : (a n : ℕ) → p < n → get_or (slice_range bytes a (a + n)) p 0 ≡ get_or bytes (a + p) 0
    by a n below = grind (arith, common_steps)

slice_get-set_other : {A : Type 0} (xs : List A) (i j : ℕ) (x : A) → j ≢ i → slice_get (set xs i x) j ≡ slice_get xs j
slice_get-set_other [] i j x differ = refl
slice_get-set_other (y ∷ xs) zero zero x differ = absurd (differ refl)
slice_get-set_other (y ∷ xs) zero (suc j) x differ = refl
slice_get-set_other (y ∷ xs) (suc i) zero x differ = refl
slice_get-set_other (y ∷ xs) (suc i) (suc j) x differ = slice_get-set_other xs i j x (λ e. differ (ap suc e))

slice_get-set_same : {A : Type 0} (xs : List A) (i : ℕ) (x y : A) → slice_get xs i ≡ Some y → slice_get (set xs i x) i ≡ Some x
slice_get-set_same [] i x y is = absurd (cc)
slice_get-set_same (z ∷ xs) zero x y is = refl
slice_get-set_same (z ∷ xs) (suc i) x y is = slice_get-set_same xs i x y is

module _ (poked : ℕ → ℕ → ℕ → Type 0) (layout : Layout) (flags : Flags) (good : IsLayoutFor flags layout) where
  abbrev size : ℕ
  size = layout.size

  padding-free : (part : Part) → Contains (padding layout flags) part → Contains (parts_of layout flags (Some Free)) part
  padding-free part there = Contains-append_right (red_zones layout flags red_inactive ++ poison layout flags) (padding layout flags) part there

  padding-used : (part : Part) → Contains (padding layout flags) part → Contains (parts_of layout flags (Some Used)) part
  padding-used part there = Contains-append_right (red_zones layout flags red_active) (padding layout flags) part there

  -- an examined part lies in the slot
  pub parts-fit : (x : Option ObjectState) (part : Part) (p : ℕ) → Contains (parts_of layout flags x) part → Has part p → p < layout.size
  parts-fit None part p there has = absurd (omega (arith, there.1))
  parts-fit (Some Free) part p there has = let below : p < part.to = has.1 in omega (arith, below, (lies layout flags good red_inactive part (piece-free layout flags part there)).1)
  parts-fit (Some Used) part p there has = let below : p < part.to = has.1 in omega (arith, below, (lies layout flags good red_active part (outside-used layout flags good part there).0).1)
  parts-fit (Some Aside) part p there has = absurd (omega (arith, there.1))

  -- the slot of an object is set up, and its state is another
  module _ (slab : SlabState) (i : ℕ) (byte : ℕ) (old new : ObjectState) (inside : i * layout.size + layout.size ≤ length slab.bytes) (was : slice_get slab.states i ≡ Some old)
      (pads : (part : Part) → Contains (padding layout flags) part → Contains (parts_of layout flags (Some old)) part)
      (pieces : (part : Part) → Contains (parts_of layout flags (Some new)) part → Piece layout flags byte part)
      (clean : CleanSlab poked layout flags slab) where
    abbrev slot : List ℕ
    slot = slot_of layout slab.bytes i

    abbrev bytes : List ℕ
    bytes = with_slot layout slab.bytes i (set_up layout flags byte slot)

    slot-length : length slot ≡ layout.size
    slot-length = by (i * layout.size) layout.size inside
      where
        by : (a n : ℕ) → a + n ≤ length slab.bytes → length (slice_range slab.bytes a (a + n)) ≡ n
        by a n inside = grind (arith, common_steps)

    set-length : length (set_up layout flags byte slot) ≡ layout.size
    set-length = set-up-length layout flags good byte slot slot-length

    -- another row is as before
    other-same : (j p : ℕ) → j ≢ i → p < layout.size → get_or bytes (j * layout.size + p) 0 ≡ get_or slab.bytes (j * layout.size + p) 0
    other-same j p differ within = elim (other-row layout.size i j (i * 0) p (λ e. differ (sym e)) (omega (arith, within)) within) [
      | inl before ↦ piece-before slab.bytes (set_up layout flags byte slot) (i * layout.size) layout.size (j * layout.size + p) inside before
      | inr behind ↦ piece-behind slab.bytes (set_up layout flags byte slot) (i * layout.size) layout.size (j * layout.size + p) set-length inside behind
    ]

    own-byte : (p : ℕ) → p < layout.size → get_or bytes (i * layout.size + p) 0 ≡ get_or (set_up layout flags byte slot) p 0
    own-byte p within =
        piece-here slab.bytes (set_up layout flags byte slot) (i * layout.size) layout.size (i * layout.size + p) set-length inside (omega arith) (omega (arith, within))
        ∙ ap (λ n. get_or (set_up layout flags byte slot) n 0) (let e : i * layout.size + p - i * layout.size ≡ p = omega arith in e)

    own-clean : (p : ℕ) (part : Part) → Contains (parts_of layout flags (Some new)) part → Has part p → (get_or bytes (i * layout.size + p) 0 ≡ part.wanted) ⊎ poked i p (get_or bytes (i * layout.size + p) 0)
    own-clean p part there has =
        let within = parts-fit (Some new) part p there has in
        elim (set-up-at layout flags good byte slot slot-length part p (pieces part there) has) [
          | inl is ↦ inl (own-byte p within ∙ is)
          | inr still ↦
              let same : get_or bytes (i * layout.size + p) 0 ≡ get_or slab.bytes (i * layout.size + p) 0 = own-byte p within ∙ still.1 ∙ slot-byte layout slab.bytes i p within in
              let before = clean i p part (subst (λ x. Contains (parts_of layout flags x) part) (sym was) (pads part still.0)) has in
              subst (λ b. (b ≡ part.wanted) ⊎ poked i p b) (sym same) before
        ]

    pub set-up-clean : (free : List ℕ) → CleanSlab poked layout flags (record { order = slab.order; bytes = bytes; states = set slab.states i new; free = free })
    set-up-clean free j p part there has = elim (cases_eq j i) [
      | inl same ↦
          let mine : slice_get (set slab.states i new) j ≡ Some new = ap (slice_get (set slab.states i new)) same ∙ slice_get-set_same slab.states i new old was in
          let at = own-clean p part (subst (λ x. Contains (parts_of layout flags x) part) mine there) has in
          subst (λ n. (get_or bytes (n * layout.size + p) 0 ≡ part.wanted) ⊎ poked n p (get_or bytes (n * layout.size + p) 0)) (sym same) at
      | inr differ ↦
          let still = slice_get-set_other slab.states i j new differ in
          let there_before = subst (λ x. Contains (parts_of layout flags x) part) still there in
          let same = other-same j p differ (parts-fit (slice_get slab.states j) part p there_before has) in
          subst (λ b. (b ≡ part.wanted) ⊎ poked j p b) (sym same) (clean j p part there_before has)
    ]

  -- a free object is set up as used, and a used one as free
  pub given-clean : (slab : SlabState) (i : ℕ) → i * layout.size + layout.size ≤ length slab.bytes → slice_get slab.states i ≡ Some Free → CleanSlab poked layout flags slab → CleanSlab poked layout flags (slab_with_given layout flags slab i)
  given-clean slab i inside was clean =
      set-up-clean slab i red_active Free Used inside was padding-free (λ part there. (outside-used layout flags good part there).0) clean (drop 1 slab.free)

  pub taken-clean : (slab : SlabState) (i : ℕ) → i * layout.size + layout.size ≤ length slab.bytes → slice_get slab.states i ≡ Some Used → CleanSlab poked layout flags slab → CleanSlab poked layout flags (slab_with_taken layout flags slab i)
  taken-clean slab i inside was clean =
      set-up-clean slab i red_inactive Used Free inside was padding-used (λ part there. piece-free layout flags part there) clean (i ∷ slab.free)

  -- what is set aside isn't examined any more
  pub aside-clean : (slab : SlabState) → CleanSlab poked layout flags slab → CleanSlab poked layout flags (slab_set_aside slab)
  aside-clean slab clean j p part there has = clean j p part (kept slab.states j there) has
    where
      kept : (states : List ObjectState) (j : ℕ) → Contains (parts_of layout flags (slice_get (map set_aside states) j)) part → Contains (parts_of layout flags (slice_get states j)) part
      kept [] j there = there
      kept (Free ∷ states) zero there = absurd (omega (arith, there.1))
      kept (Used ∷ states) zero there = there
      kept (Aside ∷ states) zero there = there
      kept (state ∷ states) (suc j) there = kept states j there

  -- one byte is poked
  pub poked-clean : (slab : SlabState) (i q byte : ℕ) → q < layout.size → poked i q byte → CleanSlab poked layout flags slab → CleanSlab poked layout flags (record slab { bytes = set slab.bytes (i * layout.size + q) byte })
  poked-clean slab i q byte within did clean j p part there has = elim (cases_eq (j * layout.size + p) (i * layout.size + q)) [
    | inr differ ↦ subst (λ b. (b ≡ part.wanted) ⊎ poked j p b) (sym (get_or-set_other slab.bytes (i * layout.size + q) (j * layout.size + p) byte 0 differ)) (clean j p part there has)
    | inl same ↦ elim (cases_lt (i * layout.size + q) (length slab.bytes)) [
      | inl inside ↦
          let place = same_from_place j p i q layout.size (parts-fit (slice_get slab.states j) part p there has) within same in
          let now : get_or (set slab.bytes (i * layout.size + q) byte) (j * layout.size + p) 0 ≡ byte = ap (λ n. get_or (set slab.bytes (i * layout.size + q) byte) n 0) same ∙ get_or-set_same slab.bytes (i * layout.size + q) byte 0 inside in
          subst (λ b. (b ≡ part.wanted) ⊎ poked j p b) (sym now) (inr (subst (λ n. poked n p byte) (sym place.0) (subst (λ n. poked i n byte) (sym place.1) did)))
      | inr past ↦
          let still : get_or (set slab.bytes (i * layout.size + q) byte) (j * layout.size + p) 0 ≡ get_or slab.bytes (j * layout.size + p) 0 = past-set slab.bytes (i * layout.size + q) (j * layout.size + p) past in
          subst (λ b. (b ≡ part.wanted) ⊎ poked j p b) (sym still) (clean j p part there has)
    ]
  ]
    where
      past-set : (xs : List ℕ) (i k : ℕ) → length xs ≤ i → get_or (set xs i byte) k 0 ≡ get_or xs k 0
      past-set [] i k past = refl
      past-set (x ∷ xs) zero k past = absurd (omega (arith, past))
      past-set (x ∷ xs) (suc i) zero past = refl
      past-set (x ∷ xs) (suc i) (suc k) past = past-set xs i k (omega (arith, past))

  -- a word of a used object is written
  pub written-clean : (slab : SlabState) (i word value : ℕ) → 8 * (word + 1) ≤ layout.object_size → i * layout.size + layout.size ≤ length slab.bytes → slice_get slab.states i ≡ Some Used → CleanSlab poked layout flags slab
      → CleanSlab poked layout flags (record slab { bytes = take (word_place layout i word) slab.bytes ++ to_le_bytes w64 value ++ drop (word_place layout i word + 8) slab.bytes })
  written-clean slab i word value ends inside was clean j p part there has =
      subst (λ b. (b ≡ part.wanted) ⊎ poked j p b) (sym same) (clean j p part there has)
    where
      at : ℕ
      at = i * layout.size + layout.left_pad + 8 * word

      fits : i * layout.size + layout.left_pad + 8 * word + 8 ≤ length slab.bytes
      fits = omega (arith, ends, inside, good.bounds.inuse.0, good.bounds.inuse.1, good.bounds.left_pad)

      away : (j * layout.size + p < i * layout.size + layout.left_pad + 8 * word) ⊎ (i * layout.size + layout.left_pad + 8 * word + 8 ≤ j * layout.size + p)
      away = elim (cases_eq j i) [
        | inl same ↦
            let mine : Contains (parts_of layout flags (Some Used)) part = subst (λ x. Contains (parts_of layout flags x) part) (ap (slice_get slab.states) same ∙ was) there in
            elim ((outside-used layout flags good part mine).1 p has) [
              | inl before ↦ inl (let row : j * layout.size ≡ i * layout.size = ap (λ n. n * layout.size) same in omega (arith, row, before))
              | inr behind ↦ inr (let row : j * layout.size ≡ i * layout.size = ap (λ n. n * layout.size) same in omega (arith, row, behind, ends))
            ]
        | inr differ ↦ elim (other-row layout.size i j 0 p (λ e. differ (sym e)) (omega (arith, good.bounds.size.0)) (parts-fit (slice_get slab.states j) part p there has)) [
          | inl before ↦ inl (omega (arith, before))
          | inr behind ↦ inr (omega (arith, behind, ends, good.bounds.inuse.0, good.bounds.inuse.1, good.bounds.left_pad))
        ]
      ]

      same : get_or (take (word_place layout i word) slab.bytes ++ to_le_bytes w64 value ++ drop (word_place layout i word + 8) slab.bytes) (j * layout.size + p) 0 ≡ get_or slab.bytes (j * layout.size + p) 0
      same = elim away [
        | inl before ↦ piece-before slab.bytes (to_le_bytes w64 value) (word_place layout i word) 8 (j * layout.size + p) fits before
        | inr behind ↦ piece-behind slab.bytes (to_le_bytes w64 value) (word_place layout i word) 8 (j * layout.size + p) refl fits behind
      ]

  -- a new slab
  new-slot-length : length (new_slot layout flags) ≡ layout.size
  new-slot-length = set-up-length layout flags good red_inactive (replicate layout.size (fill_byte flags)) (length-replicate layout.size (fill_byte flags))

  row-at : (n j p : ℕ) → j < n → p < layout.size → get_or (concat (replicate n (new_slot layout flags))) (j * layout.size + p) 0 ≡ get_or (new_slot layout flags) p 0
  row-at zero j p inside within = absurd (omega (arith, inside))
  row-at (suc n) zero p inside within =
      ap (λ k. get_or (new_slot layout flags ++ concat (replicate n (new_slot layout flags))) k 0) (let e : 0 * layout.size + p ≡ p = omega arith in e)
      ∙ get_or_append_left (new_slot layout flags) (concat (replicate n (new_slot layout flags))) 0 p (omega (arith, within, new-slot-length))
  row-at (suc n) (suc j) p inside within =
      ap (λ k. get_or (new_slot layout flags ++ concat (replicate n (new_slot layout flags))) k 0) (let e : suc j * layout.size + p ≡ length (new_slot layout flags) + (j * layout.size + p) = omega (arith, new-slot-length) in e)
      ∙ get_or-append-add (new_slot layout flags) (concat (replicate n (new_slot layout flags))) (j * layout.size + p) 0
      ∙ row-at n j p (omega (arith, inside)) within

  -- as many slots as objects
  pub new-bytes : (n : ℕ) → length (concat (replicate n (new_slot layout flags))) ≡ n * layout.size
  new-bytes zero = omega arith
  new-bytes (suc n) = length-append (new_slot layout flags) (concat (replicate n (new_slot layout flags))) ∙ omega (arith, new-bytes n, new-slot-length)

  new-at : (part : Part) (p : ℕ) → Contains (examined_free layout flags) part → Has part p → get_or (new_slot layout flags) p 0 ≡ part.wanted
  new-at part p there has = elim (set-up-at layout flags good red_inactive (replicate layout.size (fill_byte flags)) (length-replicate layout.size (fill_byte flags)) part p (piece-free layout flags part there) has) [
    | inl is ↦ is
    | inr still ↦
        let is = in-one flags.poison (padding_part layout) part still.0 in
        still.1 ∙ get_or-replicate layout.size p (fill_byte flags) 0 (parts-fit (Some Free) part p there has)
        ∙ ap (λ b. if b then padding_byte else 0) is.0 ∙ sym (ap (λ (q : Part). q.wanted) is.1)
  ]

  pub new-clean : (order objects : ℕ) → CleanSlab poked layout flags (new_slab layout flags order objects)
  new-clean order objects j p part there has = elim (cases_lt j objects) [
    | inl inside ↦
        let free : slice_get (replicate objects Free) j ≡ Some Free = slice_get-get_or (replicate objects Free) j Aside (omega (arith, inside, length-replicate objects Free)) ∙ ap Some (get_or-replicate objects j Free Aside inside) in
        let mine : Contains (examined_free layout flags) part = subst (λ x. Contains (parts_of layout flags x) part) free there in
        inl (row-at objects j p inside (parts-fit (Some Free) part p mine has) ∙ new-at part p mine has)
    | inr past ↦
        let none : slice_get (replicate objects Free) j ≡ None = slice_get_past (replicate objects Free) j (omega (arith, past, length-replicate objects Free)) in
        let nothing : Contains (parts_of layout flags None) part = subst (λ x. Contains (parts_of layout flags x) part) none there in
        absurd (omega (arith, nothing.1))
  ]
