-- A write leaves the words of other objects.
use Rattle.std.proofs.Common.{◌≡◌, ◌≢◌, ℕ, ◌+◌, ◌-◌, ◌*◌, ◌%◌, ◌<◌, ◌≤◌, ◌⊎◌, true, false, Bool, List, ◌++◌, length, take, drop, get_or, get_or-set_other, get_or-set_same, set, Option, Some, None, IsSome, IfSome, MatchOption, inl, inr, refl, ap, sym, ◌∙◌, subst, arith}
use Rattle.std.specs.Prelude.{MatchBool, unwrap_or, slice_range}
use Rattle.std.specs.Int.{from_le_bytes, to_le_bytes, w64}
use Rattle.std.specs.Option.{option_map_or}
use Rattle.std.proofs.lemmas.Bool.{cases_eq, cases_lt}
use Rattle.std.proofs.lemmas.Grind.{common_steps}
use Rattle.std.proofs.lemmas.List.{drop-take, length-append, length-take, take-take}
use Rattle.std.proofs.lemmas.Nat.{row_fits}
use Rattle.std.proofs.Math.Seq.{drop-append-add}
use Rattle.slub_cache_create.specs.declared.caches.Cache.{Cache}
use Rattle.slub_object_layout.proofs.Slots.{mul-words}
use Rattle.slub_object_layout.specs.declared.layout.Layout.{Layout}
use Rattle.slub_object_layout.specs.Layout.{address_of}
use Rattle.slub_red_zone.specs.Sound.{IsSlab}
use Rattle.slub_red_zone.specs.State.{CheckedState, Has, SlabState, no_slab, objects_in, slab_of as checked_slab}
use Rattle.slub_red_zone.specs.Steps.{with_word as slab_word, word_of as slab_word_of, word_place}
use Rattle.slub_lists.specs.declared.lists.Held.{Held}
use Rattle.slub_trace.specs.declared.reply.Reply.{Reply}
use Rattle.slub_trace.specs.declared.reply.Reply.TheVariants.{NotHeld, OutOfObject, Wrote}
use Rattle.slub_lists.specs.State.{State}
use Rattle.slub_lists.specs.Alloc.{cache_of, checked_of, IsLive}
use Rattle.slub_lists.specs.Checked.{slot_of_held, with_checked}
use Rattle.slub_lists.specs.Coherent.{IsCoherent, IsSetFrom, held_under}
use Rattle.slub_lists.specs.Laws.{HasByte, KeepsWords, Names}
use Rattle.slub_lists.specs.Words.{Writes, WritesHeld, held_by, is_word, with_word, word_at, word_of}
use Rattle.slub_lists.proofs.Apart.{held-apart, one-number}
use Rattle.slub_lists.proofs.Kept.{consistent-of}
use Rattle.slub_lists.proofs.CheckedSlabs.{was-checked}
use Rattle.slub_common.proofs.Writes.{inside-of}
use Rattle.slub_lists.proofs.CheckedGiving.{layout-live, the-value}
use Rattle.slub_lists.proofs.CheckedTaking.{checked-set, held-has, held-index}
use Rattle.slub_lists.proofs.ObjectWords.{own-is, word-ends}

-- ---- lists of bytes

-- what is put over a part of a list leaves what is read before it and behind it
take-within : (xs : List ℕ) (b n at : ℕ) → b + n ≤ at → at ≤ length xs → take n (drop b (take at xs)) ≡ take n (drop b xs)
take-within xs b n at inside within =
    ap (λ k. take n (drop b (take k xs))) (let e : at ≡ b + (at - b) = omega arith in e) ∙ ap (take n) (drop-take b (at - b) xs) ∙ take-take n (at - b) (drop b xs) (omega arith)

read-before : (xs ys zs : List ℕ) (b n : ℕ) → b + n ≤ length xs → take n (drop b (xs ++ ys ++ zs)) ≡ take n (drop b xs)
read-before xs ys zs b n inside = grind (arith, common_steps)

read-behind : (xs ys zs : List ℕ) (n m : ℕ) → drop (length xs + length ys + m) (xs ++ ys ++ zs) ≡ drop m zs
read-behind xs ys zs n m =
    ap (λ k. drop k (xs ++ ys ++ zs)) (let e : length xs + length ys + m ≡ length (xs ++ ys) + m = omega (arith, length-append xs ys) in e) ∙ drop-append-add (xs ++ ys) zs m

spared-bytes : (xs ys : List ℕ) (at b : ℕ) → length ys ≡ 8 → at + 8 ≤ length xs → (b + 8 ≤ at) ⊎ (at + 8 ≤ b)
    → slice_range (take at xs ++ ys ++ drop (at + 8) xs) b (b + 8) ≡ slice_range xs b (b + 8)
spared-bytes xs ys at b eight inside apart =
    let long : length (take at xs) ≡ at = simp length-take (omega arith) in
    elim apart [
      | inl low ↦
          read-before (take at xs) ys (drop (at + 8) xs) b (b + 8 - b) (omega (arith, long, low)) ∙ take-within xs b (b + 8 - b) at (omega (arith, low)) (omega (arith, inside))
      | inr high ↦
          let place : length (take at xs) + length ys + (b - (at + 8)) ≡ b = omega (arith, long, eight, high) in
          ap (take (b + 8 - b)) (ap (λ k. drop k (take at xs ++ ys ++ drop (at + 8) xs)) (sym place) ∙ read-behind (take at xs) ys (drop (at + 8) xs) 0 (b - (at + 8))
          ∙ (let again : drop (b - (at + 8)) (drop (at + 8) xs) ≡ drop (at + 8 + (b - (at + 8))) xs = drop-drop-add (at + 8) (b - (at + 8)) xs in again)
          ∙ ap (λ k. drop k xs) (let whole : at + 8 + (b - (at + 8)) ≡ b = omega (arith, high) in whole))
    ]
  where
    drop-drop-add : (i j : ℕ) (xs : List ℕ) → drop j (drop i xs) ≡ drop (i + j) xs
    drop-drop-add i j xs = grind (arith, common_steps)

-- ---- the first byte of a word

module _ (s : State) (object : ℕ) (held : Held) (layout : Layout) (names : Names s object held layout) (coherent : IsCoherent s) where
  good : IsLive layout
  good = layout-live s held.cache layout names.live coherent.shaped

  -- it lies in the object's slot
  first-byte : (word : ℕ) → is_word layout word ≡ true → HasByte s object (address_of held.frame held.index layout + 8 * word)
  first-byte word inside = record {
    held = held;
    layout = layout;
    names = names;
    inside = record {
      from = omega arith;
      below = omega (arith, word-ends layout word inside, good.1.made.inuse.0, good.1.made.inuse.1, good.1.made.left_pad, good.1.made.object_size.0);
    };
  }

  -- and stands at a whole word
  address-words : address_of held.frame held.index layout % 8 ≡ 0
  address-words = omega (arith, mul-words held.index layout.size good.1.made.size_in_words, good.1.made.left_pad_in_words)

-- ---- two objects

module _ (s : State) (one other : ℕ) (a b : Held) (la lb : Layout) (names_a : Names s one a la) (names_b : Names s other b lb) (apart : other ≢ one) (coherent : IsCoherent s) where
  -- their words are others
  places-apart : (v w : ℕ) → is_word la v ≡ true → is_word lb w ≡ true → word_at lb b w ≢ word_at la a v
  places-apart v w inside_a inside_b same =
      let byte : address_of b.frame b.index lb + 8 * w ≡ address_of a.frame a.index la + 8 * v = omega (arith, same, address-words s one a la names_a coherent, address-words s other b lb names_b coherent) in
      let here = first-byte s one a la names_a coherent v inside_a in
      let there = first-byte s other b lb names_b coherent w inside_b in
      apart (held-apart s other one (address_of a.frame a.index la + 8 * v) coherent (subst (HasByte s other) byte there) here)

  -- in one slab of one cache
  module _ (slabs : CheckedState) (was : checked_of s a.cache ≡ Some slabs) (also : checked_of s b.cache ≡ Some slabs) (v w value : ℕ) (inside_a : is_word la v ≡ true) (inside_b : is_word lb w ≡ true) where
    layout_a : IsSetFrom slabs.layout la
    layout_a = checked-set s a.cache la slabs names_a.live (was-checked s a.cache slabs slabs was coherent.shaped.checked)

    layout_b : IsSetFrom slabs.layout lb
    layout_b = checked-set s b.cache lb slabs names_b.live (was-checked s b.cache slabs slabs also coherent.shaped.checked)

    live : IsLive (record slabs.layout { min_partial = la.min_partial })
    live = subst IsLive layout_a (good s one a la names_a coherent)

    ends_a : 8 * (v + 1) ≤ slabs.layout.object_size
    ends_a = subst (λ (l : Layout). 8 * (v + 1) ≤ l.object_size) layout_a (word-ends la v inside_a)

    ends_b : 8 * (w + 1) ≤ slabs.layout.object_size
    ends_b = subst (λ (l : Layout). 8 * (w + 1) ≤ l.object_size) layout_b (word-ends lb w inside_b)

    index-a : a.index < objects_in (checked_slab slabs a.frame)
    index-a = held-index s one a slabs names_a.here was (consistent-of s coherent)

    there : Has slabs a.frame
    there = held-has s one a slabs names_a.here was (consistent-of s coherent)

    bytes-a : length (checked_slab slabs a.frame).bytes ≡ objects_in (checked_slab slabs a.frame) * slabs.layout.size
    bytes-a = bytes-of (get_or slabs.slabs a.frame None) there ((was-checked s a.cache slabs slabs was coherent.shaped.checked).sound.slab a.frame)
      where
        bytes-of : (x : Option SlabState) → IsSome x → IfSome x (IsSlab slabs.layout) → length (unwrap_or x no_slab).bytes ≡ objects_in (unwrap_or x no_slab) * slabs.layout.size
        bytes-of None there is = cc
        bytes-of (Some slab) there is = is.bytes

    pub slab-spared : slab_word_of (slab_word slabs (slot_of_held a) v value) (slot_of_held b) w ≡ slab_word_of slabs (slot_of_held b) w
    slab-spared =
        let size : ℕ = slabs.layout.size in
        let at : ℕ = word_place slabs.layout a.index v in
        let to : ℕ = word_place slabs.layout b.index w in
        let xs : List ℕ = (checked_slab slabs a.frame).bytes in
        let ys : List ℕ = to_le_bytes w64 value in
        let slab : SlabState = record (checked_slab slabs a.frame) { bytes = take at xs ++ ys ++ drop (at + 8) xs } in
        let read : Option SlabState → ℕ = λ x. from_le_bytes w64 (slice_range (unwrap_or x no_slab).bytes to (to + 8)) in
        elim (cases_eq b.frame a.frame) [
          | inr other_frame ↦ ap read (get_or-set_other slabs.slabs a.frame b.frame (Some slab) None other_frame)
          | inl same_frame ↦
              let inside : a.frame < length slabs.slabs = some-inside slabs.slabs a.frame there in
              let index : a.index ≢ b.index = λ e. apart (sym (one-number s one other a b names_a.here names_b.here (sym same_frame) e (consistent-of s coherent))) in
              let fits : at + 8 ≤ length xs = omega (arith, bytes-a, row_fits a.index size (objects_in (checked_slab slabs a.frame)) size index-a (omega arith), ends_a, live.1.made.inuse.0, live.1.made.inuse.1, live.1.made.left_pad) in
              let away : (to + 8 ≤ at) ⊎ (at + 8 ≤ to) = elim (cases_lt b.index a.index) [
                | inl less ↦ inl (omega (arith, row_fits b.index size a.index size less (omega arith), ends_b, live.1.made.inuse.0, live.1.made.inuse.1, live.1.made.left_pad))
                | inr more ↦ inr (omega (arith, row_fits a.index size b.index size (omega (arith, more, index)) (omega arith), ends_a, live.1.made.inuse.0, live.1.made.inuse.1, live.1.made.left_pad))
              ] in
              let now : get_or (set slabs.slabs a.frame (Some slab)) b.frame None ≡ Some slab = ap (λ n. get_or (set slabs.slabs a.frame (Some slab)) n None) same_frame ∙ get_or-set_same slabs.slabs a.frame (Some slab) None inside in
              ap read now ∙ ap (from_le_bytes w64) (spared-bytes xs ys at to refl fits away) ∙ sym (ap read (ap (λ n. get_or slabs.slabs n None) same_frame))
        ]
      where
        some-inside : (xs : List (Option SlabState)) (i : ℕ) → IsSome (get_or xs i None) → i < length xs
        some-inside xs i there = let y = found (get_or xs i None) there in inside-of xs i y.0 y.1
          where
            found : (x : Option SlabState) → IsSome x → (y : SlabState) × (x ≡ Some y)
            found None there = cc
            found (Some y) there = (y, refl)

  -- whatever the caches are
  spared : (v w value : ℕ) → is_word la v ≡ true → is_word lb w ≡ true → word_of (with_word s la a v value) lb b w ≡ word_of s lb b w
  spared v w value inside_a inside_b = by-cache (checked_of s a.cache) refl
    where
      by-cache : (x : Option CheckedState) → checked_of s a.cache ≡ x → word_of (option_map_or (λ slabs. with_checked s a.cache (slab_word slabs (slot_of_held a) v value)) x (record s { memory = set s.memory (word_at la a v) value })) lb b w ≡ word_of s lb b w
      by-cache None e = ap (λ n. option_map_or (λ slabs. slab_word_of slabs (slot_of_held b) w) (checked_of s b.cache) n) (get_or-set_other s.memory (word_at la a v) (word_at lb b w) value 0 (places-apart v w inside_a inside_b))
      by-cache (Some slabs) e =
          let new : CheckedState = slab_word slabs (slot_of_held a) v value in
          let memory : ℕ = get_or s.memory (word_at lb b w) 0 in
          elim (cases_eq b.cache a.cache) [
            | inr other_cache ↦ ap (λ x. option_map_or (λ slabs. slab_word_of slabs (slot_of_held b) w) x memory) (get_or-set_other s.checked a.cache b.cache (Some new) None other_cache)
            | inl same_cache ↦
                let also : checked_of s b.cache ≡ Some slabs = ap (checked_of s) same_cache ∙ e in
                let now : get_or (set s.checked a.cache (Some new)) b.cache None ≡ Some new = ap (λ n. get_or (set s.checked a.cache (Some new)) n None) same_cache ∙ get_or-set_same s.checked a.cache (Some new) None (inside-of s.checked a.cache slabs e) in
                ap (λ x. option_map_or (λ slabs. slab_word_of slabs (slot_of_held b) w) x memory) now ∙ slab-spared slabs e also v w value inside_a inside_b
                ∙ sym (ap (λ x. option_map_or (λ slabs. slab_word_of slabs (slot_of_held b) w) x memory) also)
          ]

-- ---- a write

pub writes-spare : (s : State) (worker object word value : ℕ) (reply : Reply) (after : State) → IsCoherent s → Writes s worker object word value reply after → KeepsWords s object after
writes-spare s worker object word value reply after coherent writes = λ other place held layout apart names inside.
    by-held (held_by s worker object) refl writes other place held layout apart names inside
  where
    by-word : (layout : Layout) (a : Held) (b : Bool) → is_word layout word ≡ b → MatchBool b ((reply ≡ Wrote) × (after ≡ with_word s layout a word value)) ((reply ≡ OutOfObject) × (after ≡ s))
        → ((is_word layout word ≡ true) × (after ≡ with_word s layout a word value)) ⊎ (after ≡ s)
    by-word layout a true e h = inl (e, h.1)
    by-word layout a false e h = inr h.1

    by-held : (x : Option Held) → held_by s worker object ≡ x → MatchOption x ((reply ≡ NotHeld) × (after ≡ s)) (λ a. MatchOption (cache_of s a.cache) ⊥ (λ live. WritesHeld s live.layout a word value reply after)) → KeepsWords s object after
    by-held None e h = λ other place held layout apart names inside. ap (λ (t : State). word_of t layout held place) h.1
    by-held (Some a) e h = λ other place held layout apart names inside.
        let live = the-value (cache_of s a.cache) (λ live. WritesHeld s live.layout a word value reply after) h in
        let names_a : Names s object a live.0.layout = record {
          here = own-is worker (held_under s object) a e;
          live = subst (λ (x : Option Cache). MatchOption x ⊥ (λ c. c.layout ≡ live.0.layout)) (sym live.1) refl;
        } in
        elim (by-word live.0.layout a (is_word live.0.layout word) refl live.2) [
          | inl wrote ↦ ap (λ (t : State). word_of t layout held place) wrote.1 ∙ spared s object other a held live.0.layout layout names_a names apart coherent word place value wrote.0 inside
          | inr same ↦ ap (λ (t : State). word_of t layout held place) same
        ]
