-- An event leaves the words of the objects that it isn't of.
use Rattle.std.proofs.Common.{◌≡◌, ◌≢◌, ℕ, zero, suc, ◌+◌, ◌*◌, ◌<◌, ◌≤◌, true, false, List, [], ◌∷◌, length, drop, get_or, set, map, refl, sym, ◌∙◌, ap, subst, arith, Option, Some, None, unwrap_or, inl, inr, ℤ, get_or-set_other, get_or-set_same, length-set, MatchOption, pow_pos, zero-add, ◌^◌}
use Rattle.std.specs.Prelude.{slice_get, slice_range, nat_abs}
use Rattle.std.specs.Int.{from_le_bytes, w64}
use Rattle.std.specs.Option.{option_map_or}
use Rattle.std.proofs.lemmas.Bool.{cases_eq}
use Rattle.std.proofs.lemmas.Bool.Decides.{nat_tests}
use Rattle.std.proofs.lemmas.Grind.{common_steps}
use Rattle.std.proofs.lemmas.List.{ext_get_or}
use Rattle.slub_common.proofs.Writes.{at_written, inside-of}
use Rattle.std.proofs.lemmas.Nat.{same_from_place}
use Rattle.slub_trace.specs.declared.damage.Report.{Report}
use Rattle.slub_object_layout.specs.declared.layout.Layout.{Layout}
use Rattle.slub_red_zone.specs.declared.slab.ObjectState.{ObjectState}
use Rattle.slub_red_zone.specs.declared.slab.ObjectState.TheVariants.{Free, Used, Aside}
use Rattle.slub_red_zone.specs.declared.checked.CheckedGive.{CheckedGive}
use Rattle.slub_red_zone.specs.declared.checked.CheckedGive.TheVariants as give
use Rattle.slub_red_zone.specs.declared.checked.Run.{Run as SlabRun}
use Rattle.slub_red_zone.specs.declared.checked.Slot.{Slot}
use Rattle.slub_red_zone.specs.Sound.{IsLayoutFor, IsSound}
use Rattle.slub_red_zone.specs.State.{CheckedState, IsUsed, SlabState, is_free, no_slab, objects_in, slab_of as checked_slab, slot_of, state_of, with_slot}
use Rattle.slub_red_zone.specs.Steps.{Gives, TakesEmpty, next_is_damaged, next_is_whole, nothing_listed, place_of, set_aside, slab_set_aside, slab_with_given, slab_with_taken, with_damaged, with_given, with_new_slab, with_taken, without_slab, word_of as slab_word_of, word_place}
use Rattle.slub_red_zone.specs.Zones.{red_active, red_inactive, set_up}
use Rattle.slub_red_zone.proofs.Given.{damaged-sound, next-inside}
use Rattle.slub_red_zone.proofs.Counting.{count-set, got, one_if}
use Rattle.slub_red_zone.proofs.Sums.{slab_at-set}
use Rattle.slub_red_zone.proofs.Taken.{used-inside, used-object, used-slab, used-some, used-state}
use Rattle.slub_red_zone.proofs.Whole.{frame-inside}
use Rattle.slub_common.proofs.Sums.{count_by-lt-length}
use Rattle.std.proofs.lemmas.Option.{slice_get_within}
use Rattle.slub_trace.specs.declared.event.Act.{Act}
use Rattle.slub_trace.specs.declared.event.Act.TheVariants as act
use Rattle.slub_trace.specs.declared.event.Event.{Event}
use Rattle.slub_trace.specs.declared.reply.Reply.{Reply}
use Rattle.slub_common.specs.Times.{times}
use Rattle.slub_common.proofs.Times.{times-contained}
use Rattle.slub_lists.specs.declared.lists.Held.{Held}
use Rattle.slub_lists.specs.declared.lists.Slab.{Slab}
use Rattle.slub_lists.specs.State.{State}
use Rattle.slub_lists.specs.Alloc.{checked_of, slab_of}
use Rattle.slub_lists.specs.Checked.{slot_of_held}
use Rattle.slub_lists.specs.Coherent.{IsCoherent, IsConsistent, covered_from, covers, held_under}
use Rattle.slub_lists.specs.Laws.{Names}
use Rattle.slub_lists.specs.Words.{is_word, word_at, word_of}
use Rattle.slub_lists.proofs.Apart.{one-number}
use Rattle.slub_lists.proofs.CheckedTaking.{held-slab, held-used}
use Rattle.slub_lists.proofs.Framed.{covered-set, framed-most}
use Rattle.slub_lists.proofs.Kept.{consistent-of}
use Rattle.slub_lists.proofs.ObjectWords.{used-word}
use Rattle.slub_lists.proofs.Spared.{writes-spare}
use Rattle.slub_slabinfo_text.specs.Lawful.{Answers}
use Rattle.slub_law_rounds.specs.Event.{IsNamed, SparesWords}
use Rattle.slub_law_rounds.proofs.Bytes.{offset-place, other-row, piece-before, piece-behind, piece-length, set-up-length}
use Rattle.slub_law_rounds.proofs.Founds.{first-state, run-free}
use Rattle.slub_law_rounds.proofs.Reports.{slabs-sound}
use Rattle.slub_law_rounds.proofs.Slabs.{Slabs, Swaps, event-slabs, gave, made, poked_byte, same, took, wrote}
use Rattle.slub_law_rounds.proofs.Steps.{event-step}
use Rattle.slub_law_rounds.proofs.Tale.{injected}
use Rattle.slub_law_rounds.proofs.Values.{Words, unwrote, words-of, wrote as wrote_word}

-- ---- one slab

-- a used object of a slab is used after, and its bytes are as before
pub record Spares (size : ℕ) (old new : SlabState) (j : ℕ) : Type 0 where
  pub used : slice_get old.states j ≡ Some Used → slice_get new.states j ≡ Some Used
  pub long : length new.bytes ≡ length old.bytes
  pub bytes : (p : ℕ) → p < size → get_or new.bytes (j * size + p) 0 ≡ get_or old.bytes (j * size + p) 0

spares-same : (size : ℕ) (slab : SlabState) (j : ℕ) → Spares size slab slab j
spares-same size slab j = record { used = λ u. u; long = refl; bytes = λ p within. refl }

slice_get-other : {A : Type 0} (xs : List A) (i j : ℕ) (x : A) → j ≢ i → slice_get (set xs i x) j ≡ slice_get xs j
slice_get-other [] i j x differ = refl
slice_get-other (y ∷ xs) zero zero x differ = absurd (differ refl)
slice_get-other (y ∷ xs) zero (suc j) x differ = refl
slice_get-other (y ∷ xs) (suc i) zero x differ = refl
slice_get-other (y ∷ xs) (suc i) (suc j) x differ = slice_get-other xs i j x (λ e. differ (ap suc e))

-- another object is set up
set-up-spares : (layout : Layout) (bytes : List ℕ) (states : List ObjectState) (order : ℕ) (free more : List ℕ) (i j : ℕ) (new : List ℕ) (state : ObjectState) → length new ≡ layout.size → i * layout.size + layout.size ≤ length bytes → j ≢ i
    → Spares layout.size (record { order = order; bytes = bytes; states = states; free = free }) (record { order = order; bytes = with_slot layout bytes i new; states = set states i state; free = more }) j
set-up-spares layout bytes states order free more i j new state long inside differ = record {
  used = λ used. slice_get-other states i j state differ ∙ used;
  long = piece-length bytes new (i * layout.size) layout.size long inside;
  bytes = λ p within. elim (other-row layout.size i j 0 p (λ e. differ (sym e)) (omega (arith, within)) within) [
    | inl before ↦ piece-before bytes new (i * layout.size) layout.size (j * layout.size + p) inside before
    | inr behind ↦ piece-behind bytes new (i * layout.size) layout.size (j * layout.size + p) long inside behind
  ];
}

-- the free objects are set aside
aside-spares : (size : ℕ) (slab : SlabState) (j : ℕ) → Spares size slab (slab_set_aside slab) j
aside-spares size slab j = record { used = used slab.states j; long = refl; bytes = λ p within. refl }
  where
    used : (states : List ObjectState) (j : ℕ) → slice_get states j ≡ Some Used → slice_get (map set_aside states) j ≡ Some Used
    used [] j is = is
    used (Free ∷ states) zero is = absurd (let never : Some Free ≡ Some Used = is in cc)
    used (Used ∷ states) zero is = refl
    used (Aside ∷ states) zero is = absurd (let never : Some Aside ≡ Some Used = is in cc)
    used (state ∷ states) (suc j) is = used states j is

-- ---- the slabs of a cache

-- the used object of a slot is used after, with the same bytes
pub record SparesSlot (old new : CheckedState) (slot : Slot) : Type 0 where
  pub layout : new.layout ≡ old.layout
  pub flags : new.flags ≡ old.flags
  pub slab : Spares old.layout.size (checked_slab old slot.frame) (checked_slab new slot.frame) slot.index

slot-same : (s : CheckedState) (slot : Slot) → SparesSlot s s slot
slot-same s slot = record { layout = refl; flags = refl; slab = spares-same s.layout.size (checked_slab s slot.frame) slot.index }

slot-then : (a b c : CheckedState) (slot : Slot) → SparesSlot a b slot → SparesSlot b c slot → SparesSlot a c slot
slot-then a b c slot first second = record {
  layout = second.layout ∙ first.layout;
  flags = second.flags ∙ first.flags;
  slab = record {
    used = λ used. second.slab.used (first.slab.used used);
    long = second.slab.long ∙ first.slab.long;
    bytes = λ p within.
        let size : b.layout.size ≡ a.layout.size = ap (λ (l : Layout). l.size) first.layout in
        let later : get_or (checked_slab c slot.frame).bytes (slot.index * a.layout.size + p) 0 ≡ get_or (checked_slab b slot.frame).bytes (slot.index * a.layout.size + p) 0 =
        subst (λ n. get_or (checked_slab c slot.frame).bytes (slot.index * n + p) 0 ≡ get_or (checked_slab b slot.frame).bytes (slot.index * n + p) 0) size (second.slab.bytes p (omega (arith, within, size))) in
        later ∙ first.slab.bytes p within;
  };
}

-- one slab is another
slab-other : (s : CheckedState) (frame : ℕ) (x : Option SlabState) (at : ℕ) → at ≢ frame → unwrap_or (get_or (set s.slabs frame x) at None) no_slab ≡ checked_slab s at
slab-other s frame x at differ = ap (λ y. unwrap_or y no_slab) (get_or-set_other s.slabs frame at x None differ)

pub slot-with : (s : CheckedState) (frame : ℕ) (new : SlabState) (listed : List ℕ) (reports : List Report) (slot : Slot) → (slot.frame ≡ frame → Spares s.layout.size (checked_slab s frame) new slot.index)
    → SparesSlot s (record s { slabs = set s.slabs frame (Some new); listed = listed; reports = reports }) slot
slot-with s frame new listed reports slot spares = record {
  layout = refl;
  flags = refl;
  slab = at_written (λ y. Spares s.layout.size (checked_slab s slot.frame) (unwrap_or y no_slab) slot.index) s.slabs frame slot.frame (Some new) None
      (λ same. subst (λ n. Spares s.layout.size (checked_slab s n) new slot.index) (sym same) (spares same))
      (spares-same s.layout.size (checked_slab s slot.frame) slot.index);
}

slot-length : (layout : Layout) (bytes : List ℕ) (i : ℕ) → i * layout.size + layout.size ≤ length bytes → length (slot_of layout bytes i) ≡ layout.size
slot-length layout bytes i inside = by (i * layout.size) layout.size inside
  where
    by : (a n : ℕ) → a + n ≤ length bytes → length (slice_range bytes a (a + n)) ≡ n
    by a n inside = grind (arith, common_steps)

-- a give spares each used object
pub gives-spares : (s : CheckedState) (answer : CheckedGive) (after : CheckedState) (slot : Slot) → IsSound s → Gives s answer after → IsUsed s slot → SparesSlot s after slot
gives-spares _ _ _ slot sound (nothing_listed s none) used = slot-same s slot
gives-spares _ _ _ slot sound (next_is_whole s first next whole) used =
    let slab = checked_slab s first.frame in
    let inside = next-inside s first sound next in
    slot-with s first.frame (slab_with_given s.layout s.flags slab first.index) (with_given s first).listed s.reports slot (λ same.
    set-up-spares s.layout slab.bytes slab.states slab.order slab.free (drop 1 slab.free) first.index slot.index (set_up s.layout s.flags red_active (slot_of s.layout slab.bytes first.index)) Used
    (set-up-length s.layout s.flags sound.layout red_active (slot_of s.layout slab.bytes first.index) (slot-length s.layout slab.bytes first.index inside)) inside
    (λ e. free-used s first slot (first-state s first sound next) used same e))
  where
    free-used : (s : CheckedState) (first slot : Slot) → state_of s first ≡ Some Free → IsUsed s slot → slot.frame ≡ first.frame → slot.index ≡ first.index → ⊥
    free-used s first slot free used frame index =
        let never : Some Free ≡ Some Used = sym free ∙ ap (λ f. slice_get (checked_slab s f).states first.index) (sym frame) ∙ ap (λ i. slice_get (checked_slab s slot.frame).states i) (sym index) ∙ used in cc
gives-spares _ _ _ slot sound (next_is_damaged s first damage answer after next is asked) used =
    let mid = with_damaged s first damage in
    let one : SparesSlot s mid slot = slot-with s first.frame (slab_set_aside (checked_slab s first.frame)) (drop 1 s.listed) mid.reports slot (λ same. aside-spares s.layout.size (checked_slab s first.frame) slot.index) in
    slot-then s mid after slot one (gives-spares mid answer after slot (damaged-sound s first sound next damage) asked (one.slab.used used))

-- taking another object back does
pub back-spares : (s : CheckedState) (taken slot : Slot) → IsSound s → IsUsed s taken → (slot.frame ≡ taken.frame → slot.index ≡ taken.index → ⊥) → SparesSlot s (with_taken s taken) slot
back-spares s taken slot sound used differ =
    let slab = checked_slab s taken.frame in
    let inside = used-inside s taken sound used in
    slot-with s taken.frame (slab_with_taken s.layout s.flags slab taken.index) (with_taken s taken).listed s.reports slot (λ same.
    set-up-spares s.layout slab.bytes slab.states slab.order slab.free (taken.index ∷ slab.free) taken.index slot.index (set_up s.layout s.flags red_inactive (slot_of s.layout slab.bytes taken.index)) Free
    (set-up-length s.layout s.flags sound.layout red_inactive (slot_of s.layout slab.bytes taken.index) (slot-length s.layout slab.bytes taken.index inside)) inside (differ same))

-- poking another slot does
pub byte-spares : (s : CheckedState) (poked slot : Slot) (q byte : ℕ) → q < s.layout.size → (slot.frame ≡ poked.frame → slot.index ≡ poked.index → ⊥)
    → SparesSlot s (record s { slabs = set s.slabs poked.frame (Some (record (checked_slab s poked.frame) { bytes = set (checked_slab s poked.frame).bytes (poked.index * s.layout.size + q) byte })) }) slot
byte-spares s poked slot q byte within differ =
    let slab = checked_slab s poked.frame in
    slot-with s poked.frame (record slab { bytes = set slab.bytes (poked.index * s.layout.size + q) byte }) s.listed s.reports slot (λ same. record {
      used = λ used. used;
      long = length-set slab.bytes (poked.index * s.layout.size + q) byte;
      bytes = λ p inside.
          get_or-set_other slab.bytes (poked.index * s.layout.size + q) (slot.index * s.layout.size + p) byte 0
          (λ e. differ same (same_from_place slot.index p poked.index q s.layout.size inside within e).0);
    })

-- a slab that comes at a frame with none does, and one that goes of which another object is
pub coming-spares : (s : CheckedState) (run : SlabRun) (objects : ℕ) (slot : Slot) → slot.frame ≢ run.frame → SparesSlot s (with_new_slab s run objects) slot
coming-spares s run objects slot differ = slot-with s run.frame _ (run.frame ∷ s.listed) s.reports slot (λ same. absurd (differ same))

-- ---- the words of a slot

pub word-spared : (old new : CheckedState) (slot : Slot) (word : ℕ) → IsLayoutFor old.flags old.layout → SparesSlot old new slot → slot.index * old.layout.size + old.layout.size ≤ length (checked_slab old slot.frame).bytes
    → 8 * (word + 1) ≤ old.layout.object_size → slab_word_of new slot word ≡ slab_word_of old slot word
word-spared old new slot word good spares inside ends =
    ap (from_le_bytes w64) (ap (λ (l : Layout). slice_range (checked_slab new slot.frame).bytes (word_place l slot.index word) (word_place l slot.index word + 8)) spares.layout
    ∙ same-range (checked_slab new slot.frame).bytes (checked_slab old slot.frame).bytes (word_place old.layout slot.index word)
    (omega (arith, inside, spares.slab.long, ends, good.bounds.inuse.0, good.bounds.inuse.1, good.bounds.left_pad)) (omega (arith, inside, ends, good.bounds.inuse.0, good.bounds.inuse.1, good.bounds.left_pad))
    (λ k below.
    let at : word_place old.layout slot.index word + k ≡ slot.index * old.layout.size + (old.layout.left_pad + 8 * word + k) = omega arith in
    ap (λ n. get_or (checked_slab new slot.frame).bytes n 0) at ∙ spares.slab.bytes (old.layout.left_pad + 8 * word + k) (omega (arith, below, ends, good.bounds.inuse.0, good.bounds.inuse.1, good.bounds.left_pad))
    ∙ sym (ap (λ n. get_or (checked_slab old slot.frame).bytes n 0) at)))
  where
    same-range : (xs ys : List ℕ) (a : ℕ) → a + 8 ≤ length xs → a + 8 ≤ length ys → ((k : ℕ) → k < 8 → get_or xs (a + k) 0 ≡ get_or ys (a + k) 0) → slice_range xs a (a + 8) ≡ slice_range ys a (a + 8)
    same-range xs ys a in_x in_y equal =
        ext_get_or 0 (slice_range xs a (a + 8)) (slice_range ys a (a + 8)) (long xs in_x ∙ sym (long ys in_y))
        (λ i below. let less : i < 8 = omega (arith, below, long xs in_x) in read xs i less ∙ equal i less ∙ sym (read ys i less))
      where
        long : (zs : List ℕ) → a + 8 ≤ length zs → length (slice_range zs a (a + 8)) ≡ 8
        long zs inside = grind (arith, common_steps)

        read : (zs : List ℕ) (i : ℕ) → i < 8 → get_or (slice_range zs a (a + 8)) i 0 ≡ get_or zs (a + i) 0
        read zs i less = grind (arith, common_steps)

-- ---- the machine

-- a slab covers its first frame
covered-some : (s : State) (frame : ℕ) (slab : Slab) → slab_of s frame ≡ Some slab → 0 < covered_from frame 0 s.slabs
covered-some s frame slab is =
    let nothing : covers frame (0 + frame) None ≡ 0 = refl in
    let low : frame ≤ frame = omega arith in
    let high : frame < frame + 2 ^ slab.order = omega (arith, pow_pos slab.order) in
    let one : covers frame (0 + frame) (Some slab) ≡ 1 = grind (arith, nat_tests, low, high, zero-add frame) in
    omega (arith, covered-set frame 0 s.slabs frame None (inside-of s.slabs frame slab is), nothing, ap (covers frame (0 + frame)) is, one)

module _ (s : State) (event : Event) (answer : Reply) (after : State) (coherent : IsCoherent s) (other : ℕ) (held : Held) (there_held : held_under s other ≡ Some held) where
  consistent : IsConsistent s
  consistent = consistent-of s coherent

  mine-sound : (slabs : CheckedState) → checked_of s held.cache ≡ Some slabs → IsSound slabs
  mine-sound slabs was = (slabs-sound s held.cache slabs coherent was).sound

  mine-used : (slabs : CheckedState) → checked_of s held.cache ≡ Some slabs → IsUsed slabs (slot_of_held held)
  mine-used slabs was = held-used s other held slabs there_held was consistent

  -- the object's cache is as before, or its slabs are others, which spare the object
  pub data SparesIt : Type 0 where
    kept : checked_of after held.cache ≡ checked_of s held.cache → SparesIt
    swapped : (slabs rest : CheckedState) → checked_of s held.cache ≡ Some slabs → checked_of after held.cache ≡ Some rest → SparesSlot slabs rest (slot_of_held held) → SparesIt

  -- the slabs of one cache are others
  swapped-it : (cache : ℕ) (slabs rest : CheckedState) → Swaps s cache slabs rest after → (held.cache ≡ cache → (was : checked_of s held.cache ≡ Some slabs) → SparesSlot slabs rest (slot_of_held held)) → SparesIt
  swapped-it cache slabs rest swaps spares = elim (cases_eq held.cache cache) [
    | inl mine ↦
        let was : checked_of s held.cache ≡ Some slabs = ap (checked_of s) mine ∙ swaps.was in
        let now : checked_of after held.cache ≡ Some rest = ap (checked_of after) mine ∙ ap (λ (l : List (Option CheckedState)). get_or l cache None) swaps.now ∙ get_or-set_same s.checked cache (Some rest) None (inside-of s.checked cache slabs swaps.was) in
        swapped slabs rest was now (spares mine was)
    | inr differ ↦ kept (ap (λ (l : List (Option CheckedState)). get_or l held.cache None) swaps.now ∙ get_or-set_other s.checked cache held.cache (Some rest) None differ)
  ]

  -- a slab that is taken out has no other object
  out-spares : (slabs mid rest : CheckedState) (taken : Slot) (limit : ℕ) (run : Option SlabRun) → IsSound slabs → IsUsed slabs taken → IsUsed slabs (slot_of_held held) → (held.frame ≡ taken.frame → held.index ≡ taken.index → ⊥)
      → mid ≡ with_taken slabs taken → TakesEmpty mid taken.frame limit run rest → SparesSlot slabs rest (slot_of_held held)
  out-spares slabs mid rest taken limit run sound used mine differ is out = by run out
    where
      first : SparesSlot slabs mid (slot_of_held held)
      first = subst (λ (c : CheckedState). SparesSlot slabs c (slot_of_held held)) (sym is) (back-spares slabs taken (slot_of_held held) sound used differ)

      old : SlabState
      old = checked_slab slabs taken.frame

      -- not all of its objects are free where another is used
      busy : held.frame ≡ taken.frame → length (checked_slab mid taken.frame).free ≡ objects_in (checked_slab mid taken.frame) → ⊥
      busy frame all =
          let states : List ObjectState = set old.states taken.index Free in
          let new : checked_slab mid taken.frame ≡ slab_with_taken slabs.layout slabs.flags old taken.index =
          ap (λ (c : CheckedState). checked_slab c taken.frame) is ∙ slab_at-set slabs.slabs taken.frame (slab_with_taken slabs.layout slabs.flags old taken.index) (omega (arith, frame-inside slabs taken.frame sound (used-some slabs taken sound used), sound.frames)) in
          let free : length (checked_slab mid taken.frame).free ≡ length old.free + 1 = ap (λ (slab : SlabState). length slab.free) new ∙ omega arith in
          let objects : objects_in (checked_slab mid taken.frame) ≡ length states = ap (λ (slab : SlabState). objects_in slab) new in
          let there : slice_get old.states held.index ≡ Some Used = ap (λ f. slice_get (checked_slab slabs f).states held.index) (sym frame) ∙ mine in
          let still : slice_get states held.index ≡ Some Used = slice_get-other old.states taken.index held.index Free (differ frame) ∙ there in
          let within : held.index < length states = slice_get_within states held.index Used still in
          let is_used : is_free (get_or states held.index Aside) ≡ false = ap is_free (got states held.index Used still) in
          let more = count-set is_free old.states taken.index Free Aside (used-object slabs taken sound used) in
          let was : one_if (is_free (get_or old.states taken.index Aside)) ≡ 0 = ap (λ (x : ObjectState). one_if (is_free x)) (used-state slabs taken sound used) in
          let less = count_by-lt-length is_free states held.index Aside within is_used in
          omega (arith, all, free, objects, more, was, less, (used-slab slabs taken sound used).free.count)

      by : (run : Option SlabRun) → TakesEmpty mid taken.frame limit run rest → SparesSlot slabs rest (slot_of_held held)
      by None out = subst (λ (c : CheckedState). SparesSlot slabs c (slot_of_held held)) (sym out.1) first
      by (Some run) out = elim (cases_eq held.frame taken.frame) [
        | inl mine_too ↦ absurd (busy mine_too out.0.all_free)
        | inr away ↦
            let second : SparesSlot mid (without_slab mid taken.frame) (slot_of_held held) = record {
              layout = refl;
              flags = refl;
              slab = subst (λ (x : SlabState). Spares mid.layout.size (checked_slab mid held.frame) x held.index) (sym (slab-other mid taken.frame None held.frame away)) (spares-same mid.layout.size (checked_slab mid held.frame) held.index);
            } in
            subst (λ (c : CheckedState). SparesSlot slabs c (slot_of_held held)) (sym out.2) (slot-then slabs mid (without_slab mid taken.frame) (slot_of_held held) first second)
      ]

  pub spares-it : Slabs s event answer after → ((object : ℕ) → event.act ≡ act.Free object → other ≢ object) → ((object : ℕ) (offset : ℤ) (byte : ℕ) → event.act ≡ act.Poke object offset byte → ¬ IsNamed s event.worker object held)
      → ((object place value : ℕ) → event.act ≡ act.Write place object value → ⊥) → SparesIt
  spares-it (same is) free poke write = kept (ap (λ (l : List (Option CheckedState)). get_or l held.cache None) is)
  spares-it (gave cache slabs rest found swaps asked) free poke write =
      swapped-it cache slabs rest swaps (λ mine was. gives-spares slabs found rest (slot_of_held held) (mine-sound slabs was) asked (mine-used slabs was))
  spares-it (made cache slabs rest run pool live is_live swaps asked finds) free poke write =
      swapped-it cache slabs _ swaps (λ mine was.
      let first = gives-spares slabs give.Empty rest (slot_of_held held) (mine-sound slabs was) asked (mine-used slabs was) in
      let frame_run : SlabRun = record { frame = run.frame; order = run.order } in
      let mid : CheckedState = with_new_slab rest frame_run run.objects in
      let second : SparesSlot rest mid (slot_of_held held) = coming-spares rest frame_run run.objects (slot_of_held held) away in
      let third : SparesSlot mid _ (slot_of_held held) = slot-with mid run.frame _ _ rest.reports (slot_of_held held) (λ same. absurd (away same)) in
      slot-then slabs mid _ (slot_of_held held) (slot-then slabs rest mid (slot_of_held held) first second) third)
    where
      away : held.frame ≢ run.frame
      away e =
          let slab = held-slab s other held there_held consistent in
          let covered : 0 < covered_from held.frame 0 s.slabs = covered-some s held.frame slab.0 slab.1 in
          let free_too : 0 < times run.frame s.pool.free = times-contained run.frame s.pool.free (run-free s.pool live.layout run pool finds) in
          let here : 0 < times held.frame s.pool.free = subst (λ f. 0 < times f s.pool.free) (sym e) free_too in
          omega (arith, covered, here, framed-most s held.frame coherent.framed)
  spares-it (took object mine slabs mid rest limit run asks there swaps takes out) free poke write =
      swapped-it mine.cache slabs rest swaps (λ one was.
      out-spares slabs mid rest (slot_of_held mine) limit run (mine-sound slabs was) (held-used s object mine slabs there swaps.was consistent) (mine-used slabs was)
      (λ frame index. free object asks (one-number s other object held mine there_held there frame index consistent)) takes.1 out)
  spares-it (wrote object place value mine live slabs asks holds within swaps) free poke write = absurd (write object place value asks)
  spares-it (poked_byte object offset byte mine slabs asks is knows within swaps) free poke write =
      swapped-it mine.cache slabs _ swaps (λ one was.
      byte-spares slabs (slot_of_held mine) (slot_of_held held) (nat_abs (place_of slabs.layout offset)) byte (offset-place slabs.layout offset within).0
      (λ frame index. poke object offset byte asks (subst (λ x. MatchOption x ⊥ (λ known. (known.frame ≡ held.frame) × (known.index ≡ held.index))) (sym knows) (sym frame, sym index))))

  -- its slabs before and after, where its cache is checked
  pub slots-of-it : (slabs rest : CheckedState) → checked_of s held.cache ≡ Some slabs → checked_of after held.cache ≡ Some rest → SparesIt → SparesSlot slabs rest (slot_of_held held)
  slots-of-it slabs rest was now (kept still) = subst (λ (c : CheckedState). SparesSlot slabs c (slot_of_held held)) (injected (sym was ∙ sym still ∙ now)) (slot-same slabs (slot_of_held held))
  slots-of-it slabs rest was now (swapped old new was_too now_too spares) =
      subst (λ (c : CheckedState). SparesSlot slabs c (slot_of_held held)) (injected (sym now_too ∙ now)) (subst (λ (c : CheckedState). SparesSlot c new (slot_of_held held)) (injected (sym was_too ∙ was)) spares)

module _ (s : State) (event : Event) (answer : Reply) (after : State) (coherent : IsCoherent s) (other : ℕ) (held : Held) (layout : Layout) (names : Names s other held layout) (word : ℕ) (inside : is_word layout word ≡ true) where
  -- the words of a checked cache
  module _ (slabs : CheckedState) (was : checked_of s held.cache ≡ Some slabs) where
    its-word : IsUsed slabs (slot_of_held held) × (8 * (word + 1) ≤ slabs.layout.object_size)
    its-word = used-word s held layout (record { object = other; here = names.here }) names.live coherent word inside slabs was

    its-sound : IsSound slabs
    its-sound = (slabs-sound s held.cache slabs coherent was).sound

    -- the slabs of its cache are others, and spare it
    spared-word : (rest : CheckedState) → checked_of after held.cache ≡ Some rest → SparesSlot slabs rest (slot_of_held held) → word_of after layout held word ≡ word_of s layout held word
    spared-word rest now spares =
        ap (λ x. option_map_or (λ slabs. slab_word_of slabs (slot_of_held held) word) x (get_or after.memory (word_at layout held word) 0)) now
        ∙ word-spared slabs rest (slot_of_held held) word its-sound.layout spares (used-inside slabs (slot_of_held held) its-sound its-word.0) its-word.1
        ∙ sym (ap (λ x. option_map_or (λ slabs. slab_word_of slabs (slot_of_held held) word) x (get_or s.memory (word_at layout held word) 0)) was)

  -- the cache is as before
  same-word : (x : Option CheckedState) → checked_of s held.cache ≡ x → checked_of after held.cache ≡ x → (x ≡ None → after.memory ≡ s.memory) → word_of after layout held word ≡ word_of s layout held word
  same-word None was now memory =
      ap (λ x. option_map_or (λ slabs. slab_word_of slabs (slot_of_held held) word) x (get_or after.memory (word_at layout held word) 0)) now
      ∙ ap (λ m. get_or m (word_at layout held word) 0) (memory refl)
      ∙ sym (ap (λ x. option_map_or (λ slabs. slab_word_of slabs (slot_of_held held) word) x (get_or s.memory (word_at layout held word) 0)) was)
  same-word (Some slabs) was now memory =
      ap (λ x. option_map_or (λ slabs. slab_word_of slabs (slot_of_held held) word) x (get_or after.memory (word_at layout held word) 0)) now
      ∙ sym (ap (λ x. option_map_or (λ slabs. slab_word_of slabs (slot_of_held held) word) x (get_or s.memory (word_at layout held word) 0)) was)

  words-of-it : after.memory ≡ s.memory → SparesIt s event answer after coherent other held names.here → word_of after layout held word ≡ word_of s layout held word
  words-of-it memory (kept still) = same-word (checked_of s held.cache) refl still (λ none. memory)
  words-of-it memory (swapped slabs rest was now spares) = spared-word slabs was rest now spares

-- ---- an event

-- an event that is no write leaves the words of the frames
memory-kept : (s : State) (event : Event) (answer : Reply) (after : State) → ((object place value : ℕ) → event.act ≡ act.Write place object value → ⊥) → Answers s event event.act answer after → after.memory ≡ s.memory
memory-kept s event answer after no_write answers = by (words-of s (event, answer) after (event-step s event answer after answers))
  where
    by : Words s (event, answer) after → after.memory ≡ s.memory
    by (unwrote memory other) = memory
    by (wrote_word object word value live held asks holds within is now) = absurd (no_write object word value asks)

module _ (s : State) (event : Event) (answer : Reply) (after : State) (coherent : IsCoherent s) (answers : Answers s event event.act answer after) where
  -- the words of an object that the event isn't of
  spared-by : ((object place value : ℕ) → event.act ≡ act.Write place object value → ⊥) → (other word : ℕ) (held : Held) (layout : Layout) → Names s other held layout → is_word layout word ≡ true
      → ((object : ℕ) → event.act ≡ act.Free object → other ≢ object) → ((object : ℕ) (offset : ℤ) (byte : ℕ) → event.act ≡ act.Poke object offset byte → ¬ IsNamed s event.worker object held)
      → word_of after layout held word ≡ word_of s layout held word
  spared-by no_write other word held layout names inside free poke =
      words-of-it s event answer after coherent other held layout names word inside (memory-kept s event answer after no_write answers)
      (spares-it s event answer after coherent other held names.here (event-slabs s event answer after answers) free poke no_write)

  pub spares-by : (a : Act) → event.act ≡ a → SparesWords s event.worker a after
  spares-by (act.Alloc place object) is = λ other word held layout apart names inside.
      spared-by (λ o p v e. alloc-write (sym is ∙ e)) other word held layout names inside (λ o e. absurd (alloc-free (sym is ∙ e))) (λ o f b e. absurd (alloc-poke (sym is ∙ e)))
    where
      alloc-write : {o p v : ℕ} → act.Alloc place object ≡ act.Write p o v → ⊥
      alloc-write e = cc

      alloc-free : {o : ℕ} → act.Alloc place object ≡ act.Free o → ⊥
      alloc-free e = cc

      alloc-poke : {o b : ℕ} {f : ℤ} → act.Alloc place object ≡ act.Poke o f b → ⊥
      alloc-poke e = cc
  spares-by (act.Free object) is = λ other word held layout apart names inside.
      spared-by (λ o p v e. free-write (sym is ∙ e)) other word held layout names inside (λ o e same. apart (same ∙ sym (free-free (sym is ∙ e)))) (λ o f b e. absurd (free-poke (sym is ∙ e)))
    where
      free-write : {o p v : ℕ} → act.Free object ≡ act.Write p o v → ⊥
      free-write e = cc

      free-free : {o : ℕ} → act.Free object ≡ act.Free o → object ≡ o
      free-free e = cc

      free-poke : {o b : ℕ} {f : ℤ} → act.Free object ≡ act.Poke o f b → ⊥
      free-poke e = cc
  spares-by (act.Write word object value) is =
      let done : Answers s event (act.Write word object value) answer after = subst (λ a. Answers s event a answer after) is answers in
      writes-spare s event.worker object word value answer after coherent done
  spares-by (act.Read place object) is = λ other word held layout apart names inside.
      spared-by (λ o p v e. read-write (sym is ∙ e)) other word held layout names inside (λ o e. absurd (read-free (sym is ∙ e))) (λ o f b e. absurd (read-poke (sym is ∙ e)))
    where
      read-write : {o p v : ℕ} → act.Read place object ≡ act.Write p o v → ⊥
      read-write e = cc

      read-free : {o : ℕ} → act.Read place object ≡ act.Free o → ⊥
      read-free e = cc

      read-poke : {o b : ℕ} {f : ℤ} → act.Read place object ≡ act.Poke o f b → ⊥
      read-poke e = cc
  spares-by (act.Poke object offset byte) is = λ other word held layout names hidden inside.
      spared-by (λ o p v e. poke-write (sym is ∙ e)) other word held layout names inside (λ o e. absurd (poke-free (sym is ∙ e))) (λ o f b e named. hidden (subst (λ n. IsNamed s event.worker n held) (sym (poke-poke (sym is ∙ e))) named))
    where
      poke-write : {o p v : ℕ} → act.Poke object offset byte ≡ act.Write p o v → ⊥
      poke-write e = cc

      poke-free : {o : ℕ} → act.Poke object offset byte ≡ act.Free o → ⊥
      poke-free e = cc

      poke-poke : {o b : ℕ} {f : ℤ} → act.Poke object offset byte ≡ act.Poke o f b → object ≡ o
      poke-poke e = cc
  spares-by _ is = tt
