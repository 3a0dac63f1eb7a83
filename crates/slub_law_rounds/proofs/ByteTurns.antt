-- What an event does to a byte of a word of a checked object.
use Rattle.std.proofs.Common.{◌≡◌, ◌≢◌, ℕ, ◌+◌, ◌-◌, ◌*◌, ◌<◌, ◌≤◌, ◌&&◌, Bool, true, false, cond, eqb, List, ◌++◌, length, take, drop, get_or, set, refl, sym, ◌∙◌, ap, subst, arith, Option, Some, None, inl, inr, ◌⊎◌, ℤ, get_or-set_other, get_or-set_same}
use Rattle.std.specs.Prelude.{pos, ◌+ℤ◌, nat_abs}
use Rattle.std.specs.Int.{to_le_bytes, w64}
use Rattle.std.specs.Option.{option_and_then, option_map_or, option_or}
use Rattle.std.specs.Ordering.{int_eq}
use Rattle.std.proofs.Math.IntN.{pos-+ℤ-pos}
use Rattle.std.proofs.lemmas.Bool.{cases_eq, cases_lt, eq-eqb, ne_eqb}
use Rattle.std.proofs.lemmas.Bool.Decides.{Decides-int_eq}
use Rattle.slub_common.proofs.Writes.{inside-of}
use Rattle.slub_trace.specs.declared.event.Act.TheVariants.{Alloc, Free, Write, Poke}
use Rattle.slub_object_layout.specs.declared.layout.Layout.{Layout}
use Rattle.slub_object_layout.specs.Layout.{address_of}
use Rattle.slub_cache_create.specs.declared.caches.Cache.{Cache}
use Rattle.slub_red_zone.specs.declared.checked.Slot.{Slot}
use Rattle.slub_red_zone.specs.Sound.{IsSound}
use Rattle.slub_red_zone.specs.State.{CheckedState, IsUsed, SlabState, slab_of as checked_slab}
use Rattle.slub_red_zone.specs.Steps.{IsOffset, place_of, with_byte, with_word as slab_word, word_place}
use Rattle.slub_red_zone.proofs.Sums.{slab_at-set}
use Rattle.slub_red_zone.proofs.Taken.{used-inside, used-some}
use Rattle.slub_red_zone.proofs.Whole.{frame-inside}
use Rattle.slub_trace.specs.declared.reply.Reply.{Reply}
use Rattle.slub_trace.specs.declared.reply.Reply.TheVariants as reply
use Rattle.slub_trace.specs.Kinds.{is_freed}
use Rattle.slub_lists.specs.declared.lists.Held.{Held}
use Rattle.slub_lists.specs.State.{State}
use Rattle.slub_lists.specs.Alloc.{cache_of, checked_of}
use Rattle.slub_lists.specs.Checked.{slot_of_held, with_checked}
use Rattle.slub_lists.specs.Coherent.{IsCoherent, held_under}
use Rattle.slub_lists.specs.Laws.{Names}
use Rattle.slub_lists.specs.Words.{is_word, known_to, own, with_word, word_at}
use Rattle.slub_lists.proofs.Apart.{one-number}
use Rattle.slub_lists.proofs.Kept.{consistent-of}
use Rattle.slub_lists.proofs.ObjectWords.{own-is, used-word}
use Rattle.slub_slabinfo_text.specs.Lawful.{Answers}
use Rattle.slub_law_rounds.specs.Answered.{Answered, did_free, gave, is_alloc_of, put_after}
use Rattle.slub_law_rounds.proofs.Bytes.{offset-place, other-row, piece-before, piece-behind, piece-here, piece-length, poke-address}
use Rattle.slub_law_rounds.proofs.Reports.{slabs-sound}
use Rattle.slub_law_rounds.proofs.Runs.{gone_under}
use Rattle.slub_law_rounds.proofs.Slabs.{event-slabs}
use Rattle.slub_law_rounds.proofs.Sparing.{SparesSlot, byte-spares, slot-with, slots-of-it, spares-it}
use Rattle.slub_law_rounds.proofs.Steps.{Holds, Step, event-step, flushes, frees, gives, keeps, lacks, nameless, pokes, pokes_not, reads, reads_none, reads_not, refuses, trims, trims_checked, trims_none, wants, writes, writes_none, writes_not}
use Rattle.slub_law_rounds.proofs.Tale.{injected}
use Rattle.slub_law_rounds.proofs.Values.{own-worker}

-- ---- replies that put something

abbrev pub is_put : Reply → Bool
is_put reply.Wrote = true
is_put reply.Poked = true
is_put answer = false

pub same-put : (object word place : ℕ) (last : Option ℕ) (one : Answered) → is_put one.1 ≡ false → gave object one ≡ false → put_after object word place last one ≡ last
same-put object word place last (event, reply.Wrote) other given = absurd (cc)
same-put object word place last (event, reply.Poked) other given = absurd (cc)
same-put object word place last (event, reply.Given address) other given = by (is_alloc_of object event.act) given
  where
    by : (b : Bool) → (b && true) ≡ false → cond b None last ≡ last
    by true is = absurd (cc)
    by false is = refl
same-put object word place last (event, answer) other given = refl

pub given-put : (object word place : ℕ) (last : Option ℕ) (one : Answered) (address : ℕ) → one.1 ≡ reply.Given address → gave object one ≡ true → put_after object word place last one ≡ None
given-put object word place last (event, answer) address is given = rw is (by (is_alloc_of object event.act) (rw is at given))
  where
    by : (b : Bool) → (b && true) ≡ true → cond b None last ≡ None
    by true e = refl
    by false e = absurd (cc)

wrote-put : (object word place other at value : ℕ) (last : Option ℕ) (one : Answered) → one.1 ≡ reply.Wrote → one.0.act ≡ Write at other value
    → put_after object word place last one ≡ cond (eqb other object && eqb at word) (Some (get_or (to_le_bytes w64 value) place 0)) last
wrote-put object word place other at value last (event, answer) is asks = rw (is, asks) refl

poked-put : (object word place other byte : ℕ) (offset : ℤ) (last : Option ℕ) (one : Answered) → one.1 ≡ reply.Poked → one.0.act ≡ Poke other offset byte
    → put_after object word place last one ≡ cond (eqb other object && int_eq offset (pos (8 * word + place))) (Some byte) last
poked-put object word place other byte offset last (event, answer) is asks = rw (is, asks) refl

-- those of another number
pub wrote-other : (object word place other at value : ℕ) (last : Option ℕ) (one : Answered) → one.1 ≡ reply.Wrote → one.0.act ≡ Write at other value → other ≢ object → put_after object word place last one ≡ last
wrote-other object word place other at value last one is asks differ =
    wrote-put object word place other at value last one is asks ∙ ap (λ b. cond (b && eqb at word) (Some (get_or (to_le_bytes w64 value) place 0)) last) (ne_eqb other object differ)

pub poked-other : (object word place other byte : ℕ) (offset : ℤ) (last : Option ℕ) (one : Answered) → one.1 ≡ reply.Poked → one.0.act ≡ Poke other offset byte → other ≢ object → put_after object word place last one ≡ last
poked-other object word place other byte offset last one is asks differ =
    poked-put object word place other byte offset last one is asks ∙ ap (λ b. cond (b && int_eq offset (pos (8 * word + place))) (Some byte) last) (ne_eqb other object differ)

-- ---- kinds of events

-- an event puts nothing and leaves the slabs of checked caches, or asks for an object, or frees one, or writes a word, or pokes a byte
pub data Kind (s : State) (one : Answered) (after : State) : Type 0 where
  puts_none : after.checked ≡ s.checked → is_put one.1 ≡ false → Kind s one after
  asks_one : (place object : ℕ) → one.0.act ≡ Alloc place object → is_put one.1 ≡ false → Kind s one after
  frees_one : (object : ℕ) → one.0.act ≡ Free object → is_freed one.1 ≡ true → is_put one.1 ≡ false → Kind s one after
  puts_word : (object word value : ℕ) (live : Cache) (held : Held) → one.0.act ≡ Write word object value → Holds s one.0.worker object held live → is_word live.layout word ≡ true → one.1 ≡ reply.Wrote
      → after ≡ with_word s live.layout held word value → Kind s one after
  puts_byte : (object : ℕ) (offset : ℤ) (byte : ℕ) (held : Held) (slabs : CheckedState) → one.0.act ≡ Poke object offset byte → known_to s one.0.worker object ≡ Some held → checked_of s held.cache ≡ Some slabs → IsOffset slabs.layout offset
      → one.1 ≡ reply.Poked → after ≡ with_checked s held.cache (with_byte slabs (slot_of_held held) offset byte) → Kind s one after

pub kind-of : (s : State) (one : Answered) (after : State) → Step s one.0 one.1 after → Kind s one after
kind-of s one after (gives place object live held asks names is_live mine is unheld board gone table memory cpus frames dry) = asks_one place object asks (ap is_put is)
kind-of s one after (lacks place object cache live asks names is_live is board gone table memory cpus frames dry) = asks_one place object asks (ap is_put is)
kind-of s one after (wants place object cache live slabs asks names is_live checked is kept) = asks_one place object asks (ap is_put is)
kind-of s one after (nameless place object asks none is now) = asks_one place object asks (ap is_put is)
kind-of s one after (frees object live held asks was may is_live is board gone table memory cpus frames dry) = frees_one object asks (ap is_freed is) (ap is_put is)
kind-of s one after (keeps object damage held slabs asks was may checked taken is now) = puts_none (ap (λ (t : State). t.checked) now) (ap is_put is)
kind-of s one after (refuses object asks why is now) = puts_none (ap (λ (t : State). t.checked) now) (ap is_put is)
kind-of s one after (writes object word value live held asks holds within is now) = puts_word object word value live held asks holds within is now
kind-of s one after (writes_none object word value live held asks holds past is now) = puts_none (ap (λ (t : State). t.checked) now) (ap is_put is)
kind-of s one after (writes_not object word value asks none is now) = puts_none (ap (λ (t : State). t.checked) now) (ap is_put is)
kind-of s one after (reads object word live held asks holds within is now) = puts_none (ap (λ (t : State). t.checked) now) (ap is_put is)
kind-of s one after (reads_none object word live held asks holds past is now) = puts_none (ap (λ (t : State). t.checked) now) (ap is_put is)
kind-of s one after (reads_not object word asks none is now) = puts_none (ap (λ (t : State). t.checked) now) (ap is_put is)
kind-of s one after (pokes object offset byte held slabs asks knows checked inside is now) = puts_byte object offset byte held slabs asks knows checked inside is now
kind-of s one after (trims place cache slabs asks names unchecked is kept same_slabs) = puts_none same_slabs (ap is_put is)
kind-of s one after (trims_checked place cache slabs asks names checked is now) = puts_none (ap (λ (t : State). t.checked) now) (ap is_put is)
kind-of s one after (trims_none place asks none is now) = puts_none (ap (λ (t : State). t.checked) now) (ap is_put is)
kind-of s one after (flushes slabs asks is kept same_slabs) = puts_none same_slabs (ap is_put is)
kind-of s one after (pokes_not object offset byte asks why now) = puts_none (ap (λ (t : State). t.checked) now) (elim why [
  | inl is ↦ ap is_put is
  | inr rest ↦ elim rest [ inl is ↦ ap is_put is | inr is ↦ ap is_put is ]
])

-- whom a poke is of
pub known-is : (s : State) (worker object : ℕ) (held : Held) → known_to s worker object ≡ Some held
    → ((held_under s object ≡ Some held) × (held.worker ≡ Some worker)) ⊎ ((gone_under s object ≡ Some held) × (held.worker ≡ Some worker))
known-is s worker object held knows = by (option_and_then (own worker) (held_under s object)) refl knows
  where
    by : (x : Option Held) → option_and_then (own worker) (held_under s object) ≡ x → option_or x (option_and_then (own worker) (gone_under s object)) ≡ Some held
        → ((held_under s object ≡ Some held) × (held.worker ≡ Some worker)) ⊎ ((gone_under s object ≡ Some held) × (held.worker ≡ Some worker))
    by None e knows = inr (own-is worker (gone_under s object) held knows, own-worker worker (gone_under s object) held knows)
    by (Some mine) e knows = inl (own-is worker (held_under s object) held (e ∙ knows), own-worker worker (held_under s object) held (e ∙ knows))

-- ---- the bytes of one slab

-- a byte of a word of the object at this slot
abbrev pub byte-in : Layout → CheckedState → Held → ℕ → ℕ → ℕ
byte-in layout slabs held word place = get_or (checked_slab slabs held.frame).bytes (held.index * layout.size + (layout.left_pad + (8 * word + place))) 0

-- a word of another slot is written
other-word : (s : CheckedState) (at slot : Slot) (word value : ℕ) → IsSound s → IsUsed s at → 8 * (word + 1) ≤ s.layout.object_size → (slot.frame ≡ at.frame → slot.index ≡ at.index → ⊥) → SparesSlot s (slab_word s at word value) slot
other-word s at slot word value sound used ends differ =
    slot-with s at.frame _ s.listed s.reports slot (λ same. record {
      used = λ used. used;
      long = piece-length slab.bytes (to_le_bytes w64 value) (word_place s.layout at.index word) 8 refl fits;
      bytes = λ p within. bytes same p within;
    })
  where
    slab : SlabState
    slab = checked_slab s at.frame

    fits : word_place s.layout at.index word + 8 ≤ length slab.bytes
    fits = omega (arith, ends, used-inside s at sound used, sound.layout.bounds.inuse.0, sound.layout.bounds.inuse.1, sound.layout.bounds.left_pad)

    bytes : slot.frame ≡ at.frame → (p : ℕ) → p < s.layout.size
        → get_or (take (word_place s.layout at.index word) slab.bytes ++ to_le_bytes w64 value ++ drop (word_place s.layout at.index word + 8) slab.bytes) (slot.index * s.layout.size + p) 0 ≡ get_or slab.bytes (slot.index * s.layout.size + p) 0
    bytes same p within = elim (other-row s.layout.size at.index slot.index 0 p (λ e. differ same (sym e)) (omega (arith, sound.layout.bounds.size.0)) within) [
      | inl before ↦ piece-before slab.bytes (to_le_bytes w64 value) (word_place s.layout at.index word) 8 (slot.index * s.layout.size + p) fits (omega (arith, before))
      | inr behind ↦ piece-behind slab.bytes (to_le_bytes w64 value) (word_place s.layout at.index word) 8 (slot.index * s.layout.size + p) refl fits
          (omega (arith, behind, ends, sound.layout.bounds.inuse.0, sound.layout.bounds.inuse.1, sound.layout.bounds.left_pad))
    ]

-- the word itself, and another of the object
module _ (s : CheckedState) (held : Held) (word value place : ℕ) (sound : IsSound s) (used : IsUsed s (slot_of_held held)) (ends : 8 * (word + 1) ≤ s.layout.object_size) (below : place < 8) where
  abbrev was-slab : SlabState
  was-slab = checked_slab s held.frame

  now-slab : checked_slab (slab_word s (slot_of_held held) word value) held.frame
      ≡ record was-slab { bytes = take (word_place s.layout held.index word) was-slab.bytes ++ to_le_bytes w64 value ++ drop (word_place s.layout held.index word + 8) was-slab.bytes }
  now-slab = slab_at-set s.slabs held.frame _ (omega (arith, frame-inside s held.frame sound (used-some s (slot_of_held held) sound used), sound.frames))

  fits : word_place s.layout held.index word + 8 ≤ length was-slab.bytes
  fits = omega (arith, ends, used-inside s (slot_of_held held) sound used, sound.layout.bounds.inuse.0, sound.layout.bounds.inuse.1, sound.layout.bounds.left_pad)

  own-word : byte-in s.layout (slab_word s (slot_of_held held) word value) held word place ≡ get_or (to_le_bytes w64 value) place 0
  own-word =
      ap (λ (slab : SlabState). get_or slab.bytes (held.index * s.layout.size + (s.layout.left_pad + (8 * word + place))) 0) now-slab
      ∙ piece-here was-slab.bytes (to_le_bytes w64 value) (word_place s.layout held.index word) 8 (held.index * s.layout.size + (s.layout.left_pad + (8 * word + place))) refl fits (omega arith) (omega (arith, below))
      ∙ ap (λ n. get_or (to_le_bytes w64 value) n 0) (let e : held.index * s.layout.size + (s.layout.left_pad + (8 * word + place)) - word_place s.layout held.index word ≡ place = omega arith in e)

  next-word : (other : ℕ) → word ≢ other → byte-in s.layout (slab_word s (slot_of_held held) word value) held other place ≡ byte-in s.layout s held other place
  next-word other differ =
      ap (λ (slab : SlabState). get_or slab.bytes (held.index * s.layout.size + (s.layout.left_pad + (8 * other + place))) 0) now-slab ∙ elim (cases_lt other word) [
        | inl less ↦ piece-before was-slab.bytes (to_le_bytes w64 value) (word_place s.layout held.index word) 8 (held.index * s.layout.size + (s.layout.left_pad + (8 * other + place))) fits (omega (arith, less, below))
        | inr more ↦ piece-behind was-slab.bytes (to_le_bytes w64 value) (word_place s.layout held.index word) 8 (held.index * s.layout.size + (s.layout.left_pad + (8 * other + place))) refl fits
            (let after : word + 1 ≤ other = omega (arith, more, differ) in omega (arith, after))
      ]

-- a byte of the object's slot is poked
module _ (s : CheckedState) (known held : Held) (offset : ℤ) (byte word place : ℕ) (sound : IsSound s) (used : IsUsed s (slot_of_held held)) (ends : 8 * (word + 1) ≤ s.layout.object_size) (below : place < 8)
    (inside : IsOffset s.layout offset) (frame : known.frame ≡ held.frame) (index : known.index ≡ held.index) where
  abbrev at : ℕ
  at = nat_abs (place_of s.layout offset)

  now-byte : byte-in s.layout (with_byte s (slot_of_held known) offset byte) held word place
      ≡ get_or (set (checked_slab s held.frame).bytes (held.index * s.layout.size + at) byte) (held.index * s.layout.size + (s.layout.left_pad + (8 * word + place))) 0
  now-byte =
      ap (λ (slab : SlabState). get_or slab.bytes (held.index * s.layout.size + (s.layout.left_pad + (8 * word + place))) 0)
      (ap (λ f. checked_slab (with_byte s (record { frame = f; index = known.index }) offset byte) held.frame) frame
      ∙ ap (λ i. checked_slab (with_byte s (record { frame = held.frame; index = i }) offset byte) held.frame) index
      ∙ slab_at-set s.slabs held.frame _ (omega (arith, frame-inside s held.frame sound (used-some s (slot_of_held held) sound used), sound.frames)))

  hit-byte : at ≡ s.layout.left_pad + (8 * word + place) → byte-in s.layout (with_byte s (slot_of_held known) offset byte) held word place ≡ byte
  hit-byte same =
      now-byte ∙ ap (λ n. get_or (set (checked_slab s held.frame).bytes (held.index * s.layout.size + at) byte) (held.index * s.layout.size + n) 0) (sym same)
      ∙ get_or-set_same (checked_slab s held.frame).bytes (held.index * s.layout.size + at) byte 0
      (omega (arith, used-inside s (slot_of_held held) sound used, (offset-place s.layout offset inside).0))

  missed-byte : at ≢ s.layout.left_pad + (8 * word + place) → byte-in s.layout (with_byte s (slot_of_held known) offset byte) held word place ≡ byte-in s.layout s held word place
  missed-byte differ =
      now-byte ∙ get_or-set_other (checked_slab s held.frame).bytes (held.index * s.layout.size + at) (held.index * s.layout.size + (s.layout.left_pad + (8 * word + place))) byte 0
      (λ e. differ (omega (arith, e)))

  -- where the byte is hit
  hit-address : at ≡ s.layout.left_pad + (8 * word + place) → pos (address_of known.frame known.index s.layout) +ℤ offset ≡ pos (address_of held.frame held.index s.layout + (8 * word + place))
  hit-address same =
      poke-address s.layout known.frame known.index offset inside ∙ ap pos
      (ap (λ f. f * 4096 + known.index * s.layout.size + at) frame ∙ ap (λ i. held.frame * 4096 + i * s.layout.size + at) index ∙ omega (arith, same))

-- ---- one byte

-- the offset of a place
same-offset : (a n : ℕ) (offset : ℤ) → pos (a + n) ≡ pos a +ℤ offset → offset ≡ pos n
same-offset a n offset is = grind (arith, is)

-- what an event does to a byte of a word of the object under a number
pub data ByteTurn (s : State) (one : Answered) (object : ℕ) (held : Held) (slabs rest : CheckedState) (word place : ℕ) : Type 0 where
  -- nothing
  still : byte-in slabs.layout rest held word place ≡ byte-in slabs.layout slabs held word place → ((last : Option ℕ) → put_after object word place last one ≡ last) → ByteTurn s one object held slabs rest word place
  -- its worker puts it
  puts : (byte : ℕ) → held.worker ≡ Some one.0.worker → byte-in slabs.layout rest held word place ≡ byte → ((last : Option ℕ) → put_after object word place last one ≡ Some byte) → ByteTurn s one object held slabs rest word place
  -- it is poked under another number
  under : (other : ℕ) (offset : ℤ) (known : Held) → other ≢ object → one.0.act ≡ Poke other offset (byte-in slabs.layout rest held word place) → one.1 ≡ reply.Poked → known_to s one.0.worker other ≡ Some known → known.cache ≡ held.cache
      → pos (address_of known.frame known.index slabs.layout) +ℤ offset ≡ pos (address_of held.frame held.index slabs.layout + (8 * word + place))
      → ((last : Option ℕ) → put_after object word place last one ≡ last) → ByteTurn s one object held slabs rest word place

module _ (s : State) (one : Answered) (after : State) (coherent : IsCoherent s) (answers : Answers s one.0 one.0.act one.1 after) (object : ℕ) (held : Held) (live : Cache) (slabs rest : CheckedState)
    (there : held_under s object ≡ Some held) (gone : gone_under s object ≡ None) (given : gave object one ≡ false) (unfreed : did_free object one ≡ false)
    (is_live : cache_of s held.cache ≡ Some live) (was : checked_of s held.cache ≡ Some slabs) (now : checked_of after held.cache ≡ Some rest) (word place : ℕ) (within : is_word live.layout word ≡ true) (below : place < 8) where
  -- the layout stays, and this happens to the byte
  abbrev Turned : Type 0
  Turned = (rest.layout ≡ slabs.layout) × ByteTurn s one object held slabs rest word place

  names : Names s object held live.layout
  names = record { here = there; live = rw is_live refl }

  used : IsUsed slabs (slot_of_held held) × (8 * (word + 1) ≤ slabs.layout.object_size)
  used = used-word s held live.layout (record { object = object; here = there }) names.live coherent word within slabs was

  sound : IsSound slabs
  sound = (slabs-sound s held.cache slabs coherent was).sound

  spared : ((last : Option ℕ) → put_after object word place last one ≡ last) → SparesSlot slabs rest (slot_of_held held) → Turned
  spared put spares = (
    spares.layout,
    still (spares.slab.bytes (slabs.layout.left_pad + (8 * word + place)) (omega (arith, used.1, below, sound.layout.bounds.inuse.0, sound.layout.bounds.inuse.1, sound.layout.bounds.left_pad))) put,
  )

  unchanged : ((last : Option ℕ) → put_after object word place last one ≡ last) → after.checked ≡ s.checked → Turned
  unchanged put same =
      let is : slabs ≡ rest = injected (sym was ∙ ap (λ (l : List (Option CheckedState)). get_or l held.cache None) (sym same) ∙ now) in
      (ap (λ (c : CheckedState). c.layout) (sym is), still (ap (λ (c : CheckedState). byte-in slabs.layout c held word place) (sym is)) put)

  no-put : is_put one.1 ≡ false → (last : Option ℕ) → put_after object word place last one ≡ last
  no-put is last = same-put object word place last one is given

  -- the slabs of one cache are others
  module _ (cache : ℕ) (old new : CheckedState) (had : checked_of s cache ≡ Some old) (set_now : after ≡ with_checked s cache new) where
    not-here : held.cache ≢ cache → ((last : Option ℕ) → put_after object word place last one ≡ last) → Turned
    not-here differ put =
        let same : checked_of after held.cache ≡ checked_of s held.cache = ap (λ (t : State). checked_of t held.cache) set_now ∙ get_or-set_other s.checked cache held.cache (Some new) None differ in
        let is : slabs ≡ rest = injected (sym was ∙ sym same ∙ now) in
        (ap (λ (c : CheckedState). c.layout) (sym is), still (ap (λ (c : CheckedState). byte-in slabs.layout c held word place) (sym is)) put)

    old-is : held.cache ≡ cache → old ≡ slabs
    old-is same = injected (sym had ∙ ap (checked_of s) (sym same) ∙ was)

    new-is : held.cache ≡ cache → new ≡ rest
    new-is same =
        injected (sym (ap (λ (t : State). checked_of t cache) set_now ∙ get_or-set_same s.checked cache (Some new) None (inside-of s.checked cache old had)) ∙ ap (checked_of after) (sym same) ∙ now)

  -- a word is written
  module _ (other at value : ℕ) (owner : Cache) (mine : Held) (asks : one.0.act ≡ Write at other value) (holds : Holds s one.0.worker other mine owner) (fits : is_word owner.layout at ≡ true) (is : one.1 ≡ reply.Wrote)
      (written : after ≡ with_word s owner.layout mine at value) where
    mine-there : held_under s other ≡ Some mine
    mine-there = own-is one.0.worker (held_under s other) mine holds.here

    put-is : (last : Option ℕ) → put_after object word place last one ≡ cond (eqb other object && eqb at word) (Some (get_or (to_le_bytes w64 value) place 0)) last
    put-is last = wrote-put object word place other at value last one is asks

    -- the object's slabs are others
    of-slabs : (old : CheckedState) → checked_of s mine.cache ≡ Some old → after ≡ with_checked s mine.cache (slab_word old (slot_of_held mine) at value) → Turned
    of-slabs old had set_now = elim (cases_eq other object) [
      | inl same ↦
          let one_held : mine ≡ held = injected (sym mine-there ∙ ap (held_under s) same ∙ there) in
          let here : held.cache ≡ mine.cache = ap (λ (h : Held). h.cache) (sym one_held) in
          let old_is : old ≡ slabs = old-is mine.cache old (slab_word old (slot_of_held mine) at value) had set_now here in
          let rest_is : rest ≡ slab_word slabs (slot_of_held held) at value =
          sym (new-is mine.cache old (slab_word old (slot_of_held mine) at value) had set_now here) ∙ ap (λ (c : CheckedState). slab_word c (slot_of_held mine) at value) old_is ∙ ap (λ (h : Held). slab_word slabs (slot_of_held h) at value) one_held in
          let at_ends : 8 * (at + 1) ≤ slabs.layout.object_size =
          (used-word s mine owner.layout (record { object = other; here = mine-there }) (rw holds.cache refl) coherent at fits slabs (had ∙ ap Some old_is)).1 in (
            ap (λ (c : CheckedState). c.layout) rest_is,
            elim (cases_eq at word) [
              | inl hit ↦
                  puts (get_or (to_le_bytes w64 value) place 0)
                  (ap (λ (h : Held). h.worker) (sym one_held) ∙ own-worker one.0.worker (held_under s other) mine holds.here)
                  (ap (λ (c : CheckedState). byte-in slabs.layout c held word place) rest_is
                  ∙ ap (λ w. byte-in slabs.layout (slab_word slabs (slot_of_held held) at value) held w place) (sym hit)
                  ∙ own-word slabs held at value place sound used.0 at_ends below)
                  (λ last. put-is last ∙ ap (λ b. cond (b && eqb at word) (Some (get_or (to_le_bytes w64 value) place 0)) last) (eq-eqb other object same)
                  ∙ ap (λ b. cond b (Some (get_or (to_le_bytes w64 value) place 0)) last) (eq-eqb at word hit))
              | inr missed ↦
                  still (ap (λ (c : CheckedState). byte-in slabs.layout c held word place) rest_is ∙ next-word slabs held at value place sound used.0 at_ends below word missed)
                  (λ last. put-is last ∙ ap (λ b. cond (eqb other object && b) (Some (get_or (to_le_bytes w64 value) place 0)) last) (ne_eqb at word missed) ∙ no (eqb other object) last)
            ],
          )
      | inr differ ↦ elim (cases_eq held.cache mine.cache) [
        | inr away ↦ not-here mine.cache old (slab_word old (slot_of_held mine) at value) had set_now away (put-other differ)
        | inl here ↦
            let old_is : old ≡ slabs = old-is mine.cache old (slab_word old (slot_of_held mine) at value) had set_now here in
            let rest_is : slab_word slabs (slot_of_held mine) at value ≡ rest =
            ap (λ (c : CheckedState). slab_word c (slot_of_held mine) at value) (sym old_is) ∙ new-is mine.cache old (slab_word old (slot_of_held mine) at value) had set_now here in
            let its = used-word s mine owner.layout (record { object = other; here = mine-there }) (rw holds.cache refl) coherent at fits slabs (had ∙ ap Some old_is) in
            spared (put-other differ)
            (subst (λ (c : CheckedState). SparesSlot slabs c (slot_of_held held)) rest_is
            (other-word slabs (slot_of_held mine) (slot_of_held held) at value sound its.0 its.1
            (λ frame index. differ (sym (one-number s object other held mine there mine-there frame index (consistent-of s coherent))))))
      ]
    ]
      where
        no : (b : Bool) (last : Option ℕ) → cond (b && false) (Some (get_or (to_le_bytes w64 value) place 0)) last ≡ last
        no true last = refl
        no false last = refl

        put-other : other ≢ object → (last : Option ℕ) → put_after object word place last one ≡ last
        put-other differ last = wrote-other object word place other at value last one is asks differ

    by-word : (x : Option CheckedState) → checked_of s mine.cache ≡ x → Turned
    by-word None none =
        let set_now : after ≡ record s { memory = set s.memory (word_at owner.layout mine at) value } =
        written ∙ ap (λ x. option_map_or (λ slabs. with_checked s mine.cache (slab_word slabs (slot_of_held mine) at value)) x (record s { memory = set s.memory (word_at owner.layout mine at) value })) none in
        unchanged put-other (ap (λ (t : State). t.checked) set_now)
      where
        differ : other ≢ object
        differ same =
            let one_held : mine ≡ held = injected (sym mine-there ∙ ap (held_under s) same ∙ there) in
            (let never : None ≡ Some slabs = sym none ∙ ap (λ (h : Held). checked_of s h.cache) one_held ∙ was in cc)

        put-other : (last : Option ℕ) → put_after object word place last one ≡ last
        put-other last = wrote-other object word place other at value last one is asks differ
    by-word (Some old) had =
        of-slabs old had (written ∙ ap (λ x. option_map_or (λ slabs. with_checked s mine.cache (slab_word slabs (slot_of_held mine) at value)) x (record s { memory = set s.memory (word_at owner.layout mine at) value })) had)

  -- a byte is poked
  module _ (other : ℕ) (offset : ℤ) (byte : ℕ) (known : Held) (old : CheckedState) (asks : one.0.act ≡ Poke other offset byte) (knows : known_to s one.0.worker other ≡ Some known) (had : checked_of s known.cache ≡ Some old)
      (inside_old : IsOffset old.layout offset) (is : one.1 ≡ reply.Poked) (set_now : after ≡ with_checked s known.cache (with_byte old (slot_of_held known) offset byte)) where
    poke-is : (last : Option ℕ) → put_after object word place last one ≡ cond (eqb other object && int_eq offset (pos (8 * word + place))) (Some byte) last
    poke-is last = poked-put object word place other byte offset last one is asks

    poke-other : other ≢ object → (last : Option ℕ) → put_after object word place last one ≡ last
    poke-other differ last = poked-other object word place other byte offset last one is asks differ

    -- in the same cache
    module _ (here : held.cache ≡ known.cache) where
      was-old : old ≡ slabs
      was-old = old-is known.cache old (with_byte old (slot_of_held known) offset byte) had set_now here

      rest-is : with_byte slabs (slot_of_held known) offset byte ≡ rest
      rest-is = ap (λ (c : CheckedState). with_byte c (slot_of_held known) offset byte) (sym was-old) ∙ new-is known.cache old (with_byte old (slot_of_held known) offset byte) had set_now here

      same-layout : rest.layout ≡ slabs.layout
      same-layout = ap (λ (c : CheckedState). c.layout) (sym rest-is)

      inside : IsOffset slabs.layout offset
      inside = subst (λ (c : CheckedState). IsOffset c.layout offset) was-old inside_old

      rest-byte : byte-in slabs.layout rest held word place ≡ byte-in slabs.layout (with_byte slabs (slot_of_held known) offset byte) held word place
      rest-byte = ap (λ (c : CheckedState). byte-in slabs.layout c held word place) (sym rest-is)

      -- another slot
      elsewhere : ((last : Option ℕ) → put_after object word place last one ≡ last) → (held.frame ≡ known.frame → held.index ≡ known.index → ⊥) → Turned
      elsewhere put differ =
          spared put (subst (λ (c : CheckedState). SparesSlot slabs c (slot_of_held held)) rest-is
          (byte-spares slabs (slot_of_held known) (slot_of_held held) (nat_abs (place_of slabs.layout offset)) byte (offset-place slabs.layout offset inside).0 differ))

      of-other : other ≢ object → Turned
      of-other differ = elim (cases_eq known.frame held.frame) [
        | inr away ↦ elsewhere (poke-other differ) (λ frame index. away (sym frame))
        | inl frame ↦ elim (cases_eq known.index held.index) [
          | inr away ↦ elsewhere (poke-other differ) (λ frame index. away (sym index))
          | inl index ↦ elim (cases_eq (nat_abs (place_of slabs.layout offset)) (slabs.layout.left_pad + (8 * word + place))) [
            | inr missed ↦
                (same-layout, still (rest-byte ∙ missed-byte slabs known held offset byte word place sound used.0 used.1 below inside frame index missed) (poke-other differ))
            | inl hit ↦
                let is_byte : byte-in slabs.layout rest held word place ≡ byte = rest-byte ∙ hit-byte slabs known held offset byte word place sound used.0 used.1 below inside frame index hit in (
                  same-layout,
                  under other offset known differ (asks ∙ ap (Poke other offset) (sym is_byte)) is knows (sym here)
                      (hit-address slabs known held offset byte word place sound used.0 used.1 below inside frame index hit) (poke-other differ),
                )
          ]
        ]
      ]

    of-mine : other ≡ object → (held_under s other ≡ Some known) → known.worker ≡ Some one.0.worker → Turned
    of-mine same known_there mine =
        let one_held : known ≡ held = injected (sym known_there ∙ ap (held_under s) same ∙ there) in
        let here : held.cache ≡ known.cache = ap (λ (h : Held). h.cache) (sym one_held) in
        let frame : known.frame ≡ held.frame = ap (λ (h : Held). h.frame) one_held in
        let index : known.index ≡ held.index = ap (λ (h : Held). h.index) one_held in
        let own_poke : (last : Option ℕ) → put_after object word place last one ≡ cond (int_eq offset (pos (8 * word + place))) (Some byte) last =
        λ last. poke-is last ∙ ap (λ b. cond (b && int_eq offset (pos (8 * word + place))) (Some byte) last) (eq-eqb other object same) in
        (same-layout here, by here frame index (ap (λ (h : Held). h.worker) (sym one_held) ∙ mine) own_poke (int_eq offset (pos (8 * word + place))) refl)
      where
        by : (here : held.cache ≡ known.cache) → known.frame ≡ held.frame → known.index ≡ held.index → held.worker ≡ Some one.0.worker
            → ((last : Option ℕ) → put_after object word place last one ≡ cond (int_eq offset (pos (8 * word + place))) (Some byte) last) → (b : Bool) → int_eq offset (pos (8 * word + place)) ≡ b → ByteTurn s one object held slabs rest word place
        by here frame index mine put true hit =
            let offset_is : offset ≡ pos (8 * word + place) = (Decides-int_eq offset (pos (8 * word + place))).0 hit in
            let hits : nat_abs (place_of slabs.layout offset) ≡ slabs.layout.left_pad + (8 * word + place) = ap (λ z. nat_abs (place_of slabs.layout z)) offset_is ∙ ap nat_abs (pos-+ℤ-pos slabs.layout.left_pad (8 * word + place)) in
            puts byte mine (rest-byte here ∙ hit-byte slabs known held offset byte word place sound used.0 used.1 below (inside here) frame index hits)
            (λ last. put last ∙ ap (λ b. cond b (Some byte) last) hit)
        by here frame index mine put false missed =
            still (rest-byte here ∙ missed-byte slabs known held offset byte word place sound used.0 used.1 below (inside here) frame index (λ hits. no-hit hits))
            (λ last. put last ∙ ap (λ b. cond b (Some byte) last) missed)
          where
            no-hit : nat_abs (place_of slabs.layout offset) ≡ slabs.layout.left_pad + (8 * word + place) → ⊥
            no-hit hits =
                let is_place : pos (slabs.layout.left_pad + (8 * word + place)) ≡ place_of slabs.layout offset = ap pos (sym hits) ∙ (offset-place slabs.layout offset (inside here)).1 in
                let offset_is : offset ≡ pos (8 * word + place) = same-offset slabs.layout.left_pad (8 * word + place) offset is_place in
                (let never : true ≡ false = sym ((Decides-int_eq offset (pos (8 * word + place))).1 offset_is) ∙ missed in cc)

    by-byte : Turned
    by-byte = elim (cases_eq other object) [
      | inl same ↦ elim (known-is s one.0.worker other known knows) [
        | inl on_board ↦ of-mine same on_board.0 on_board.1
        | inr freed_before ↦ absurd (let never : None ≡ Some known = sym gone ∙ ap (gone_under s) (sym same) ∙ freed_before.0 in cc)
      ]
      | inr differ ↦ elim (cases_eq held.cache known.cache) [
        | inl here ↦ of-other here differ
        | inr away ↦ not-here known.cache old (with_byte old (slot_of_held known) offset byte) had set_now away (poke-other differ)
      ]
    ]

  pub byte-turn : Turned
  byte-turn = by (kind-of s one after (event-step s one.0 one.1 after answers))
    where
      by : Kind s one after → Turned
      by (puts_none same no_put) = unchanged (no-put no_put) same
      by (asks_one at other asks no_put) =
          spared (no-put no_put) (slots-of-it s one.0 one.1 after coherent object held names.here slabs rest was now
          (spares-it s one.0 one.1 after coherent object held names.here (event-slabs s one.0 one.1 after answers)
          (λ o e. absurd (let never : Alloc at other ≡ Free o = sym asks ∙ e in cc)) (λ o f b e. absurd (let never : Alloc at other ≡ Poke o f b = sym asks ∙ e in cc)) (λ o p v e. (let never : Alloc at other ≡ Write p o v = sym asks ∙ e in cc))))
      by (frees_one other asks is no_put) =
          spared (no-put no_put) (slots-of-it s one.0 one.1 after coherent object held names.here slabs rest was now
          (spares-it s one.0 one.1 after coherent object held names.here (event-slabs s one.0 one.1 after answers)
          (λ o e same. freed-other o e same) (λ o f b e. absurd (let never : Free other ≡ Poke o f b = sym asks ∙ e in cc)) (λ o p v e. (let never : Free other ≡ Write p o v = sym asks ∙ e in cc))))
        where
          freed-other : (o : ℕ) → one.0.act ≡ Free o → object ≡ o → ⊥
          freed-other o e same =
              let did : did_free object one ≡ true = rw (e ∙ ap Free (sym same), is, eq-eqb object object refl) refl in
              (let never : true ≡ false = sym did ∙ unfreed in cc)
      by (puts_word other at value owner mine asks holds fits is written) = by-word other at value owner mine asks holds fits is written (checked_of s mine.cache) refl
      by (puts_byte other offset byte known old asks knows had inside_old is set_now) = by-byte other offset byte known old asks knows had inside_old is set_now
