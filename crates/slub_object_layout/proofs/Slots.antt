-- The numbers of a slot: its alignment, its parts and its size.
use Rattle.std.proofs.Common.{◌≡◌, ℕ, ◌+◌, ◌-◌, ◌*◌, ◌/◌, ◌%◌, ◌<◌, ◌≤◌, ◌⊎◌, Bool, true, false, inl, inr, refl, sym, ◌∙◌, ap, max, if◌then◌else◌, nat_lt, arith}
use Rattle.std.specs.Int.{IsPowerOfTwo}
use Rattle.std.proofs.lemmas.Bool.{cases_lt}
use Rattle.std.proofs.lemmas.Nat.{div-add-mod', mod_below, mul-mod_second}
use Rattle.std.proofs.lemmas.Nat.Gcd.{dvd_of_mod-eq-zero, mod-eq-zero_of_dvd}
use Rattle.std.proofs.Math.Nat.{mul-mod_left, zero-mod, dvd-add, dvd-mul_left_of_dvd}
use Rattle.std.specs.Int.{◌∣◌}
use Rattle.slub_object_layout.specs.declared.layout.Spec.{Spec}
use Rattle.slub_object_layout.specs.Layout.{IsAccepted, align_up, align_down, line_of, alignment_of, inuse_of, offset_of, has_pointer_behind, left_pad_of, slot_of, used_of}
use Rattle.slub_object_layout.proofs.PowersOfTwo.{IsSlotAlign, small_or_words}

-- ---- the alignment

-- a cache line is one of four
record IsLine (line : ℕ) : Type 0 where
  aligned : IsSlotAlign line
  within : line ≤ 64

-- each of the four lines is whole words and divides a frame
line_cases : (above32 above16 above8 : Bool) → IsLine (if above32 then 64 else (if above16 then 32 else (if above8 then 16 else 8)))
line_cases true _ _ = record { aligned = record { from_word = omega arith; words = refl; within = inr (omega arith); divides_frame = refl }; within = omega arith }
line_cases false true _ = record { aligned = record { from_word = omega arith; words = refl; within = inr (omega arith); divides_frame = refl }; within = omega arith }
line_cases false false true = record { aligned = record { from_word = omega arith; words = refl; within = inr (omega arith); divides_frame = refl }; within = omega arith }
line_cases false false false = record { aligned = record { from_word = omega arith; words = refl; within = inr (omega arith); divides_frame = refl }; within = omega arith }

-- so is the line of a cache, or the word in its place
line_is : (lined : Bool) (size : ℕ) → IsLine (if lined then line_of size else 8)
line_is true size = line_cases (nat_lt 32 size) (nat_lt 16 size) (nat_lt 8 size)
line_is false size = line_cases false false false

-- a line is compared with a word
pub same_max : (align line whole : ℕ) → max line 8 ≡ whole → max (max align line) 8 ≡ max (max align whole) 8
same_max align line whole is = omega arith

-- the greater of what is asked for and the line, which are whole words already
rounded : (align line : ℕ) → (align ≤ 4) ⊎ IsSlotAlign align → IsLine line → IsSlotAlign (align_up (max (max align line) 8) 8)
rounded align line (inl few) is =
    let the_line : align_up (max (max align line) 8) 8 ≡ line = omega (arith, is.aligned.from_word, is.aligned.words) in
    rw the_line is.aligned
rounded align line (inr asked) is =
    elim (cases_lt align line) [
      | inl less ↦
          let the_line : align_up (max (max align line) 8) 8 ≡ line = omega (arith, is.aligned.from_word, is.aligned.words) in
          rw the_line is.aligned
      | inr more ↦
          let the_align : align_up (max (max align line) 8) 8 ≡ align = omega (arith, asked.from_word, asked.words) in
          rw the_align asked
    ]

-- what a spec asks for is below a word, or objects can be aligned at it
asked_of : (align : ℕ) → align ≤ 4096 → (align ≡ 0) ⊎ IsPowerOfTwo align → (align ≤ 4) ⊎ IsSlotAlign align
asked_of align within (inl none) = inl (omega (arith, none))
asked_of align within (inr power) = small_or_words align power within

-- objects can be aligned at the alignment of a cache
pub alignment_is : (spec : Spec) → IsAccepted spec → IsSlotAlign (alignment_of spec)
unfolding alignment_of
alignment_is spec accepted =
    rounded spec.align _ (asked_of spec.align accepted.align.0 accepted.align.1) (line_is spec.flags.line spec.size)

-- ---- rounding up

-- rounding up adds less than a
pub align_up-le : (x a : ℕ) → 1 ≤ a → (x ≤ align_up x a) × (align_up x a < x + a)
align_up-le x a some =
    let whole = div-add-mod' (x + (a - 1)) a in
    let rest = mod_below (x + (a - 1)) a some in
    (omega (arith, whole, rest), omega (arith, whole))

-- a multiple of whole words is whole words
pub mul-words : (q a : ℕ) → a % 8 ≡ 0 → q * a % 8 ≡ 0
mul-words q a words =
    let none : q * 0 % 8 ≡ 0 = omega arith in
    sym (mul-mod_second q a 8) ∙ ap (λ (r : ℕ). q * r % 8) words ∙ none

-- a number rounded up to whole words is whole words
align_up-words : (x a : ℕ) → a % 8 ≡ 0 → align_up x a % 8 ≡ 0
align_up-words x a words = mul-words ((x + (a - 1)) / a) a words

-- rounding up gives a multiple of a
pub align_up-mod : (x a : ℕ) → align_up x a % a ≡ 0
align_up-mod x a = mul-mod_left ((x + (a - 1)) / a) a

-- ---- the parts of a slot

-- a word or nothing
abbrev IsWordOrNone : ℕ → Type 0
IsWordOrNone n = (n ≡ 0) ⊎ (n ≡ 8)

-- a word, if wanted, is one of the two
word_or_none : (b : Bool) → IsWordOrNone (if b then 8 else 0)
word_or_none true = inr refl
word_or_none false = inl refl

record IsInuse (size inuse : ℕ) : Type 0 where
  from_word : 8 ≤ inuse
  around : size ≤ inuse
  within : inuse ≤ 16392
  words : inuse % 8 ≡ 0

-- an object rounded up to words, with or without a word more
inuse_is : (size zone : ℕ) → 1 ≤ size → size ≤ 16384 → IsWordOrNone zone → IsInuse size (align_up size 8 + zone)
inuse_is size zone some small (inl none) = record { from_word = omega arith; around = omega arith; within = omega arith; words = omega arith }
inuse_is size zone some small (inr word) = record { from_word = omega arith; around = omega arith; within = omega arith; words = omega arith }

-- the free pointer ends before the end of what stands before the padding
record IsOffset (offset end : ℕ) : Type 0 where
  before : offset + 8 ≤ end
  words : offset % 8 ≡ 0

-- a free pointer behind the object has its own word, and one in the middle a word of the object
offset_is : (behind : Bool) (size inuse : ℕ) → IsInuse size inuse → IsOffset (if behind then inuse else align_down (size / 2) 8) (inuse + (if behind then 8 else 0))
offset_is true size inuse is = record { before = omega arith; words = is.words }
offset_is false size inuse is = record { before = omega arith; words = omega arith }

-- the left red zone is at most a word longer than the alignment
pad_below : (zones : Bool) (a : ℕ) → 1 ≤ a → (if zones then align_up 8 a else 0) < 8 + a
pad_below true a some = (align_up-le 8 a some).1
pad_below false a some = omega arith

-- the left red zone is whole words
pad_in_words : (zones : Bool) (a : ℕ) → a % 8 ≡ 0 → (if zones then align_up 8 a else 0) % 8 ≡ 0
pad_in_words true a words = align_up-words 8 a words
pad_in_words false a words = refl

-- ---- the slot

-- the longest slot has six frames
slot_within : (used pad a : ℕ) → IsSlotAlign a → used ≤ 16408 + pad → pad < 8 + a → align_up used a ≤ 24576
slot_within used pad a is sums little =
    elim is.within [
      | inl whole ↦ let small : used ≤ 20511 = omega arith in rw whole (omega (arith, small))
      | inr half ↦ omega (arith, align_up-le used a (omega (arith, is.from_word)))
    ]

pub record IsSlot (size inuse offset pad slot : ℕ) : Type 0 where
  pub from_a_word : 8 ≤ slot
  pub to_six_frames : slot ≤ 24576
  pub words : slot % 8 ≡ 0
  pub inuse_around : size ≤ inuse
  pub inuse_within : inuse ≤ slot - pad
  pub pad_within : pad ≤ slot
  pub pad_words : pad % 8 ≡ 0
  pub pointer_within : offset + 8 ≤ slot - pad
  pub pointer_words : offset % 8 ≡ 0

-- the parts of a slot, one after another, and the rounding at its end
slot_sizes : (size inuse offset pointer zone pad a : ℕ) → IsInuse size inuse → IsOffset offset (inuse + pointer) → pointer ≤ 8 → zone ≤ 8 → pad < 8 + a → pad % 8 ≡ 0 → IsSlotAlign a
    → IsSlot size inuse offset pad (align_up (inuse + pointer + zone + pad) a)
slot_sizes size inuse offset pointer zone pad a in_use placed p z little pad_word is =
    let above = align_up-le (inuse + pointer + zone + pad) a (omega (arith, is.from_word)) in
    record {
      from_a_word = omega (arith, above, in_use.from_word);
      to_six_frames = slot_within (inuse + pointer + zone + pad) pad a is (omega (arith, in_use.within)) little;
      words = align_up-words (inuse + pointer + zone + pad) a is.words;
      inuse_around = in_use.around;
      inuse_within = omega (arith, above);
      pad_within = omega (arith, above);
      pad_words = pad_word;
      pointer_within = omega (arith, above, placed.before);
      pointer_words = placed.words;
    }

-- a word, if wanted, is at most a word
at_most_word : (b : Bool) → (if b then 8 else 0) ≤ 8
at_most_word true = omega arith
at_most_word false = omega arith

-- the parts of the slot of a spec
pub slot_is : (spec : Spec) → IsAccepted spec → IsSlot spec.size (inuse_of spec) (offset_of spec) (left_pad_of spec) (slot_of spec)
unfolding slot_of used_of inuse_of offset_of left_pad_of
slot_is spec accepted =
    let in_use = inuse_is spec.size _ accepted.size.0 accepted.size.1 (word_or_none _) in
    let aligned = alignment_is spec accepted in
    slot_sizes spec.size (inuse_of spec) (offset_of spec) _ _ (left_pad_of spec) (alignment_of spec) in_use
    (offset_is (has_pointer_behind spec) spec.size (inuse_of spec) in_use)
    (at_most_word (has_pointer_behind spec)) (at_most_word spec.flags.zones)
    (pad_below spec.flags.zones (alignment_of spec) (omega (arith, aligned.from_word)))
    (pad_in_words spec.flags.zones (alignment_of spec) aligned.words) aligned

-- ---- the address

-- each object keeps the alignment of its cache
pub address-mod : (frame index size pad a : ℕ) → 4096 % a ≡ 0 → size % a ≡ 0 → pad % a ≡ 0 → (frame * 4096 + index * size + pad) % a ≡ 0
address-mod frame index size pad a whole slots padded =
    let frames : a ∣ frame * 4096 = dvd-mul_left_of_dvd _ (dvd_of_mod-eq-zero a whole) frame in
    let before : a ∣ index * size = dvd-mul_left_of_dvd _ (dvd_of_mod-eq-zero a slots) index in
    mod-eq-zero_of_dvd a (dvd-add _ (dvd-add _ frames before) (dvd_of_mod-eq-zero a padded))

-- the left red zone is a multiple of the alignment
pub pad-mod : (zones : Bool) (a : ℕ) → (if zones then align_up 8 a else 0) % a ≡ 0
pad-mod true a = align_up-mod 8 a
pad-mod false a = zero-mod a
