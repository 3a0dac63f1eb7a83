-- Where the words of objects lie: each in its slot, each slot in the frames of its slab.
use Rattle.std.proofs.Common.{◌≡◌, ℕ, zero, suc, ◌+◌, ◌-◌, ◌*◌, ◌/◌, ◌%◌, ◌^◌, ◌<◌, ◌≤◌, true, refl, ap, ◌∙◌, arith, inl, inr}
use Rattle.std.proofs.lemmas.Bool.{cases_eq, le-leb, lt-ltb}
use Rattle.std.proofs.lemmas.Nat.{row_fits, same_from_place}
use Rattle.slub_object_layout.specs.declared.layout.Layout.{Layout}
use Rattle.slub_object_layout.proofs.Slots.{mul-words}
use Rattle.slub_core.specs.Setup.{Setup, IsSetup, pointer_at, word_at}
use Rattle.slub_core.specs.World.{sum_below, in_run}
use Rattle.slub_object_layout.specs.Layout.{IsSized}
use Rattle.slub_core.proofs.Update.{term_le_sum}

-- the word begins in the object's slot
pub record IsWordOf (l : Layout) (f i p : ℕ) : Type 0 where
  pub from : 4096 * f + i * l.size ≤ 8 * p
  pub below : 8 * p < 4096 * f + i * l.size + l.size

eight : (f r p o : ℕ) → r % 8 ≡ 0 → p % 8 ≡ 0 → o % 8 ≡ 0 → 8 * ((f * 4096 + r + p + o) / 8) ≡ f * 4096 + r + p + o
eight f r p o a b c = omega arith

-- so does the free pointer
pub pointer-word : (m : Setup) (cache f i : ℕ) → IsSetup m → m.lives cache ≡ true → IsWordOf (m.layout cache) f i (pointer_at m cache f i)
pointer-word m cache f i setup live =
    let l = m.layout cache in
    let b = setup.layout cache live in
    let whole : 8 * pointer_at m cache f i ≡ f * 4096 + i * l.size + l.left_pad + l.offset = eight f (i * l.size) l.left_pad l.offset (mul-words i l.size b.size_in_words) b.left_pad_in_words b.offset_in_words in
    record { from = omega (arith, whole); below = omega (arith, whole, b.offset, b.left_pad) }

-- and each word of the object
pub word-word : (m : Setup) (cache f i word : ℕ) → IsSetup m → m.lives cache ≡ true → 8 * (word + 1) ≤ (m.layout cache).object_size → IsWordOf (m.layout cache) f i (word_at m cache f i word)
word-word m cache f i word setup live inside =
    let l = m.layout cache in
    let b = setup.layout cache live in
    let whole : 8 * ((f * 4096 + i * l.size + l.left_pad + 0) / 8) ≡ f * 4096 + i * l.size + l.left_pad + 0 = eight f (i * l.size) l.left_pad 0 (mul-words i l.size b.size_in_words) b.left_pad_in_words refl in
    record { from = omega (arith, whole); below = omega (arith, whole, b.inuse.0, b.inuse.1, b.left_pad, inside) }

-- a word is of one object of a slab
pub word-index : (l : Layout) (f i j p : ℕ) → IsWordOf l f i p → IsWordOf l f j p → i ≡ j
word-index l f i j p a b =
    let x : ℕ = 8 * p - 4096 * f - i * l.size in
    let y : ℕ = 8 * p - 4096 * f - j * l.size in
    (same_from_place i x j y l.size (omega (arith, a.from, a.below)) (omega (arith, b.from, b.below)) (omega (arith, a.from, a.below, b.from, b.below))).0

-- the objects of a slab have room in its frames
pub sized-fits : (m : Setup) (cache order objects : ℕ) → IsSetup m → m.lives cache ≡ true → IsSized (m.layout cache) order objects → objects * (m.layout cache).size ≤ 4096 * 2 ^ order
sized-fits m cache order objects setup live (inl e) = rw (e.0, e.1) (setup.layout cache live).objects_fit
sized-fits m cache order objects setup live (inr e) = rw (e.0, e.1) (setup.layout cache live).min_objects_fit

pub word-frame : (l : Layout) (f i objects order p : ℕ) → IsWordOf l f i p → i < objects → objects * l.size ≤ 4096 * 2 ^ order → (f ≤ p / 512) × (p / 512 < f + 2 ^ order)
word-frame l f i objects order p is below fits =
    let row : i * l.size + l.size ≤ objects * l.size = row_fits i l.size objects l.size below (omega arith) in
    (omega (arith, is.from), omega (arith, is.below, row, fits))

pub in_run-one : (g f order : ℕ) → f ≤ g → g < f + 2 ^ order → in_run g f order ≡ 1
in_run-one g f order a b = rw (le-leb f g a, lt-ltb g (f + 2 ^ order) b) refl

-- two terms of a sum
pub two_terms : (m : ℕ) (g : ℕ → ℕ) (a b : ℕ) → a < m → b < m → (a ≡ b → ⊥) → g a + g b ≤ sum_below m g
two_terms zero g a b la lb d = absurd (omega arith)
two_terms (suc m) g a b la lb d =
    elim (cases_eq a m) [
      | inl e ↦ let t = term_le_sum m g b (omega (arith, λ (h : m ≡ b). d (e ∙ h))) in let h : g a ≡ g m = ap g e in omega arith
      | inr n ↦ elim (cases_eq b m) [
        | inl e ↦ let t = term_le_sum m g a (omega arith) in let h : g b ≡ g m = ap g e in omega arith
        | inr k ↦ let r = two_terms m g a b (omega arith) (omega arith) d in omega arith
      ]
    ]
