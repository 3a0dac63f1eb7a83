-- Equal slab words have equal fields.
use Rattle.std.proofs.Common.{◌≡◌, ℕ, ◌+◌, ◌*◌, ◌^◌, ◌<◌, ◌≤◌, Bool, true, false, refl, sym, ◌∙◌, arith, if◌then◌else◌}
use Rattle.slub_words.specs.declared.slab.SlabWord.{SlabWord}
use Rattle.slub_words.specs.Words.{slab_bits, bit_if}

-- a mark as a number
abbrev one_if : Bool → ℕ
one_if mark = if mark then 1 else 0

-- a mark is 0 or 1
one_if-le : (mark : Bool) → one_if mark ≤ 1
one_if-le true = omega arith
one_if-le false = omega arith

-- a mark at its bit is a multiple of that bit
bit_if-one_if : (mark : Bool) (k : ℕ) → bit_if mark k ≡ one_if mark * 2 ^ k
bit_if-one_if true k = omega arith
bit_if-one_if false k = omega arith

-- marks that are one number are equal
marks_same : (a b : Bool) → one_if a ≡ one_if b → a ≡ b
marks_same true true same = refl
marks_same true false same = absurd (omega arith)
marks_same false true same = absurd (omega arith)
marks_same false false same = refl

-- sixteen bits and what stands above them
split : (a a' x x' : ℕ) → a < 2 ^ 16 → a' < 2 ^ 16 → a + x * 2 ^ 16 ≡ a' + x' * 2 ^ 16 → (a ≡ a') × (x ≡ x')
split a a' x x' small small' same = (omega arith, omega arith)

-- two marks and what stands above them
split_marks : (d d' e e' f f' : ℕ) → d ≤ 1 → d' ≤ 1 → e ≤ 1 → e' ≤ 1 → d + e * 2 + f * 2 ^ 8 ≡ d' + e' * 2 + f' * 2 ^ 8 → (d ≡ d') × (e ≡ e') × (f ≡ f')
split_marks d d' e e' f f' p p' q q' same = (omega arith, omega arith, omega arith)

-- slab words with equal fields are equal
same_word : (a b : SlabWord) → a.head ≡ b.head → a.inuse ≡ b.inuse → a.objects ≡ b.objects → a.frozen ≡ b.frozen → a.listed ≡ b.listed → a.cache ≡ b.cache → a ≡ b
same_word a b e1 e2 e3 e4 e5 e6 = λ i. record { head = e1 i; inuse = e2 i; objects = e3 i; frozen = e4 i; listed = e5 i; cache = e6 i }

-- a slab word, taken apart from its low end
nested : (w : SlabWord) → slab_bits w ≡ w.head + (w.inuse + (w.objects + (one_if w.frozen + one_if w.listed * 2 + w.cache * 2 ^ 8) * 2 ^ 16) * 2 ^ 16) * 2 ^ 16
nested w = omega (arith, bit_if-one_if w.frozen 48, bit_if-one_if w.listed 49)

-- slab words that are one number are equal: part by part from the low end
pub slab_words_same : (one other : SlabWord) → one.head < 2 ^ 16 → one.inuse < 2 ^ 16 → one.objects < 2 ^ 16 → other.head < 2 ^ 16 → other.inuse < 2 ^ 16 → other.objects < 2 ^ 16
    → slab_bits one ≡ slab_bits other → one ≡ other
slab_words_same one other h i o h' i' o' same =
    let head = split one.head other.head _ _ h h' (sym (nested one) ∙ same ∙ nested other) in
    let inuse = split one.inuse other.inuse _ _ i i' head.1 in
    let objects = split one.objects other.objects _ _ o o' inuse.1 in
    let marks = split_marks (one_if one.frozen) (one_if other.frozen) (one_if one.listed) (one_if other.listed) one.cache other.cache
    (one_if-le one.frozen) (one_if-le other.frozen) (one_if-le one.listed) (one_if-le other.listed) objects.1 in
    same_word one other head.0 inuse.0 objects.0 (marks_same one.frozen other.frozen marks.0) (marks_same one.listed other.listed marks.1) marks.2
