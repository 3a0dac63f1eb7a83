-- Words of a table, read and copied.
use Rattle.std.proofs.Common.{refl, ◌≡◌, ℕ, ◌+◌, ◌*◌, ◌%◌, ◌^◌, ◌<◌, ◌≤◌, eqb, List, length, get_or, set, map, Option, Some, None, inl, inr, ap, sym, ◌∙◌, subst, arith}
use Rattle.std.specs.Prelude.{nat_lt}
use Rattle.std.specs.List.{range_with_len}
use Rattle.std.proofs.lemmas.Bool.{cases_eq, cases_lt, le-ltb, ne_eqb, eq-eqb, cond-false, cond-true, cond_both}
use Rattle.std.proofs.lemmas.List.{get_or_past, get_or-set_same, get_or-set_other}
use Rattle.std.proofs.lemmas.List.FromFn.{get_or-map-range_with_len, length-map-range_with_len}
use Rattle.slub_words.specs.Words.{cpu_bits, slab_bits}
use Rattle.slub_words.specs.declared.slab.SlabWord.{SlabWord}
use Rattle.slub_cpu_partial.specs.declared.words.ListWord.{ListWord}
use Rattle.slub_cpu_partial.specs.Strings.{list_bits}
use Rattle.slub_lists.specs.declared.lists.Slab.{Slab}
use Rattle.slub_lists.specs.Coherent.{has_object}
use Rattle.slub_core.specs.Setup.{Setup}
use Rattle.slub_core.specs.Words.{cpu_in, slab_in, list_in, cpu_base, slab_base, board_base, list_base, memory_base, link_base}
use Rattle.slub_core.proofs.Packed.{IsSlabFit, slab_in-bits, IsListFit, list_in-bits}
use Rattle.slub_law_alone.specs.Alone.{AreWhole}
use Rattle.slub_core.specs.World.{World, LockValue, word_in, world_from, world_of}
use Rattle.slub_law_opening.specs.Rests.{current_in}

-- what a CPU word says is all of it
pub bits_in : (q : ℕ) → cpu_bits (cpu_in q) ≡ q
unfolding cpu_in
bits_in q = omega arith

pub keeps_small : (a : ℕ) → a < 2 ^ 16 → a % 2 ^ 16 ≡ a
keeps_small a below = omega arith

pub object_once : (i : ℕ) (x : Option Slab) → has_object i x ≤ 1
object_once i None = omega arith
object_once i (Some x) = cond_both (nat_lt i x.objects) 1 0 (λ n. n ≤ 1) (λ e. omega arith) (λ e. omega arith)

-- past its frames the machine has no memory
pub memory_past : (m : Setup) (value : ℕ → LockValue) (words : List ℕ) (p : ℕ) → 512 * m.frames ≤ p → (world_of m value words).memory p ≡ 0
unfolding world_of world_from word_in
memory_past m value words p past = cond-false {A = ℕ} (nat_lt p (512 * m.frames)) _ 0 (le-ltb p (512 * m.frames) past)

-- all words of memory
pub memory_of : World → ℕ → List ℕ
memory_of w n = map w.memory (range_with_len 0 n)

pub copied : (m : Setup) (value : ℕ → LockValue) (words : List ℕ) (p : ℕ) → (world_of m value words).memory p ≡ get_or (memory_of (world_of m value words) (512 * m.frames)) p 0
unfolding memory_of
copied m value words p = elim (cases_lt p (512 * m.frames)) [
  | inl l ↦ sym (get_or-map-range_with_len (world_of m value words).memory 0 (512 * m.frames) p p 0 l (omega arith))
  | inr g ↦ memory_past m value words p g ∙ sym (get_or_past (memory_of (world_of m value words) (512 * m.frames)) p 0 (let e = length-map-range_with_len (world_of m value words).memory 0 (512 * m.frames) in omega arith))
]

pub copied_length : (w : World) (n : ℕ) → length (memory_of w n) ≡ n
unfolding memory_of
copied_length w n = length-map-range_with_len w.memory 0 n

-- a CPU word's frame is the current slab
pub current_frame : (f g : ℕ) → current_in f ≡ Some g → f ≡ g
current_frame f g is = elim (cases_eq f 0) [
  | inl z ↦ absurd (let none = cond-true {A = Option ℕ} (eqb f 0) None (Some f) (eq-eqb f 0 z) in cc (none, is))
  | inr away ↦ injected (sym (cond-false {A = Option ℕ} (eqb f 0) None (Some f) (ne_eqb f 0 away)) ∙ is)
]
  where
    injected : {x y : ℕ} → Some x ≡ Some y → x ≡ y
    injected e = cc

-- ---- words without a bit beside their fields

whole_set : (m : Setup) (words : List ℕ) (i v : ℕ) → ((f : ℕ) → f < m.frames → slab_base + f ≡ i → ⊥) → ((n : ℕ) → n < m.cpu_words → list_base + n ≡ i → ⊥) → AreWhole m words → AreWhole m (set words i v)
whole_set m words i v no_slab no_list whole = record {
  slab = λ f below. subst (λ x. slab_bits (slab_in x) ≡ x) (sym (get_or-set_other words i (slab_base + f) v 0 (no_slab f below))) (whole.slab f below);
  list = λ n below. subst (λ x. list_bits (list_in x) ≡ x) (sym (get_or-set_other words i (list_base + n) v 0 (no_list n below))) (whole.list n below);
}

pub whole_cpu : (m : Setup) (words : List ℕ) (n v : ℕ) → m.cpu_words ≡ 512 → n < 512 → AreWhole m words → AreWhole m (set words (cpu_base + n) v)
whole_cpu m words n v few below whole = whole_set m words (cpu_base + n) v (λ f under e. absurd (omega (arith, below, e))) (λ k under e. absurd (omega (arith, few, under, e))) whole

pub whole_memory : (m : Setup) (words : List ℕ) (p v : ℕ) → m.cpu_words ≡ 512 → 1 ≤ m.objects → AreWhole m words → AreWhole m (set words (memory_base m + p) v)
whole_memory m words p v few some whole = whole_set m words (memory_base m + p) v (λ f under e. absurd (omega (arith, under, some, e))) (λ k under e. absurd (omega (arith, few, under, e))) whole

pub whole_slab : (m : Setup) (words : List ℕ) (f : ℕ) (c : SlabWord) → m.cpu_words ≡ 512 → slab_base + f < length words → IsSlabFit c → AreWhole m words → AreWhole m (set words (slab_base + f) (slab_bits c))
whole_slab m words f c few inside fit whole = record {
  slab = λ g below. elim (cases_eq g f) [
    | inl e ↦ subst (λ x. slab_bits (slab_in x) ≡ x) (sym (ap (λ g. get_or (set words (slab_base + f) (slab_bits c)) (slab_base + g) 0) e ∙ get_or-set_same words (slab_base + f) (slab_bits c) 0 inside)) (ap slab_bits (slab_in-bits c fit))
    | inr away ↦ subst (λ x. slab_bits (slab_in x) ≡ x) (sym (get_or-set_other words (slab_base + f) (slab_base + g) (slab_bits c) 0 (λ e. away (omega (arith, e))))) (whole.slab g below)
  ];
  list = λ n below. subst (λ x. list_bits (list_in x) ≡ x) (sym (get_or-set_other words (slab_base + f) (list_base + n) (slab_bits c) 0 (λ e. absurd (omega (arith, few, below, e))))) (whole.list n below);
}

pub whole_lock : (m : Setup) (words : List ℕ) (n v : ℕ) → n < 33 → AreWhole m words → AreWhole m (set words n v)
whole_lock m words n v below whole = whole_set m words n v (λ f under e. absurd (omega (arith, below, e))) (λ k under e. absurd (omega (arith, below, e))) whole

-- a list word that is taken
pub whole_list : (m : Setup) (words : List ℕ) (n : ℕ) → m.cpu_words ≡ 512 → n < 512 → list_base + n < length words → AreWhole m words → AreWhole m (set words (list_base + n) 0)
unfolding list_in
whole_list m words n few small inside whole = record {
  slab = λ f below. subst (λ x. slab_bits (slab_in x) ≡ x) (sym (get_or-set_other words (list_base + n) (slab_base + f) 0 0 (λ e. absurd (omega (arith, small, e))))) (whole.slab f below);
  list = λ k below. elim (cases_eq k n) [
    | inl e ↦ subst (λ x. list_bits (list_in x) ≡ x) (sym (ap (λ k. get_or (set words (list_base + n) 0) (list_base + k) 0) e ∙ get_or-set_same words (list_base + n) 0 0 inside)) refl
    | inr away ↦ subst (λ x. list_bits (list_in x) ≡ x) (sym (get_or-set_other words (list_base + n) (list_base + k) 0 0 (λ e. away (omega (arith, e))))) (whole.list k below)
  ];
}

-- a CPU word with no slab
pub current_none : (f : ℕ) → current_in f ≡ None → f ≡ 0
current_none f is = elim (cases_eq f 0) [
  | inl z ↦ z
  | inr away ↦ absurd (let some = cond-false {A = Option ℕ} (eqb f 0) None (Some f) (ne_eqb f 0 away) in cc (some, is))
]

pub whole_list_word : (m : Setup) (words : List ℕ) (n : ℕ) (c : ListWord) → m.cpu_words ≡ 512 → n < 512 → list_base + n < length words → IsListFit c → AreWhole m words → AreWhole m (set words (list_base + n) (list_bits c))
whole_list_word m words n c few small inside fit whole = record {
  slab = λ f below. subst (λ x. slab_bits (slab_in x) ≡ x) (sym (get_or-set_other words (list_base + n) (slab_base + f) (list_bits c) 0 (λ e. absurd (omega (arith, small, e))))) (whole.slab f below);
  list = λ k below. elim (cases_eq k n) [
    | inl e ↦ subst (λ x. list_bits (list_in x) ≡ x) (sym (ap (λ k. get_or (set words (list_base + n) (list_bits c)) (list_base + k) 0) e ∙ get_or-set_same words (list_base + n) (list_bits c) 0 inside)) (ap list_bits (list_in-bits c fit))
    | inr away ↦ subst (λ x. list_bits (list_in x) ≡ x) (sym (get_or-set_other words (list_base + n) (list_base + k) (list_bits c) 0 (λ e. away (omega (arith, e))))) (whole.list k below)
  ];
}

pub whole_link : (m : Setup) (words : List ℕ) (f v : ℕ) → m.cpu_words ≡ 512 → 1 ≤ m.objects → AreWhole m words → AreWhole m (set words (link_base m + f) v)
whole_link m words f v few some whole = whole_set m words (link_base m + f) v (λ g under e. absurd (omega (arith, under, some, e))) (λ k under e. absurd (omega (arith, few, under, e))) whole

pub whole_board : (m : Setup) (words : List ℕ) (o v : ℕ) → m.cpu_words ≡ 512 → 1 ≤ o → AreWhole m words → AreWhole m (set words (board_base m + o) v)
whole_board m words o v few some whole = whole_set m words (board_base m + o) v (λ f under e. absurd (omega (arith, under, some, e))) (λ k under e. absurd (omega (arith, few, under, e))) whole
