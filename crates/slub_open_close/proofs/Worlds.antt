-- What is read of a table of words is the state that it says.
use Rattle.std.proofs.Common.{◌≡◌, ℕ, zero, suc, ◌+◌, ◌-◌, ◌*◌, ◌/◌, ◌%◌, ◌^◌, ◌<◌, ◌≤◌, eqb, cond, false, List, get_or, Option, Some, None, refl, ap, sym, ◌∙◌, subst, arith, inl, inr}
use Rattle.std.specs.Prelude.{nat_lt}
use Rattle.std.specs.Option.{option_or}
use Rattle.std.proofs.lemmas.Bool.{cases_lt, cond-true, cond-false, lt-ltb, le-ltb}
use Rattle.slub_object_layout.specs.declared.layout.Layout.{Layout}
use Rattle.slub_object_layout.specs.Layout.{address_of, order_for}
use Rattle.slub_lists.specs.declared.lists.Slab.{Slab}
use Rattle.slub_core.specs.Setup.{Setup, hardened, pointer_at}
use Rattle.slub_core.specs.Words.{cpu_base, slab_base, board_base, memory_base, link_base, cpu_in, slab_in, board_in, list_in}
use Rattle.slub_core.specs.World.{World, LockValue, world_of, world_from, word_in, board_words, pointer, size_in, order_in, objects_in_values, cache_in_values, order_in_values, objects_at, cache_at, order_at}
use Rattle.slub_core.proofs.StepValues.{word-objects, word-cache, word-order, unworded-cache, unworded-objects}
use Rattle.slub_core.specs.Facts.{Facts, cache_of, pointer_in, found_in}
use Rattle.slub_law_opening.specs.Rests as rests
use Rattle.slub_law_opening.proofs.Slabs.{slab-none, slab-some}
use Rattle.slub_open_close.specs.Reads.{next_in, slab_in_values, slab_or, slab_word_in, cpu_word_in, front_in}

-- ---- words

module _ (m : Setup) (value : ℕ → LockValue) (words : List ℕ) where
  pub cpu-read : (n : ℕ) → n < m.cpu_words → (world_of m value words).cpu n ≡ cpu_word_in words n
  unfolding world_of world_from word_in
  cpu-read n below = ap cpu_in (cond-true (nat_lt n m.cpu_words) (get_or words (cpu_base + n) 0) 0 (lt-ltb n m.cpu_words below))

  pub front-read : (n : ℕ) → n < m.cpu_words → ((world_of m value words).list n).front ≡ front_in words n
  unfolding world_of world_from word_in
  front-read n below = ap (λ x. (list_in x).front) (cond-true (nat_lt n m.cpu_words) (get_or words (33 + n) 0) 0 (lt-ltb n m.cpu_words below))

  pub slab-read : (f : ℕ) → f < m.frames → (world_of m value words).slab f ≡ slab_word_in words f
  unfolding world_of world_from word_in
  slab-read f below = ap slab_in (cond-true (nat_lt f m.frames) (get_or words (slab_base + f) 0) 0 (lt-ltb f m.frames below))

  pub link-read : (f : ℕ) → f < m.frames → (world_of m value words).link f ≡ get_or words (link_base m + f) 0
  unfolding world_of world_from word_in
  link-read f below = cond-true (nat_lt f m.frames) (get_or words (link_base m + f) 0) 0 (lt-ltb f m.frames below)

  pub memory-read : (p : ℕ) → p < 512 * m.frames → (world_of m value words).memory p ≡ get_or words (memory_base m + p) 0
  unfolding world_of world_from word_in
  memory-read p below = cond-true (nat_lt p (512 * m.frames)) (get_or words (memory_base m + p) 0) 0 (lt-ltb p (512 * m.frames) below)

  pub memory-past : (p : ℕ) → 512 * m.frames ≤ p → (world_of m value words).memory p ≡ 0
  unfolding world_of world_from word_in
  memory-past p past = cond-false (nat_lt p (512 * m.frames)) (get_or words (memory_base m + p) 0) 0 (le-ltb p (512 * m.frames) past)

  pub board-read : (o : ℕ) → o < m.objects → (world_of m value words).board o ≡ board_in (cond (eqb o 0) 0 (get_or words (board_base m + o) 0))
  unfolding world_of world_from word_in board_words
  board-read o below = ap (λ x. board_in (cond (eqb o 0) 0 x)) (cond-true (nat_lt o m.objects) (get_or words (board_base m + o) 0) 0 (lt-ltb o m.objects below))

-- ---- free pointers

-- what an object's free pointer leads to, by the facts and by the words of frames
pub next-read : (w : World) (facts : Facts) (memory : List ℕ) → ((cache : ℕ) → (cache_of facts cache).layout ≡ w.setup.layout cache) → ((p : ℕ) → get_or memory p 0 ≡ w.memory p)
    → (cache f i : ℕ) → next_in facts memory cache f (suc i) ≡ pointer w cache f i % 2 ^ 16
next-read w facts memory layouts same cache f i =
    let back : suc i - 1 ≡ i = omega arith in
    let place : pointer_in facts cache f i ≡ pointer_at w.setup cache f i = ap (λ (l : Layout). (address_of f i l + l.offset) / 8) (layouts cache) in
    ap (λ j. found_in facts cache f j (get_or memory (pointer_in facts cache f j) 0)) back
    ∙ ap (λ p. hardened cache p (get_or memory p 0) % 2 ^ 16) place
    ∙ ap (λ x. hardened cache (pointer_at w.setup cache f i) x % 2 ^ 16) (same (pointer_at w.setup cache f i))

-- ---- slabs

values-none : (value : ℕ → LockValue) (n f : ℕ) → objects_in_values value n f ≡ 0 → slab_in_values value n f ≡ None
unfolding slab_in_values
values-none value zero f none = refl
values-none value (suc n) f none = elim (cases_lt 0 (size_in (value n) f)) [
  | inl l ↦ absurd (let e : objects_in_values value (suc n) f ≡ size_in (value n) f = cond-true (nat_lt 0 (size_in (value n) f)) (size_in (value n) f) (objects_in_values value n f) (lt-ltb 0 (size_in (value n) f) l) in omega arith)
  | inr g ↦ (
      let t = le-ltb 0 (size_in (value n) f) g in
      let e : objects_in_values value (suc n) f ≡ objects_in_values value n f = cond-false (nat_lt 0 (size_in (value n) f)) (size_in (value n) f) (objects_in_values value n f) t in
      ap (λ o. option_or o (slab_in_values value n f)) (cond-false {A = Option Slab} (nat_lt 0 (size_in (value n) f)) _ None t) ∙ values-none value n f (sym e ∙ none))
]

abbrev pub found : (ℕ → LockValue) → ℕ → ℕ → Slab
found value n f = record { cache = cache_in_values value n f; order = order_in_values value n f; objects = objects_in_values value n f; frozen = false }

values-some : (value : ℕ → LockValue) (n f : ℕ) → 1 ≤ objects_in_values value n f → slab_in_values value n f ≡ Some (found value n f)
unfolding slab_in_values
values-some value zero f some = absurd (omega arith)
values-some value (suc n) f some = elim (cases_lt 0 (size_in (value n) f)) [
  | inl l ↦ (
      let t = lt-ltb 0 (size_in (value n) f) l in
      ap (λ o. option_or o (slab_in_values value n f)) (cond-true {A = Option Slab} (nat_lt 0 (size_in (value n) f)) _ None t)
      ∙ sym (λ i. Some (record {
        cache = cond-true (nat_lt 0 (size_in (value n) f)) (n - 1) (cache_in_values value n f) t i;
        order = cond-true (nat_lt 0 (size_in (value n) f)) (order_in (value n) f) (order_in_values value n f) t i;
        objects = cond-true (nat_lt 0 (size_in (value n) f)) (size_in (value n) f) (objects_in_values value n f) t i;
        frozen = false;
      })))
  | inr g ↦ (
      let t = le-ltb 0 (size_in (value n) f) g in
      let e : objects_in_values value (suc n) f ≡ objects_in_values value n f = cond-false (nat_lt 0 (size_in (value n) f)) (size_in (value n) f) (objects_in_values value n f) t in
      ap (λ o. option_or o (slab_in_values value n f)) (cond-false {A = Option Slab} (nat_lt 0 (size_in (value n) f)) _ None t)
      ∙ values-some value n f (subst (λ k. 1 ≤ k) e some)
      ∙ sym (λ i. Some (record {
        cache = cond-false (nat_lt 0 (size_in (value n) f)) (n - 1) (cache_in_values value n f) t i;
        order = cond-false (nat_lt 0 (size_in (value n) f)) (order_in (value n) f) (order_in_values value n f) t i;
        objects = e i;
        frozen = false;
      })))
]

-- the slab by its word, else by a value, is the one that is there
pub slab-there : (w : World) (facts : Facts) (f : ℕ) → w.setup.locks ≡ 33 → ((cache : ℕ) → (cache_of facts cache).layout ≡ w.setup.layout cache) → ((w.slab f).objects ≡ 0 → (w.slab f).frozen ≡ false)
    → slab_or facts (w.slab f) (slab_in_values w.value 33 f) ≡ rests.slab_at w f
slab-there w facts f locks layouts unfrozen = elim (cases_lt 0 (w.slab f).objects) [
  | inl l ↦ (
      let some : 1 ≤ (w.slab f).objects = omega arith in
      cond-true {A = Option Slab} (nat_lt 0 (w.slab f).objects) _ (slab_in_values w.value 33 f) (lt-ltb 0 (w.slab f).objects l)
      ∙ sym (slab-some w f (record { cache = (w.slab f).cache; order = order_for (cache_of facts (w.slab f).cache).layout (w.slab f).objects; objects = (w.slab f).objects; frozen = (w.slab f).frozen }) some (word-objects w f some) (word-cache w f some)
      (word-order w f some ∙ ap (λ (z : Layout). order_for z (w.slab f).objects) (sym (layouts (w.slab f).cache))) refl))
  | inr g ↦ (
      let none : (w.slab f).objects ≡ 0 = omega arith in
      cond-false {A = Option Slab} (nat_lt 0 (w.slab f).objects) _ (slab_in_values w.value 33 f) (le-ltb 0 (w.slab f).objects g)
      ∙ by-value none)
]
  where
    by-value : (w.slab f).objects ≡ 0 → slab_in_values w.value 33 f ≡ rests.slab_at w f
    by-value none =
        let o : objects_at w f ≡ objects_in_values w.value 33 f = unworded-objects w f none ∙ ap (λ n. objects_in_values w.value n f) locks in
        let c : cache_at w f ≡ cache_in_values w.value 33 f = unworded-cache w f none ∙ ap (λ n. cache_in_values w.value n f) locks in
        let r : order_at w f ≡ order_in_values w.value 33 f =
        cond-false {A = ℕ} (nat_lt 0 (w.slab f).objects) _ _ (ap (nat_lt 0) none) ∙ ap (λ n. order_in_values w.value n f) locks in
        elim (cases_lt 0 (objects_in_values w.value 33 f)) [
          | inl l ↦ values-some w.value 33 f l ∙ sym (slab-some w f (found w.value 33 f) l o c r (unfrozen none))
          | inr g ↦ (let z : objects_in_values w.value 33 f ≡ 0 = omega arith in values-none w.value 33 f z ∙ sym (slab-none w f (o ∙ z)))
        ]
