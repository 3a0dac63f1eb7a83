-- A word is set: each class has its own words of the table, and words of the other classes stay.
use Rattle.std.proofs.Common.{◌≡◌, ℕ, ◌+◌, ◌*◌, ◌<◌, ◌≤◌, eqb, List, length, get_or, set, refl, sym, ap, subst, arith, inl, inr, ◌∙◌}
use Rattle.std.proofs.lemmas.Bool.{cases_eq, cases_Bool, eqb-true}
use Rattle.std.proofs.lemmas.List.{get_or-set_same, get_or-set_other, set-get_or}
use Rattle.slub_words.specs.declared.slab.SlabWord.{SlabWord}
use Rattle.slub_words.specs.Words.{slab_bits}
use Rattle.slub_cpu_partial.specs.declared.words.ListWord.{ListWord}
use Rattle.slub_cpu_partial.specs.Strings.{list_bits}
use Rattle.slub_core.specs.declared.step.Place.{Place}
use Rattle.slub_core.specs.declared.step.Place.TheVariants.{ListOf, SlabOf, BoardOf}
use Rattle.slub_core.specs.declared.step.Op.TheVariants.{Exchange}
use Rattle.slub_core.specs.Setup.{Setup}
use Rattle.slub_core.specs.Words.{list_base, cpu_base, slab_base, board_base, memory_base, link_base, number_of, after_op, slab_in, list_in, board_in}
use Rattle.slub_core.specs.World.{LockValue, world_of}
use Rattle.slub_core.proofs.Packed.{IsSlabFit, IsListFit, slab_in-bits, list_in-bits}
use Rattle.slub_core.proofs.StepWords.{IsTable, list-read, slab-read}
use Rattle.slub_law_words.specs.Packed.{IsListPacked, IsSlabPacked, IsBoardPacked, packed_word_at}

-- the words that have bits to spare: list words, slab words and board words
pub record AreTight (m : Setup) (words : List ℕ) : Type 0 where
  pub list : (n : ℕ) → n < m.cpu_words → IsListPacked (packed_word_at m words (ListOf n))
  pub slab : (f : ℕ) → f < m.frames → IsSlabPacked (packed_word_at m words (SlabOf f))
  pub board : (o : ℕ) → 1 ≤ o → o < m.objects → IsBoardPacked (packed_word_at m words (BoardOf o))

-- ---- any word

-- what holds of the word at a place holds of it after a word was set, where it holds of the new word if that stands there
after-set : (P : ℕ → Type 0) (words : List ℕ) (n v k : ℕ) → k < length words → (k ≡ n → P v) → P (get_or words k 0) → P (get_or (set words n v) k 0)
after-set P words n v k below new old =
    elim (cases_eq k n) [
      | inl e ↦ subst P (sym (subst (λ j. get_or (set words j v) k 0 ≡ v) e (get_or-set_same words k v 0 below))) (new e)
      | inr d ↦ subst P (sym (get_or-set_other words n k v 0 d)) old
    ]

set-word : (m : Setup) (words : List ℕ) (n v : ℕ) → IsTable m words → ((k : ℕ) → k < m.cpu_words → list_base + k ≡ n → IsListPacked v) → ((f : ℕ) → f < m.frames → slab_base + f ≡ n → IsSlabPacked v)
    → ((o : ℕ) → 1 ≤ o → o < m.objects → board_base m + o ≡ n → IsBoardPacked v) → AreTight m words → AreTight m (set words n v)
set-word m words n v t list slab board tight =
    let long = t.length in
    let cpu_words = t.cpu_words in
    let frames = t.frames in
    let objects = t.objects in
    record {
      list = λ k below. after-set IsListPacked words n v (list_base + k) (omega arith) (list k below) (tight.list k below);
      slab = λ f below. after-set IsSlabPacked words n v (slab_base + f) (omega arith) (slab f below) (tight.slab f below);
      board = λ o some below. after-set IsBoardPacked words n v (board_base m + o) (omega arith) (board o some below) (tight.board o some below);
    }

-- ---- words of classes that have no bits to spare

pub set-lock : (m : Setup) (words : List ℕ) (n v : ℕ) → IsTable m words → n < m.locks → AreTight m words → AreTight m (set words n v)
set-lock m words n v t below tight =
    let locks = t.locks in
    set-word m words n v t (λ k inside e. absurd (omega arith)) (λ f inside e. absurd (omega arith)) (λ o some inside e. absurd (omega arith)) tight

pub set-cpu : (m : Setup) (words : List ℕ) (n v : ℕ) → IsTable m words → n < m.cpu_words → AreTight m words → AreTight m (set words (cpu_base + n) v)
set-cpu m words n v t below tight =
    let cpu_words = t.cpu_words in
    let frames = t.frames in
    set-word m words (cpu_base + n) v t (λ k inside e. absurd (omega arith)) (λ f inside e. absurd (omega arith)) (λ o some inside e. absurd (omega arith)) tight

pub set-memory : (m : Setup) (words : List ℕ) (p v : ℕ) → IsTable m words → p < 512 * m.frames → AreTight m words → AreTight m (set words (memory_base m + p) v)
set-memory m words p v t below tight =
    let cpu_words = t.cpu_words in
    set-word m words (memory_base m + p) v t (λ k inside e. absurd (omega arith)) (λ f inside e. absurd (omega arith)) (λ o some inside e. absurd (omega arith)) tight

pub set-link : (m : Setup) (words : List ℕ) (f v : ℕ) → IsTable m words → f < m.frames → AreTight m words → AreTight m (set words (link_base m + f) v)
set-link m words f v t below tight =
    let cpu_words = t.cpu_words in
    set-word m words (link_base m + f) v t (λ k inside e. absurd (omega arith)) (λ g inside e. absurd (omega arith)) (λ o some inside e. absurd (omega arith)) tight

-- ---- words of the other classes

set-list : (m : Setup) (words : List ℕ) (n v : ℕ) → IsTable m words → n < m.cpu_words → IsListPacked v → AreTight m words → AreTight m (set words (list_base + n) v)
set-list m words n v t below packed tight =
    let cpu_words = t.cpu_words in
    let frames = t.frames in
    set-word m words (list_base + n) v t (λ k inside e. packed) (λ f inside e. absurd (omega arith)) (λ o some inside e. absurd (omega arith)) tight

set-slab : (m : Setup) (words : List ℕ) (g v : ℕ) → IsTable m words → g < m.frames → IsSlabPacked v → AreTight m words → AreTight m (set words (slab_base + g) v)
set-slab m words g v t below packed tight =
    let cpu_words = t.cpu_words in
    set-word m words (slab_base + g) v t (λ k inside e. absurd (omega arith)) (λ f inside e. packed) (λ o some inside e. absurd (omega arith)) tight

-- a board word is taken
pub set-board : (m : Setup) (words : List ℕ) (b : ℕ) → IsTable m words → 1 ≤ b → b < m.objects → AreTight m words → AreTight m (set words (board_base m + b) 0)
unfolding board_in
set-board m words b t real below tight =
    let cpu_words = t.cpu_words in
    set-word m words (board_base m + b) 0 t (λ k inside e. absurd (omega arith)) (λ f inside e. absurd (omega arith)) (λ o some inside e. refl) tight

-- ---- by what a step does

-- a load
pub loaded : (m : Setup) (words : List ℕ) (place : Place) → AreTight m words → AreTight m (set words (number_of m place) (get_or words (number_of m place) 0))
loaded m words place tight = rw (set-get_or words (number_of m place) 0) tight

-- a partial list is taken
pub list_taken : (m : Setup) (words : List ℕ) (n : ℕ) → IsTable m words → n < m.cpu_words → AreTight m words → AreTight m (set words (list_base + n) 0)
unfolding list_in
list_taken m words n t below tight = set-list m words n 0 t below refl tight

-- an exchange on a list word, which is known where it is won
pub list_exchanged : (m : Setup) (value : ℕ → LockValue) (words : List ℕ) (n : ℕ) (from to : ListWord) → IsTable m words → n < m.cpu_words → IsListFit from → ((world_of m value words).list n ≡ from → IsListFit to) → AreTight m words
    → AreTight m (set words (list_base + n) (after_op (Exchange (list_bits from) (list_bits to)) (get_or words (list_base + n) 0)))
list_exchanged m value words n from to t below known fits tight =
    elim (cases_Bool (eqb (get_or words (list_base + n) 0) (list_bits from))) [
      | inl e ↦ (
          let now = list-read m value words n below ∙ ap list_in (eqb-true _ _ e) ∙ list_in-bits from known in
          rw e (set-list m words n (list_bits to) t below (ap list_bits (list_in-bits to (fits now))) tight))
      | inr e ↦ rw (e, set-get_or words (list_base + n) 0) tight
    ]

-- an exchange on a slab word
pub slab_exchanged : (m : Setup) (value : ℕ → LockValue) (words : List ℕ) (f : ℕ) (from to : SlabWord) → IsTable m words → f < m.frames → IsSlabFit from → ((world_of m value words).slab f ≡ from → IsSlabFit to) → AreTight m words
    → AreTight m (set words (slab_base + f) (after_op (Exchange (slab_bits from) (slab_bits to)) (get_or words (slab_base + f) 0)))
slab_exchanged m value words f from to t below known fits tight =
    elim (cases_Bool (eqb (get_or words (slab_base + f) 0) (slab_bits from))) [
      | inl e ↦ (
          let now = slab-read m value words f below ∙ ap slab_in (eqb-true _ _ e) ∙ slab_in-bits from known in
          rw e (set-slab m words f (slab_bits to) t below (ap slab_bits (slab_in-bits to (fits now))) tight))
      | inr e ↦ rw (e, set-get_or words (slab_base + f) 0) tight
    ]

-- a slab word is stored
pub slab_stored : (m : Setup) (words : List ℕ) (f : ℕ) (to : SlabWord) → IsTable m words → f < m.frames → IsSlabFit to → AreTight m words → AreTight m (set words (slab_base + f) (slab_bits to))
slab_stored m words f to t below fits tight = set-slab m words f (slab_bits to) t below (ap slab_bits (slab_in-bits to fits)) tight
