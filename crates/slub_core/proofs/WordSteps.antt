-- A step on the table of words, from what it does to the state: an exchange that is won and one that is lost, a swap, a store and a load.
use Rattle.std.proofs.Common.{◌≡◌, ℕ, suc, ◌+◌, ◌*◌, ◌<◌, ◌≤◌, eqb, List, get_or, set, ap, ◌∙◌, subst, arith, inl, inr, None}
use Rattle.std.proofs.lemmas.Bool.{eqb-true, cases_Bool}
use Rattle.std.proofs.lemmas.List.{set-get_or}
use Rattle.slub_words.specs.declared.cpu.CpuWord.{CpuWord}
use Rattle.slub_words.specs.declared.slab.SlabWord.{SlabWord}
use Rattle.slub_words.specs.Words.{cpu_bits, slab_bits}
use Rattle.slub_cpu_partial.specs.declared.words.ListWord.{ListWord}
use Rattle.slub_cpu_partial.specs.Strings.{list_bits}
use Rattle.slub_core.specs.declared.step.Step.{Step}
use Rattle.slub_core.specs.declared.step.Answer.{Answer}
use Rattle.slub_core.specs.declared.step.Op.TheVariants.{Load, Store, Swap, Exchange}
use Rattle.slub_core.specs.declared.step.Answer.TheVariants.{Word, Done, Won, Lost}
use Rattle.slub_core.specs.declared.step.Place.{Place}
use Rattle.slub_core.specs.declared.step.Place.TheVariants.{LockOf, ListOf, CpuOf, SlabOf, BoardOf, MemoryOf, LinkOf}
use Rattle.slub_core.specs.Setup.{Setup}
use Rattle.slub_core.specs.Words.{no_list_word, list_base, cpu_base, slab_base, board_base, number_of, after_op, answer_of, cpu_in, slab_in, board_in, list_in}
use Rattle.slub_core.specs.World.{World, LockValue, set_cpu, set_list, set_slab, set_link, set_board, set_memory, set_lock, world_of}
use Rattle.slub_core.proofs.StepWords.{IsTable, world_of-lock, world_of-list, world_of-cpu, world_of-slab, world_of-board, world_of-memory, world_of-link, lock-read, list-read, cpu-read, slab-read}
use Rattle.slub_core.proofs.Packed.{IsCpuFit, IsSlabFit, IsListFit, cpu_in-bits, slab_in-bits, list_in-bits}

-- what is so after a step on the words: of the state and the answer
abbrev pub AfterStep : Setup → (ℕ → LockValue) → List ℕ → Step → (World → Answer → Type 0) → Type 0
AfterStep m value words step P =
    let n = number_of m step.place in
    let x = get_or words n 0 in P (world_of m value (set words n (after_op step.op x))) (answer_of step.op x)

-- a load of any word
pub load : (m : Setup) (value : ℕ → LockValue) (words : List ℕ) (place : Place) (P : World → Answer → Type 0)
    → P (world_of m value words) (Word (get_or words (number_of m place) 0)) → AfterStep m value words (record { place = place; op = Load }) P
load m value words place P here = rw (set-get_or words (number_of m place) 0) here

-- an exchange on a CPU word
pub cpu_exchange : (m : Setup) (value : ℕ → LockValue) (words : List ℕ) (n : ℕ) (from to : CpuWord) (P : World → Answer → Type 0) → IsTable m words → n < m.cpu_words → IsCpuFit from
    → ((world_of m value words).cpu n ≡ from → IsCpuFit to × P (set_cpu (world_of m value words) n to) Won) → ((x : ℕ) → P (world_of m value words) (Lost x))
    → AfterStep m value words (record { place = CpuOf n; op = Exchange (cpu_bits from) (cpu_bits to) }) P
cpu_exchange m value words n from to P t below ffit if_won if_lost =
    elim (cases_Bool (eqb (get_or words (cpu_base + n) 0) (cpu_bits from))) [
      | inl e ↦ (let won = if_won (cpu-read m value words n below ∙ ap cpu_in (eqb-true _ _ e) ∙ cpu_in-bits from ffit) in rw (e, world_of-cpu m value words n (cpu_bits to) t below, cpu_in-bits to won.0) won.1)
      | inr e ↦ rw (e, set-get_or words (cpu_base + n) 0) (if_lost (get_or words (cpu_base + n) 0))
    ]

-- an exchange on a slab word
pub slab_exchange : (m : Setup) (value : ℕ → LockValue) (words : List ℕ) (f : ℕ) (from to : SlabWord) (P : World → Answer → Type 0) → IsTable m words → f < m.frames → IsSlabFit from
    → ((world_of m value words).slab f ≡ from → IsSlabFit to × P (set_slab (world_of m value words) f to) Won) → ((x : ℕ) → P (world_of m value words) (Lost x))
    → AfterStep m value words (record { place = SlabOf f; op = Exchange (slab_bits from) (slab_bits to) }) P
slab_exchange m value words f from to P t below ffit if_won if_lost =
    elim (cases_Bool (eqb (get_or words (slab_base + f) 0) (slab_bits from))) [
      | inl e ↦ (let won = if_won (slab-read m value words f below ∙ ap slab_in (eqb-true _ _ e) ∙ slab_in-bits from ffit) in rw (e, world_of-slab m value words f (slab_bits to) t below, slab_in-bits to won.0) won.1)
      | inr e ↦ rw (e, set-get_or words (slab_base + f) 0) (if_lost (get_or words (slab_base + f) 0))
    ]

-- an exchange on a list word
pub list_exchange : (m : Setup) (value : ℕ → LockValue) (words : List ℕ) (n : ℕ) (from to : ListWord) (P : World → Answer → Type 0) → IsTable m words → n < m.cpu_words → IsListFit from
    → ((world_of m value words).list n ≡ from → IsListFit to × P (set_list (world_of m value words) n to) Won) → ((x : ℕ) → P (world_of m value words) (Lost x))
    → AfterStep m value words (record { place = ListOf n; op = Exchange (list_bits from) (list_bits to) }) P
list_exchange m value words n from to P t below ffit if_won if_lost =
    elim (cases_Bool (eqb (get_or words (list_base + n) 0) (list_bits from))) [
      | inl e ↦ (let won = if_won (list-read m value words n below ∙ ap list_in (eqb-true _ _ e) ∙ list_in-bits from ffit) in rw (e, world_of-list m value words n (list_bits to) t below, list_in-bits to won.0) won.1)
      | inr e ↦ rw (e, set-get_or words (list_base + n) 0) (if_lost (get_or words (list_base + n) 0))
    ]

-- a lock is taken by worker a, where it is free
pub lock_exchange : (m : Setup) (value : ℕ → LockValue) (words : List ℕ) (n a : ℕ) (P : World → Answer → Type 0) → IsTable m words → n < m.locks
    → ((world_of m value words).lock n ≡ 0 → P (set_lock (world_of m value words) n (suc a)) Won) → ((x : ℕ) → P (world_of m value words) (Lost x))
    → AfterStep m value words (record { place = LockOf n; op = Exchange 0 (a + 1) }) P
lock_exchange m value words n a P t below if_won if_lost =
    elim (cases_Bool (eqb (get_or words n 0) 0)) [
      | inl e ↦ rw (e, world_of-lock m value words n (a + 1) t below) (subst (λ v. P (set_lock (world_of m value words) n v) Won) (suc-one a) (if_won (lock-read m value words n below ∙ eqb-true _ _ e)))
      | inr e ↦ rw (e, set-get_or words n 0) (if_lost (get_or words n 0))
    ]
  where
    suc-one : (a : ℕ) → suc a ≡ a + 1
    suc-one a = omega arith

-- a lock is given back
pub lock_store : (m : Setup) (value : ℕ → LockValue) (words : List ℕ) (n v : ℕ) (P : World → Answer → Type 0) → IsTable m words → n < m.locks
    → P (set_lock (world_of m value words) n v) Done → AfterStep m value words (record { place = LockOf n; op = Store v }) P
lock_store m value words n v P t below here = rw (world_of-lock m value words n v t below) here

-- a partial list is taken
pub list_swap : (m : Setup) (value : ℕ → LockValue) (words : List ℕ) (n : ℕ) (P : World → Answer → Type 0) → IsTable m words → n < m.cpu_words
    → P (set_list (world_of m value words) n no_list_word) (Word (get_or words (list_base + n) 0)) → AfterStep m value words (record { place = ListOf n; op = Swap 0 }) P
unfolding list_in
list_swap m value words n P t below here = rw (world_of-list m value words n 0 t below) here

-- a board word is taken
pub board_swap : (m : Setup) (value : ℕ → LockValue) (words : List ℕ) (o : ℕ) (P : World → Answer → Type 0) → IsTable m words → 1 ≤ o → o < m.objects
    → P (set_board (world_of m value words) o None) (Word (get_or words (board_base m + o) 0)) → AfterStep m value words (record { place = BoardOf o; op = Swap 0 }) P
unfolding board_in
board_swap m value words o P t some below here = rw (world_of-board m value words o 0 t some below) here

-- a slab word is stored
pub slab_store : (m : Setup) (value : ℕ → LockValue) (words : List ℕ) (f : ℕ) (to : SlabWord) (P : World → Answer → Type 0) → IsTable m words → f < m.frames → IsSlabFit to
    → P (set_slab (world_of m value words) f to) Done → AfterStep m value words (record { place = SlabOf f; op = Store (slab_bits to) }) P
slab_store m value words f to P t below fit here = rw (world_of-slab m value words f (slab_bits to) t below, slab_in-bits to fit) here

-- a memory word and a link are stored
pub memory_store : (m : Setup) (value : ℕ → LockValue) (words : List ℕ) (p v : ℕ) (P : World → Answer → Type 0) → IsTable m words → p < 512 * m.frames
    → P (set_memory (world_of m value words) p v) Done → AfterStep m value words (record { place = MemoryOf p; op = Store v }) P
memory_store m value words p v P t below here = rw (world_of-memory m value words p v t below) here

pub link_store : (m : Setup) (value : ℕ → LockValue) (words : List ℕ) (f v : ℕ) (P : World → Answer → Type 0) → IsTable m words → f < m.frames
    → P (set_link (world_of m value words) f v) Done → AfterStep m value words (record { place = LinkOf f; op = Store v }) P
link_store m value words f v P t below here = rw (world_of-link m value words f v t below) here
