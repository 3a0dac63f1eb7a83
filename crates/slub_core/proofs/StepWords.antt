-- Setting a word of a class is the point update of that class: steps on the table of words are steps on the state.
use Rattle.std.proofs.Common.{◌≡◌, ℕ, ◌+◌, ◌*◌, ◌<◌, ◌≤◌, List, length, get_or, set, refl, sym, ap, ◌∙◌, subst, arith, inl, inr, Option}
use Rattle.std.proofs.lemmas.Bool.{cases_eq, cases_lt, lt-ltb, le-ltb, ne_eqb}
use Rattle.std.proofs.lemmas.List.{get_or-set_same, get_or-set_other}
use Rattle.slub_words.specs.declared.cpu.CpuWord.{CpuWord}
use Rattle.slub_words.specs.declared.slab.SlabWord.{SlabWord}
use Rattle.slub_words.specs.declared.board.BoardWord.{BoardWord}
use Rattle.slub_cpu_partial.specs.declared.words.ListWord.{ListWord}
use Rattle.slub_core.specs.Setup.{Setup}
use Rattle.slub_core.specs.Words.{list_base, cpu_base, slab_base, board_base, memory_base, link_base, word_count, cpu_in, slab_in, board_in, list_in}
use Rattle.slub_core.specs.World.{World, LockValue, update, set_cpu, set_list, set_slab, set_link, set_board, set_memory, set_lock, word_in, board_words, world_from, world_of}
use Rattle.slub_core.proofs.Update.{update_same, update_other, update_at}

same_functions : {A : Type 0} {f g : ℕ → A} → ((n : ℕ) → f n ≡ g n) → f ≡ g
same_functions h = λ i n. h n i

-- the table has the machine's words, and room for its classes
pub record IsTable (m : Setup) (words : List ℕ) : Type 0 where
  pub length : length words ≡ word_count m
  pub locks : m.locks ≡ 33
  pub cpu_words : m.cpu_words ≡ 512
  pub frames : 1 ≤ m.frames
  pub objects : 1 ≤ m.objects

pub word_in-here : (words : List ℕ) (base room n v : ℕ) → n < room → base + room ≤ length words → word_in (set words (base + n) v) base room ≡ update (word_in words base room) n v
unfolding word_in
word_in-here words base room n v below within = same_functions (λ m.
    elim (cases_eq m n) [
      | inl e ↦ rw (e, update_same (word_in words base room) n v, lt-ltb n room below) (get_or-set_same words (base + n) v 0 (omega arith))
      | inr d ↦ rw (update_other (word_in words base room) n v m d, get_or-set_other words (base + n) (base + m) v 0 (λ h. d (omega arith))) refl
    ])

pub word_in-elsewhere : (words : List ℕ) (base room n v : ℕ) → ((m : ℕ) → m < room → base + m ≡ n → ⊥) → word_in (set words n v) base room ≡ word_in words base room
unfolding word_in
word_in-elsewhere words base room n v apart = same_functions (λ m.
    elim (cases_lt m room) [
      | inl l ↦ rw (get_or-set_other words n (base + m) v 0 (apart m l)) refl
      | inr g ↦ rw (le-ltb m room g) refl
    ])

-- of board words number 0 isn't one
board_words-here : (m : Setup) (words : List ℕ) (n v : ℕ) → 1 ≤ n → n < m.objects → board_base m + m.objects ≤ length words
    → board_words m (set words (board_base m + n) v) ≡ update (board_words m words) n v
unfolding board_words
board_words-here m words n v some below within = same_functions (λ o.
    elim (cases_eq o n) [
      | inl e ↦ rw (e, update_same (board_words m words) n v, ne_eqb n 0 (λ z. absurd (omega arith)), word_in-here words (board_base m) m.objects n v below within) (update_same (word_in words (board_base m) m.objects) n v)
      | inr d ↦ rw (update_other (board_words m words) n v o d, word_in-here words (board_base m) m.objects n v below within, update_other (word_in words (board_base m) m.objects) n v o d) refl
    ])

board_words-elsewhere : (m : Setup) (words : List ℕ) (n v : ℕ) → ((o : ℕ) → 1 ≤ o → o < m.objects → board_base m + o ≡ n → ⊥) → board_words m (set words n v) ≡ board_words m words
unfolding board_words word_in
board_words-elsewhere m words n v apart = same_functions (λ o.
    elim (cases_eq o 0) [
      | inl e ↦ rw e refl
      | inr d ↦ elim (cases_lt o m.objects) [
        | inl l ↦ rw (get_or-set_other words n (board_base m + o) v 0 (apart o (omega arith) l)) refl
        | inr g ↦ rw (le-ltb o m.objects g) refl
      ]
    ])

-- a function of an updated function
pub updated-map : {A : Type 0} (f : ℕ → A) (g : ℕ → ℕ) (n v : ℕ) → (λ (m : ℕ). f (update g n v m)) ≡ update (λ m. f (g m)) n (f v)
updated-map f g n v = same_functions (λ m. elim (cases_eq m n) [
  | inl e ↦ ap f (update_at g n v m e) ∙ sym (update_at (λ m. f (g m)) n (f v) m e)
  | inr d ↦ ap f (update_other g n v m d) ∙ sym (update_other (λ m. f (g m)) n (f v) m d)
])

-- ---- one class after another

pub world_of-lock : (m : Setup) (value : ℕ → LockValue) (words : List ℕ) (n v : ℕ) → IsTable m words → n < m.locks → world_of m value (set words n v) ≡ set_lock (world_of m value words) n v
unfolding world_of world_from
world_of-lock m value words n v t below =
    let len = t.length in
    let locks = t.locks in
    let lists = t.cpu_words in
    let frames = t.frames in
    let objects = t.objects in
    let e : 0 + n ≡ n = omega arith in
    let z : word_in (set words n v) 0 m.locks ≡ update (word_in words 0 m.locks) n v =
    subst (λ q. word_in (set words q v) 0 m.locks ≡ update (word_in words 0 m.locks) n v) e (word_in-here words 0 m.locks n v below (omega arith)) in
    let l = word_in-elsewhere words list_base m.cpu_words n v (λ k under e. omega arith) in
    let c = word_in-elsewhere words cpu_base m.cpu_words n v (λ k under e. omega arith) in
    let a = word_in-elsewhere words slab_base m.frames n v (λ k under e. omega arith) in
    let b = board_words-elsewhere m words n v (λ k some under e. omega arith) in
    let d = word_in-elsewhere words (memory_base m) (512 * m.frames) n v (λ k under e. omega arith) in
    let i = word_in-elsewhere words (link_base m) m.frames n v (λ k under e. omega arith) in
    rw (z, l, c, a, b, d, i) refl

pub world_of-list : (m : Setup) (value : ℕ → LockValue) (words : List ℕ) (n v : ℕ) → IsTable m words → n < m.cpu_words → world_of m value (set words (list_base + n) v) ≡ set_list (world_of m value words) n (list_in v)
unfolding world_of world_from
world_of-list m value words n v t below =
    let len = t.length in
    let locks = t.locks in
    let lists = t.cpu_words in
    let frames = t.frames in
    let objects = t.objects in
    let z = word_in-elsewhere words 0 m.locks (list_base + n) v (λ k under e. omega arith) in
    let l = word_in-here words list_base m.cpu_words n v below (omega arith) in
    let c = word_in-elsewhere words cpu_base m.cpu_words (list_base + n) v (λ k under e. omega arith) in
    let a = word_in-elsewhere words slab_base m.frames (list_base + n) v (λ k under e. omega arith) in
    let b = board_words-elsewhere m words (list_base + n) v (λ k some under e. omega arith) in
    let d = word_in-elsewhere words (memory_base m) (512 * m.frames) (list_base + n) v (λ k under e. omega arith) in
    let i = word_in-elsewhere words (link_base m) m.frames (list_base + n) v (λ k under e. omega arith) in
    rw (z, l, c, a, b, d, i) (ap (λ f. set_all f) (updated-map list_in (word_in words list_base m.cpu_words) n v))
  where
    set_all : (ℕ → ListWord) → World
    set_all f = record (world_of m value words) { list = f }

pub world_of-cpu : (m : Setup) (value : ℕ → LockValue) (words : List ℕ) (n v : ℕ) → IsTable m words → n < m.cpu_words → world_of m value (set words (cpu_base + n) v) ≡ set_cpu (world_of m value words) n (cpu_in v)
unfolding world_of world_from
world_of-cpu m value words n v t below =
    let len = t.length in
    let locks = t.locks in
    let lists = t.cpu_words in
    let frames = t.frames in
    let objects = t.objects in
    let z = word_in-elsewhere words 0 m.locks (cpu_base + n) v (λ k under e. omega arith) in
    let l = word_in-elsewhere words list_base m.cpu_words (cpu_base + n) v (λ k under e. omega arith) in
    let c = word_in-here words cpu_base m.cpu_words n v below (omega arith) in
    let a = word_in-elsewhere words slab_base m.frames (cpu_base + n) v (λ k under e. omega arith) in
    let b = board_words-elsewhere m words (cpu_base + n) v (λ k some under e. omega arith) in
    let d = word_in-elsewhere words (memory_base m) (512 * m.frames) (cpu_base + n) v (λ k under e. omega arith) in
    let i = word_in-elsewhere words (link_base m) m.frames (cpu_base + n) v (λ k under e. omega arith) in
    rw (z, l, c, a, b, d, i) (ap (λ f. set_all f) (updated-map cpu_in (word_in words cpu_base m.cpu_words) n v))
  where
    set_all : (ℕ → CpuWord) → World
    set_all f = record (world_of m value words) { cpu = f }

pub world_of-slab : (m : Setup) (value : ℕ → LockValue) (words : List ℕ) (f v : ℕ) → IsTable m words → f < m.frames → world_of m value (set words (slab_base + f) v) ≡ set_slab (world_of m value words) f (slab_in v)
unfolding world_of world_from
world_of-slab m value words n v t below =
    let len = t.length in
    let locks = t.locks in
    let lists = t.cpu_words in
    let frames = t.frames in
    let objects = t.objects in
    let z = word_in-elsewhere words 0 m.locks (slab_base + n) v (λ k under e. omega arith) in
    let l = word_in-elsewhere words list_base m.cpu_words (slab_base + n) v (λ k under e. omega arith) in
    let c = word_in-elsewhere words cpu_base m.cpu_words (slab_base + n) v (λ k under e. omega arith) in
    let a = word_in-here words slab_base m.frames n v below (omega arith) in
    let b = board_words-elsewhere m words (slab_base + n) v (λ k some under e. omega arith) in
    let d = word_in-elsewhere words (memory_base m) (512 * m.frames) (slab_base + n) v (λ k under e. omega arith) in
    let i = word_in-elsewhere words (link_base m) m.frames (slab_base + n) v (λ k under e. omega arith) in
    rw (z, l, c, a, b, d, i) (ap (λ f. set_all f) (updated-map slab_in (word_in words slab_base m.frames) n v))
  where
    set_all : (ℕ → SlabWord) → World
    set_all f = record (world_of m value words) { slab = f }

pub world_of-board : (m : Setup) (value : ℕ → LockValue) (words : List ℕ) (o v : ℕ) → IsTable m words → 1 ≤ o → o < m.objects → world_of m value (set words (board_base m + o) v) ≡ set_board (world_of m value words) o (board_in v)
unfolding world_of world_from
world_of-board m value words n v t some below =
    let len = t.length in
    let locks = t.locks in
    let lists = t.cpu_words in
    let frames = t.frames in
    let objects = t.objects in
    let z = word_in-elsewhere words 0 m.locks (board_base m + n) v (λ k under e. omega arith) in
    let l = word_in-elsewhere words list_base m.cpu_words (board_base m + n) v (λ k under e. omega arith) in
    let c = word_in-elsewhere words cpu_base m.cpu_words (board_base m + n) v (λ k under e. omega arith) in
    let a = word_in-elsewhere words slab_base m.frames (board_base m + n) v (λ k under e. omega arith) in
    let b = board_words-here m words n v some below (omega arith) in
    let d = word_in-elsewhere words (memory_base m) (512 * m.frames) (board_base m + n) v (λ k under e. omega arith) in
    let i = word_in-elsewhere words (link_base m) m.frames (board_base m + n) v (λ k under e. omega arith) in
    rw (z, l, c, a, b, d, i) (ap (λ f. set_all f) (updated-map board_in (board_words m words) n v))
  where
    set_all : (ℕ → Option BoardWord) → World
    set_all f = record (world_of m value words) { board = f }

pub world_of-memory : (m : Setup) (value : ℕ → LockValue) (words : List ℕ) (p v : ℕ) → IsTable m words → p < 512 * m.frames → world_of m value (set words (memory_base m + p) v) ≡ set_memory (world_of m value words) p v
unfolding world_of world_from
world_of-memory m value words n v t below =
    let len = t.length in
    let locks = t.locks in
    let lists = t.cpu_words in
    let frames = t.frames in
    let objects = t.objects in
    let z = word_in-elsewhere words 0 m.locks (memory_base m + n) v (λ k under e. omega arith) in
    let l = word_in-elsewhere words list_base m.cpu_words (memory_base m + n) v (λ k under e. omega arith) in
    let c = word_in-elsewhere words cpu_base m.cpu_words (memory_base m + n) v (λ k under e. omega arith) in
    let a = word_in-elsewhere words slab_base m.frames (memory_base m + n) v (λ k under e. omega arith) in
    let b = board_words-elsewhere m words (memory_base m + n) v (λ k some under e. omega arith) in
    let d = word_in-here words (memory_base m) (512 * m.frames) n v below (omega arith) in
    let i = word_in-elsewhere words (link_base m) m.frames (memory_base m + n) v (λ k under e. omega arith) in
    rw (z, l, c, a, b, d, i) refl

pub world_of-link : (m : Setup) (value : ℕ → LockValue) (words : List ℕ) (f v : ℕ) → IsTable m words → f < m.frames → world_of m value (set words (link_base m + f) v) ≡ set_link (world_of m value words) f v
unfolding world_of world_from
world_of-link m value words n v t below =
    let len = t.length in
    let locks = t.locks in
    let lists = t.cpu_words in
    let frames = t.frames in
    let objects = t.objects in
    let z = word_in-elsewhere words 0 m.locks (link_base m + n) v (λ k under e. omega arith) in
    let l = word_in-elsewhere words list_base m.cpu_words (link_base m + n) v (λ k under e. omega arith) in
    let c = word_in-elsewhere words cpu_base m.cpu_words (link_base m + n) v (λ k under e. omega arith) in
    let a = word_in-elsewhere words slab_base m.frames (link_base m + n) v (λ k under e. omega arith) in
    let b = board_words-elsewhere m words (link_base m + n) v (λ k some under e. omega arith) in
    let d = word_in-elsewhere words (memory_base m) (512 * m.frames) (link_base m + n) v (λ k under e. omega arith) in
    let i = word_in-here words (link_base m) m.frames n v below (omega arith) in
    rw (z, l, c, a, b, d, i) refl

-- ---- what a word says

pub setup_of : (m : Setup) (value : ℕ → LockValue) (words : List ℕ) → (world_of m value words).setup ≡ m
unfolding world_of world_from
setup_of m value words = refl

pub value_of : (m : Setup) (value : ℕ → LockValue) (words : List ℕ) → (world_of m value words).value ≡ value
unfolding world_of world_from
value_of m value words = refl

pub lock-read : (m : Setup) (value : ℕ → LockValue) (words : List ℕ) (n : ℕ) → n < m.locks → (world_of m value words).lock n ≡ get_or words n 0
unfolding world_of world_from word_in
lock-read m value words n below = let e : 0 + n ≡ n = omega arith in rw (lt-ltb n m.locks below) (ap (λ q. get_or words q 0) e)

pub list-read : (m : Setup) (value : ℕ → LockValue) (words : List ℕ) (n : ℕ) → n < m.cpu_words → (world_of m value words).list n ≡ list_in (get_or words (list_base + n) 0)
unfolding world_of world_from word_in
list-read m value words n below = rw (lt-ltb n m.cpu_words below) refl

pub cpu-read : (m : Setup) (value : ℕ → LockValue) (words : List ℕ) (n : ℕ) → n < m.cpu_words → (world_of m value words).cpu n ≡ cpu_in (get_or words (cpu_base + n) 0)
unfolding world_of world_from word_in
cpu-read m value words n below = rw (lt-ltb n m.cpu_words below) refl

pub slab-read : (m : Setup) (value : ℕ → LockValue) (words : List ℕ) (f : ℕ) → f < m.frames → (world_of m value words).slab f ≡ slab_in (get_or words (slab_base + f) 0)
unfolding world_of world_from word_in
slab-read m value words f below = rw (lt-ltb f m.frames below) refl

pub board-read : (m : Setup) (value : ℕ → LockValue) (words : List ℕ) (o : ℕ) → 1 ≤ o → o < m.objects → (world_of m value words).board o ≡ board_in (get_or words (board_base m + o) 0)
unfolding world_of world_from board_words word_in
board-read m value words o some below = rw (ne_eqb o 0 (λ z. absurd (omega arith)), lt-ltb o m.objects below) refl

pub memory-read : (m : Setup) (value : ℕ → LockValue) (words : List ℕ) (p : ℕ) → p < 512 * m.frames → (world_of m value words).memory p ≡ get_or words (memory_base m + p) 0
unfolding world_of world_from word_in
memory-read m value words p below = rw (lt-ltb p (512 * m.frames) below) refl

pub link-read : (m : Setup) (value : ℕ → LockValue) (words : List ℕ) (f : ℕ) → f < m.frames → (world_of m value words).link f ≡ get_or words (link_base m + f) 0
unfolding world_of world_from word_in
link-read m value words f below = rw (lt-ltb f m.frames below) refl

-- the values of the locks alone are changed
pub world_of-value : (m : Setup) (value after : ℕ → LockValue) (words : List ℕ) → world_of m after words ≡ record (world_of m value words) { value = after }
unfolding world_of world_from
world_of-value m value after words = refl
