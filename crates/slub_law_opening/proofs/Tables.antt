-- The table of words of a machine says that machine.
use Rattle.std.proofs.Common.{◌≡◌, ℕ, ◌+◌, ◌-◌, ◌*◌, ◌/◌, ◌%◌, ◌^◌, ◌<◌, ◌≤◌, ◌++◌, eqb, List, length, map, get_or, Option, Some, None, inl, inr, refl, ap, sym, ◌∙◌, arith}
use Rattle.std.specs.Prelude.{nat_lt}
use Rattle.std.specs.List.{range_with_len}
use Rattle.std.proofs.lemmas.Bool.{cases_eq, cases_lt, cond-true, cond-false, lt-ltb, le-ltb, eq-eqb, ne_eqb}
use Rattle.std.proofs.lemmas.List.{get_or_append_left, get_or-append_right, length-append}
use Rattle.std.proofs.lemmas.List.FromFn.{get_or-map-range_with_len, length-map-range_with_len}
use Rattle.slub_words.specs.Words.{cpu_bits, slab_bits, board_bits}
use Rattle.slub_words.specs.declared.board.BoardWord.{BoardWord}
use Rattle.slub_cpu_partial.specs.Strings.{list_bits}
use Rattle.slub_core.specs.Setup.{Setup}
use Rattle.slub_core.specs.Words.{list_base, cpu_base, slab_base, board_base, memory_base, link_base, word_count, cpu_in, slab_in, board_in, list_in}
use Rattle.slub_core.specs.World.{World, word_in, board_words, world_from, world_of}
use Rattle.slub_core.specs.Fresh.{IsWorded}
use Rattle.slub_core.proofs.Packed.{cpu_in-bits, slab_in-bits, list_in-bits}
use Rattle.slub_law_opening.specs.Table.{board_number, words_of}

IsBoardFit : BoardWord → Type 0
IsBoardFit b = (b.index < 65535) × (b.frame < 2 ^ 16) × (b.cache < 2 ^ 8)

-- what is packed comes back, and past the words of a class there is nothing
pub record HasRoom (w : World) : Type 0 where
  pub locks : w.setup.locks ≡ 33
  pub cpu_words : w.setup.cpu_words ≡ 512
  pub objects : 1 ≤ w.setup.objects
  pub worded : IsWorded w
  pub boarded : (o : ℕ) (b : BoardWord) → w.board o ≡ Some b → (b.index < 65535) × (b.frame < 2 ^ 16) × (b.cache < 2 ^ 8)
  pub lock : (n : ℕ) → w.setup.locks ≤ n → w.lock n ≡ 0
  pub list : (n : ℕ) → w.setup.cpu_words ≤ n → w.list n ≡ list_in 0
  pub cpu : (n : ℕ) → w.setup.cpu_words ≤ n → w.cpu n ≡ cpu_in 0
  pub slab : (f : ℕ) → w.setup.frames ≤ f → w.slab f ≡ slab_in 0
  pub none : w.board 0 ≡ None
  pub board : (o : ℕ) → w.setup.objects ≤ o → w.board o ≡ None
  pub memory : (p : ℕ) → 512 * w.setup.frames ≤ p → w.memory p ≡ 0
  pub link : (f : ℕ) → w.setup.frames ≤ f → w.link f ≡ 0

board_in-number : (b : Option BoardWord) → ((c : BoardWord) → b ≡ Some c → (c.index < 65535) × (c.frame < 2 ^ 16) × (c.cache < 2 ^ 8)) → board_in (board_number b) ≡ b
unfolding board_in
board_in-number None fits = refl
board_in-number (Some b) all =
    let fits = all b refl in
    let f : board_bits b / 2 ^ 16 % 2 ^ 16 ≡ b.frame = omega (arith, fits) in
    let n : board_bits b % 2 ^ 16 - 1 ≡ b.index = omega (arith, fits) in
    let c : board_bits b / 2 ^ 32 % 2 ^ 8 ≡ b.cache = omega (arith, fits) in
    cond-false (eqb (board_bits b) 0) None (Some (record { frame = board_bits b / 2 ^ 16 % 2 ^ 16; index = board_bits b % 2 ^ 16 - 1; cache = board_bits b / 2 ^ 32 % 2 ^ 8 })) (ne_eqb (board_bits b) 0 (λ z. absurd (omega arith)))
    ∙ (λ i. Some (record { frame = f i; index = n i; cache = c i }))

-- the first class, and the rest
class-here : (f : ℕ → ℕ) (a room : ℕ) (rest : List ℕ) (n : ℕ) → n < room → get_or (map f (range_with_len a room) ++ rest) n 0 ≡ f (a + n)
class-here f a room rest n below = get_or_append_left (map f (range_with_len a room)) rest 0 n (let l = length-map-range_with_len f a room in omega arith) ∙ get_or-map-range_with_len f a room n (a + n) 0 below refl

class-past : (f : ℕ → ℕ) (a room : ℕ) (rest : List ℕ) (n k : ℕ) → n ≡ room + k → get_or (map f (range_with_len a room) ++ rest) n 0 ≡ get_or rest k 0
class-past f a room rest n k e = get_or-append_right (map f (range_with_len a room)) rest room n 0 (length-map-range_with_len f a room) (omega arith) ∙ ap (λ j. get_or rest j 0) (let q : n - room ≡ k = omega arith in q)

last-class : (f : ℕ → ℕ) (room n : ℕ) → n < room → get_or (map f (range_with_len 0 room)) n 0 ≡ f (0 + n)
last-class f room n below = get_or-map-range_with_len f 0 room n (0 + n) 0 below refl

-- a class of words, with what is past it
in-class : (words : List ℕ) (base room : ℕ) (f : ℕ → ℕ) → ((n : ℕ) → n < room → get_or words (base + n) 0 ≡ f n) → (n : ℕ) → (room ≤ n → f n ≡ 0) → word_in words base room n ≡ f n
unfolding word_in
in-class words base room f here n past = elim (cases_lt n room) [
  | inl l ↦ cond-true (nat_lt n room) (get_or words (base + n) 0) 0 (lt-ltb n room l) ∙ here n l
  | inr g ↦ cond-false (nat_lt n room) (get_or words (base + n) 0) 0 (le-ltb n room g) ∙ sym (past g)
]

in-class_as : {A : Type 0} (words : List ℕ) (base room : ℕ) (f : ℕ → ℕ) (read : ℕ → A) (g : ℕ → A) → ((n : ℕ) → n < room → get_or words (base + n) 0 ≡ f n) → ((n : ℕ) → read (f n) ≡ g n) → ((n : ℕ) → room ≤ n → g n ≡ read 0) → (n : ℕ) → read (word_in words base room n) ≡ g n
unfolding word_in
in-class_as words base room f read g here back past n = elim (cases_lt n room) [
  | inl l ↦ ap read (cond-true (nat_lt n room) (get_or words (base + n) 0) 0 (lt-ltb n room l) ∙ here n l) ∙ back n
  | inr p ↦ ap read (cond-false (nat_lt n room) (get_or words (base + n) 0) 0 (le-ltb n room p)) ∙ sym (past n p)
]

same_functions : {A : Type 0} {f g : ℕ → A} → ((n : ℕ) → f n ≡ g n) → f ≡ g
same_functions h = λ i n. h n i

module _ (w : World) (room : HasRoom w) where
  m : Setup
  m = w.setup

  links : List ℕ
  links = map w.link (range_with_len 0 w.setup.frames)

  memories : List ℕ
  memories = map w.memory (range_with_len 0 (512 * w.setup.frames)) ++ links

  boards : List ℕ
  boards = map (λ o. board_number (w.board o)) (range_with_len 1 (w.setup.objects - 1)) ++ memories

  slabs : List ℕ
  slabs = map (λ f. slab_bits (w.slab f)) (range_with_len 0 w.setup.frames) ++ boards

  cpus : List ℕ
  cpus = map (λ n. cpu_bits (w.cpu n)) (range_with_len 0 w.setup.cpu_words) ++ slabs

  lists : List ℕ
  lists = map (λ n. list_bits (w.list n)) (range_with_len 0 w.setup.cpu_words) ++ cpus

  words : List ℕ
  words = map w.lock (range_with_len 0 w.setup.locks) ++ lists

  past-locks : (n k : ℕ) → n ≡ 33 + k → get_or words n 0 ≡ get_or lists k 0
  unfolding words
  past-locks n k e = class-past w.lock 0 w.setup.locks lists n k (omega (arith, e, room.locks))

  past-lists : (n k : ℕ) → n ≡ 545 + k → get_or words n 0 ≡ get_or cpus k 0
  unfolding lists
  past-lists n k e = past-locks n (512 + k) (omega arith) ∙ class-past (λ n. list_bits (w.list n)) 0 w.setup.cpu_words cpus (512 + k) k (omega (arith, room.cpu_words))

  past-cpus : (n k : ℕ) → n ≡ 1057 + k → get_or words n 0 ≡ get_or slabs k 0
  unfolding cpus
  past-cpus n k e = past-lists n (512 + k) (omega arith) ∙ class-past (λ n. cpu_bits (w.cpu n)) 0 w.setup.cpu_words slabs (512 + k) k (omega (arith, room.cpu_words))

  past-slabs : (n k : ℕ) → n ≡ 1057 + w.setup.frames + k → get_or words n 0 ≡ get_or boards k 0
  unfolding slabs
  past-slabs n k e = past-cpus n (w.setup.frames + k) (omega arith) ∙ class-past (λ f. slab_bits (w.slab f)) 0 w.setup.frames boards (w.setup.frames + k) k refl

  past-boards : (n k : ℕ) → n ≡ 1056 + w.setup.frames + w.setup.objects + k → get_or words n 0 ≡ get_or memories k 0
  unfolding boards
  past-boards n k e = past-slabs n (w.setup.objects - 1 + k) (omega (arith, room.objects)) ∙ class-past (λ o. board_number (w.board o)) 1 (w.setup.objects - 1) memories (w.setup.objects - 1 + k) k refl

  past-memory : (n k : ℕ) → n ≡ 1056 + 513 * w.setup.frames + w.setup.objects + k → get_or words n 0 ≡ get_or links k 0
  unfolding memories
  past-memory n k e = past-boards n (512 * w.setup.frames + k) (omega arith) ∙ class-past w.memory 0 (512 * w.setup.frames) links (512 * w.setup.frames + k) k refl

  lock-at : (n : ℕ) → n < w.setup.locks → get_or words (0 + n) 0 ≡ w.lock n
  unfolding words
  lock-at n below = ap (λ k. get_or words k 0) (let e : 0 + n ≡ n = omega arith in e) ∙ class-here w.lock 0 w.setup.locks lists n below ∙ ap w.lock (let e : 0 + n ≡ n = omega arith in e)

  list-at : (n : ℕ) → n < w.setup.cpu_words → get_or words (list_base + n) 0 ≡ list_bits (w.list n)
  unfolding lists
  list-at n below = past-locks (list_base + n) n refl ∙ class-here (λ n. list_bits (w.list n)) 0 w.setup.cpu_words cpus n below ∙ ap (λ k. list_bits (w.list k)) (let e : 0 + n ≡ n = omega arith in e)

  cpu-at : (n : ℕ) → n < w.setup.cpu_words → get_or words (cpu_base + n) 0 ≡ cpu_bits (w.cpu n)
  unfolding cpus
  cpu-at n below = past-lists (cpu_base + n) n refl ∙ class-here (λ n. cpu_bits (w.cpu n)) 0 w.setup.cpu_words slabs n below ∙ ap (λ k. cpu_bits (w.cpu k)) (let e : 0 + n ≡ n = omega arith in e)

  slab-at : (f : ℕ) → f < w.setup.frames → get_or words (slab_base + f) 0 ≡ slab_bits (w.slab f)
  unfolding slabs
  slab-at f below = past-cpus (slab_base + f) f refl ∙ class-here (λ f. slab_bits (w.slab f)) 0 w.setup.frames boards f below ∙ ap (λ k. slab_bits (w.slab k)) (let e : 0 + f ≡ f = omega arith in e)

  board-at : (o : ℕ) → 1 ≤ o → o < w.setup.objects → get_or words (board_base w.setup + o) 0 ≡ board_number (w.board o)
  unfolding boards
  board-at o some below = past-slabs (board_base w.setup + o) (o - 1) (omega arith) ∙ class-here (λ o. board_number (w.board o)) 1 (w.setup.objects - 1) memories (o - 1) (omega arith) ∙ ap (λ k. board_number (w.board k)) (let e : 1 + (o - 1) ≡ o = omega arith in e)

  memory-at : (p : ℕ) → p < 512 * w.setup.frames → get_or words (memory_base w.setup + p) 0 ≡ w.memory p
  unfolding memories
  memory-at p below = past-boards (memory_base w.setup + p) p refl ∙ class-here w.memory 0 (512 * w.setup.frames) links p below ∙ ap w.memory (let e : 0 + p ≡ p = omega arith in e)

  link-at : (f : ℕ) → f < w.setup.frames → get_or words (link_base w.setup + f) 0 ≡ w.link f
  unfolding links
  link-at f below = past-memory (link_base w.setup + f) f refl ∙ last-class w.link w.setup.frames f below ∙ ap w.link (let e : 0 + f ≡ f = omega arith in e)

  words-count : length words ≡ word_count w.setup
  unfolding words lists cpus slabs boards memories links
  words-count =
      let a = length-map-range_with_len w.lock 0 w.setup.locks in
      let c = length-map-range_with_len (λ n. list_bits (w.list n)) 0 w.setup.cpu_words in
      let d = length-map-range_with_len (λ n. cpu_bits (w.cpu n)) 0 w.setup.cpu_words in
      let e = length-map-range_with_len (λ f. slab_bits (w.slab f)) 0 w.setup.frames in
      let f = length-map-range_with_len (λ o. board_number (w.board o)) 1 (w.setup.objects - 1) in
      let g = length-map-range_with_len w.memory 0 (512 * w.setup.frames) in
      let h = length-map-range_with_len w.link 0 w.setup.frames in
      let p = length-append (map w.lock (range_with_len 0 w.setup.locks)) lists in
      let q = length-append (map (λ n. list_bits (w.list n)) (range_with_len 0 w.setup.cpu_words)) cpus in
      let r = length-append (map (λ n. cpu_bits (w.cpu n)) (range_with_len 0 w.setup.cpu_words)) slabs in
      let s = length-append (map (λ f. slab_bits (w.slab f)) (range_with_len 0 w.setup.frames)) boards in
      let t = length-append (map (λ o. board_number (w.board o)) (range_with_len 1 (w.setup.objects - 1))) memories in
      let u = length-append (map w.memory (range_with_len 0 (512 * w.setup.frames))) links in
      omega (arith, a, c, d, e, f, g, h, p, q, r, s, t, u, room.locks, room.cpu_words, room.objects)

  board-word : (o : ℕ) → board_in (board_words w.setup words o) ≡ w.board o
  unfolding board_words word_in board_in
  board-word o = elim (cases_eq o 0) [
    | inl z ↦ ap board_in (cond-true (eqb o 0) 0 _ (eq-eqb o 0 z)) ∙ sym (ap w.board z ∙ room.none)
    | inr d ↦ elim (cases_lt o w.setup.objects) [
      | inl l ↦ ap board_in (cond-false (eqb o 0) 0 _ (ne_eqb o 0 d) ∙ cond-true (nat_lt o w.setup.objects) _ 0 (lt-ltb o w.setup.objects l) ∙ board-at o (omega arith) l) ∙ board_in-number (w.board o) (room.boarded o)
      | inr g ↦ ap board_in (cond-false (eqb o 0) 0 _ (ne_eqb o 0 d) ∙ cond-false (nat_lt o w.setup.objects) _ 0 (le-ltb o w.setup.objects g)) ∙ sym (room.board o g)
    ]
  ]

  pub table-length : length (words_of w) ≡ word_count w.setup
  unfolding words lists cpus slabs boards memories links
  table-length = words-count

  pub table-says : world_of w.setup w.value (words_of w) ≡ w
  unfolding world_of world_from words lists cpus slabs boards memories links
  table-says =
      let cpu = same_functions (in-class_as words cpu_base w.setup.cpu_words (λ n. cpu_bits (w.cpu n)) cpu_in w.cpu cpu-at (λ n. cpu_in-bits (w.cpu n) (room.worded.cpu n)) room.cpu) in
      let list = same_functions (in-class_as words list_base w.setup.cpu_words (λ n. list_bits (w.list n)) list_in w.list list-at (λ n. list_in-bits (w.list n) (room.worded.list n)) room.list) in
      let slab = same_functions (in-class_as words slab_base w.setup.frames (λ f. slab_bits (w.slab f)) slab_in w.slab slab-at (λ f. slab_in-bits (w.slab f) (room.worded.slab f)) room.slab) in
      let board = same_functions board-word in
      let memory = same_functions (λ p. in-class words (memory_base w.setup) (512 * w.setup.frames) w.memory memory-at p (room.memory p)) in
      let link = same_functions (λ f. in-class words (link_base w.setup) w.setup.frames w.link link-at f (room.link f)) in
      let lock = same_functions (λ n. in-class words 0 w.setup.locks w.lock lock-at n (room.lock n)) in
      λ i. record { setup = w.setup; cpu = cpu i; list = list i; slab = slab i; link = link i; board = board i; memory = memory i; lock = lock i; value = w.value }
