-- The table of words that a machine opens into has no bit beyond the fields of its words.
use Rattle.std.proofs.Common.{◌≡◌, ℕ, ◌+◌, ◌-◌, ◌*◌, ◌/◌, ◌%◌, ◌^◌, ◌<◌, ◌≤◌, ◌++◌, eqb, List, [], map, get_or, Option, Some, None, refl, ap, ◌∙◌, arith}
use Rattle.std.specs.List.{range_with_len}
use Rattle.std.proofs.lemmas.Bool.{cond-false, ne_eqb}
use Rattle.std.proofs.lemmas.List.{get_or_append_left, get_or-append_right}
use Rattle.std.proofs.lemmas.List.FromFn.{get_or-map-range_with_len, length-map-range_with_len}
use Rattle.std.proofs.lemmas.List.Elements.{All-nil}
use Rattle.slub_words.specs.Words.{cpu_bits, slab_bits, board_bits}
use Rattle.slub_words.specs.declared.board.BoardWord.{BoardWord}
use Rattle.slub_cpu_partial.specs.Strings.{list_bits}
use Rattle.slub_core.specs.Words.{list_base, slab_base, board_base, board_in}
use Rattle.slub_core.specs.World.{World, world_of}
use Rattle.slub_core.proofs.Opens.{rounds_keep}
use Rattle.slub_core.proofs.Packed.{slab_in-bits, list_in-bits}
use Rattle.slub_law_opening.specs.Opening.{setup_of, opened_words}
use Rattle.slub_law_opening.specs.Table.{board_number, words_of, system_of}
use Rattle.slub_law_opening.specs.BoundLaws.{begins}
use Rattle.slub_law_opening.specs.Rests.{IsBetween}
use Rattle.slub_law_opening.proofs.Rooms.{has-room}
use Rattle.slub_law_opening.proofs.Systems.{is-opening}
use Rattle.slub_law_opening.proofs.Tables.{HasRoom}
use Rattle.slub_law_opening.proofs.Workers.{HoldsNothing}
use Rattle.slub_law_words.specs.Laws.{OpenedWordsArePacked, RoundsKeepWords}
use Rattle.slub_law_words.proofs.Classes.{AreTight}
use Rattle.slub_law_words.proofs.Turns.{packed-of, runs_keep_words}

-- ---- one class of words, and those behind it

class-here : (f : ℕ → ℕ) (a room : ℕ) (rest : List ℕ) (n : ℕ) → n < room → get_or (map f (range_with_len a room) ++ rest) n 0 ≡ f (a + n)
class-here f a room rest n below = get_or_append_left (map f (range_with_len a room)) rest 0 n (let l = length-map-range_with_len f a room in omega arith) ∙ get_or-map-range_with_len f a room n (a + n) 0 below refl

class-past : (f : ℕ → ℕ) (a room : ℕ) (rest : List ℕ) (n k : ℕ) → n ≡ room + k → get_or (map f (range_with_len a room) ++ rest) n 0 ≡ get_or rest k 0
class-past f a room rest n k e = get_or-append_right (map f (range_with_len a room)) rest room n 0 (length-map-range_with_len f a room) (omega arith) ∙ ap (λ j. get_or rest j 0) (let q : n - room ≡ k = omega arith in q)

-- what was on the board is said of its word
board-said : (b : Option BoardWord) → ((c : BoardWord) → b ≡ Some c → (c.index < 65535) × (c.frame < 2 ^ 16) × (c.cache < 2 ^ 8)) → board_in (board_number b) ≡ b
unfolding board_in
board-said None fits = refl
board-said (Some b) all =
    let fits = all b refl in
    let f : board_bits b / 2 ^ 16 % 2 ^ 16 ≡ b.frame = omega (arith, fits) in
    let n : board_bits b % 2 ^ 16 - 1 ≡ b.index = omega (arith, fits) in
    let c : board_bits b / 2 ^ 32 % 2 ^ 8 ≡ b.cache = omega (arith, fits) in
    cond-false (eqb (board_bits b) 0) None (Some (record { frame = board_bits b / 2 ^ 16 % 2 ^ 16; index = board_bits b % 2 ^ 16 - 1; cache = board_bits b / 2 ^ 32 % 2 ^ 8 })) (ne_eqb (board_bits b) 0 (λ z. absurd (omega arith)))
    ∙ (λ i. Some (record { frame = f i; index = n i; cache = c i }))

-- ---- the words of a machine

module _ (w : World) (room : HasRoom w) where
  memories : List ℕ
  memories = map w.memory (range_with_len 0 (512 * w.setup.frames)) ++ map w.link (range_with_len 0 w.setup.frames)

  boards : List ℕ
  boards = map (λ o. board_number (w.board o)) (range_with_len 1 (w.setup.objects - 1)) ++ memories

  slabs : List ℕ
  slabs = map (λ f. slab_bits (w.slab f)) (range_with_len 0 w.setup.frames) ++ boards

  cpus : List ℕ
  cpus = map (λ n. cpu_bits (w.cpu n)) (range_with_len 0 w.setup.cpu_words) ++ slabs

  lists : List ℕ
  lists = map (λ n. list_bits (w.list n)) (range_with_len 0 w.setup.cpu_words) ++ cpus

  words : List ℕ
  words = map w.lock (range_with_len 0 w.setup.locks) ++ lists

  past-locks : (n k : ℕ) → n ≡ 33 + k → get_or words n 0 ≡ get_or lists k 0
  unfolding words
  past-locks n k e = class-past w.lock 0 w.setup.locks lists n k (omega (arith, e, room.locks))

  past-lists : (n k : ℕ) → n ≡ 545 + k → get_or words n 0 ≡ get_or cpus k 0
  unfolding lists
  past-lists n k e = past-locks n (512 + k) (omega arith) ∙ class-past (λ n. list_bits (w.list n)) 0 w.setup.cpu_words cpus (512 + k) k (omega (arith, room.cpu_words))

  past-cpus : (n k : ℕ) → n ≡ 1057 + k → get_or words n 0 ≡ get_or slabs k 0
  unfolding cpus
  past-cpus n k e = past-lists n (512 + k) (omega arith) ∙ class-past (λ n. cpu_bits (w.cpu n)) 0 w.setup.cpu_words slabs (512 + k) k (omega (arith, room.cpu_words))

  past-slabs : (n k : ℕ) → n ≡ 1057 + w.setup.frames + k → get_or words n 0 ≡ get_or boards k 0
  unfolding slabs
  past-slabs n k e = past-cpus n (w.setup.frames + k) (omega arith) ∙ class-past (λ f. slab_bits (w.slab f)) 0 w.setup.frames boards (w.setup.frames + k) k refl

  list-at : (n : ℕ) → n < w.setup.cpu_words → get_or words (list_base + n) 0 ≡ list_bits (w.list n)
  unfolding lists
  list-at n below = past-locks (list_base + n) n refl ∙ class-here (λ n. list_bits (w.list n)) 0 w.setup.cpu_words cpus n below ∙ ap (λ k. list_bits (w.list k)) (let e : 0 + n ≡ n = omega arith in e)

  slab-at : (f : ℕ) → f < w.setup.frames → get_or words (slab_base + f) 0 ≡ slab_bits (w.slab f)
  unfolding slabs
  slab-at f below = past-cpus (slab_base + f) f refl ∙ class-here (λ f. slab_bits (w.slab f)) 0 w.setup.frames boards f below ∙ ap (λ k. slab_bits (w.slab k)) (let e : 0 + f ≡ f = omega arith in e)

  board-at : (o : ℕ) → 1 ≤ o → o < w.setup.objects → get_or words (board_base w.setup + o) 0 ≡ board_number (w.board o)
  unfolding boards
  board-at o some below = past-slabs (board_base w.setup + o) (o - 1) (omega arith) ∙ class-here (λ o. board_number (w.board o)) 1 (w.setup.objects - 1) memories (o - 1) (omega arith) ∙ ap (λ k. board_number (w.board k)) (let e : 1 + (o - 1) ≡ o = omega arith in e)

  -- each was packed from what it says
  words-tight : AreTight w.setup words
  words-tight = record {
    list = λ n below. rw (list-at n below) (ap list_bits (list_in-bits (w.list n) (room.worded.list n)));
    slab = λ f below. rw (slab-at f below) (ap slab_bits (slab_in-bits (w.slab f) (room.worded.slab f)));
    board = λ o some below. rw (board-at o some below) (ap board_number (board-said (w.board o) (room.boarded o)));
  }

  pub opened-tight : AreTight w.setup (words_of w)
  unfolding words lists cpus slabs boards memories
  opened-tight = words-tight

-- ---- an opening, and a round

pub opened_words_are_packed : OpenedWordsArePacked
opened_words_are_packed s b ls may begin =
    let opening = is-opening s b ls may begin in
    packed-of (setup_of s b) (system_of s b ls).value (system_of s b ls).words opening.rest.fresh.worded (opened-tight (opened_words s b) (has-room s b [] may.beside may.coherent may.laid_down (All-nil (IsBetween (setup_of s b))) (All-nil HoldsNothing)))

pub rounds_keep_words : RoundsKeepWords
rounds_keep_words s b ls picks may begin =
    let opening = is-opening s b ls may begin in
    runs_keep_words (setup_of s b) (world_of (setup_of s b) (system_of s b ls).value (system_of s b ls).words) (begins s b ls) picks
    (rounds_keep (setup_of s b) (system_of s b ls) [] opening) (opened_words_are_packed s b ls may begin)
