-- The table of words of a machine, and a round before its first step.
use Rattle.std.specs.Prelude.{◌≡◌, ℕ, ◌-◌, ◌*◌, ◌++◌, List, length, map, Option, Some, None}
use Rattle.std.specs.List.{range_with_len}
use Rattle.slub_words.specs.Words.{cpu_bits, slab_bits, board_bits}
use Rattle.slub_words.specs.declared.board.BoardWord.{BoardWord}
use Rattle.slub_cpu_partial.specs.Strings.{list_bits}
use Rattle.slub_lists.specs.State.{State}
use Rattle.slub_core.specs.Local.{Local}
use Rattle.slub_core.specs.Run.{System}
use Rattle.slub_core.specs.Words.{word_count}
use Rattle.slub_core.specs.World.{World, world_of}
use Rattle.slub_law_opening.specs.Opening.{Beside, setup_of, value_of, opened_words}
use Rattle.slub_law_opening.specs.Rests.{Rests}

-- 0 where an object number is not on the board
abbrev pub board_number : Option BoardWord → ℕ
board_number None = 0
board_number (Some b) = board_bits b

-- locks, list words, CPU words, slab words, board words from number 1 on, memory words, links
abbrev pub words_of : World → List ℕ
words_of w =
    map w.lock (range_with_len 0 w.setup.locks)
    ++ (map (λ n. list_bits (w.list n)) (range_with_len 0 w.setup.cpu_words)
    ++ (map (λ n. cpu_bits (w.cpu n)) (range_with_len 0 w.setup.cpu_words)
    ++ (map (λ frame. slab_bits (w.slab frame)) (range_with_len 0 w.setup.frames)
    ++ (map (λ object. board_number (w.board object)) (range_with_len 1 (w.setup.objects - 1))
    ++ (map w.memory (range_with_len 0 (512 * w.setup.frames))
    ++ map w.link (range_with_len 0 w.setup.frames))))))

-- a coherent machine and the workers of a round, before the first step
abbrev pub system_of : State → Beside → List Local → System
system_of s b ls =
    record { words = words_of (opened_words s b); value = value_of s; locals = ls }

-- the words, lock values and workers of a machine, and the lists that they rest in
pub record RestsIn (s : State) (b : Beside) (system : System) : Type 0 where
  pub count : length system.words ≡ word_count (setup_of s b)
  pub rests : Rests s b (world_of (setup_of s b) system.value system.words) system.locals
