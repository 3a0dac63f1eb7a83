-- The words of a machine that stand before its memory, class by class.
use Rattle.std.specs.Prelude.{ℕ, ◌-◌, ◌++◌, List, length, map, slice_index_or}
use Rattle.std.specs.Option.{option_map}
use Rattle.std.specs.List.{range_with_len}
use Rattle.slub_words.specs.Words.{cpu_bits, slab_bits}
use Rattle.slub_cpu_partial.specs.Strings.{list_bits}
use Rattle.slub_lists.specs.State.{State}
use Rattle.slub_lists.specs.Alloc.{slab_of}
use Rattle.slub_lists.specs.Coherent.{held_under}
use Rattle.slub_lists.specs.declared.lists.CpuLists.{CpuLists}
use Rattle.slub_law_opening.specs.Opening.{cpu_at, list_word, slab_word, board_word, head_of, frame_of}
use Rattle.slub_law_opening.specs.Table.{board_number}

-- no lock is taken
abbrev pub no_lock : ℕ → ℕ
no_lock n = 0

abbrev pub lock_words : List ℕ
lock_words = map no_lock (range_with_len 0 33)

abbrev pub list_number : State → ℕ → ℕ
list_number s n = list_bits (list_word (cpu_at s n).partial)

abbrev pub list_words : State → List ℕ
list_words s = map (list_number s) (range_with_len 0 512)

-- of a CPU that has this of a cache, by its transaction id
abbrev pub cpu_number : ℕ → CpuLists → ℕ
cpu_number tid lists = cpu_bits (record {
  tid = tid;
  frame = frame_of lists.current;
  head = head_of lists.free;
})

abbrev pub cpu_words : State → List ℕ → List ℕ
cpu_words s tids =
    map (λ n. cpu_number (slice_index_or tids n 0) (cpu_at s n)) (range_with_len 0 512)

abbrev pub slab_number : State → ℕ → ℕ
slab_number s frame = slab_bits (slab_word s frame (slab_of s frame))

abbrev pub slab_words : State → List ℕ
slab_words s = map (slab_number s) (range_with_len 0 s.frames)

abbrev pub object_number : State → ℕ → ℕ
object_number s object = board_number (option_map board_word (held_under s object))

abbrev pub board_words : State → List ℕ
board_words s = map (object_number s) (range_with_len 1 (length s.board - 1))

abbrev pub front_words : State → List ℕ → List ℕ
front_words s tids =
    lock_words ++ list_words s ++ cpu_words s tids ++ slab_words s ++ board_words s
