-- The rows of a cache's CPUs.
use Rattle.std.specs.Prelude.{ℕ, ◌+◌, ◌*◌, ◌==◌, if◌then◌else◌, Bool, false, List, [], ◌∷◌, ◌++◌, flat_map, slice_index_or, codes, Option, Some, None}
use Rattle.std.specs.List.{range_with_len}
use Rattle.slub_lists.specs.declared.lists.CpuLists.{CpuLists}
use Rattle.slub_lists.specs.State.{State}
use Rattle.slub_lists.specs.Alloc.{lists_of}
use Rattle.slub_state_text.specs.Fields.{row, cpu_label, cpu_word_text, list_word_text}
use Rattle.slub_state_text.specs.Ranges.{ranges_text, numbers_text}
use Rattle.slub_law_opening.specs.Opening.{frame_of, head_of, list_word}

-- the transaction id of a CPU's word, by 16 * cache + CPU
abbrev pub tid_of : List ℕ → ℕ → ℕ → ℕ
tid_of ids cache cpu = slice_index_or ids (16 * cache + cpu) 0

-- the word is as it was when the cache was made: it has no slab, and its first id
abbrev pub is_first : ℕ → ℕ → Option ℕ → Bool
is_first first tid None = tid == first
is_first first tid (Some frame) = false

-- what the word says, and the CPU's freelist, front first
abbrev pub cpu_fields : ℕ → Option ℕ → List ℕ → List ℕ
cpu_fields tid current free =
    cpu_word_text (record { tid = tid; frame = frame_of current; head = head_of free })
    ++ codes " freelist" ++ ranges_text free

-- what a list's word says, and its slabs, front first
abbrev pub list_fields : List ℕ → List ℕ
list_fields frames = list_word_text (list_word frames) ++ codes " slabs" ++ numbers_text frames

-- the row of a CPU's word, with its freelist; none where the word is as it was at first
abbrev pub cpu_text : List ℕ → ℕ → ℕ → ℕ → CpuLists → List ℕ
cpu_text title cpu first tid lists = if is_first first tid lists.current then [] else
    row (cpu_label (codes "cpu") cpu title) (cpu_fields tid lists.current lists.free)

-- the row of a CPU's partial list; none where no slab is on it
abbrev pub list_text : List ℕ → ℕ → List ℕ → List ℕ
list_text title cpu [] = []
list_text title cpu (frame ∷ frames) =
    row (cpu_label (codes "list") cpu title) (list_fields (frame ∷ frames))

-- the same of a cache's number and a CPU's; the words of CPU c begin at the machine's first id plus c
abbrev pub cpu_row : State → ℕ → List ℕ → List ℕ → ℕ → ℕ → List ℕ
cpu_row s first ids title cache cpu =
    cpu_text title cpu (first + cpu) (tid_of ids cache cpu) (lists_of s cache cpu)

abbrev pub list_row : State → List ℕ → ℕ → ℕ → List ℕ
list_row s title cache cpu = list_text title cpu (lists_of s cache cpu).partial

-- the rows of all CPUs, and those of their lists
abbrev pub cpu_rows : State → ℕ → List ℕ → List ℕ → ℕ → List ℕ
cpu_rows s first ids title cache =
    flat_map (cpu_row s first ids title cache) (range_with_len 0 s.cpus)

abbrev pub list_rows : State → List ℕ → ℕ → List ℕ
list_rows s title cache = flat_map (list_row s title cache) (range_with_len 0 s.cpus)
