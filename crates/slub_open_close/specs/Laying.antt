-- What is laid into the memory and the links, by the vectors of the lists.
use Rattle.std.specs.Prelude.{ℕ, ◌+◌, ◌*◌, ◌/◌, ◌%◌, ◌<◌, nat_lt, cond, List, [], ◌∷◌, slice_set, slice_index_or, All, Option, None}
use Rattle.slub_lists.specs.declared.lists.CpuLists.{CpuLists}
use Rattle.slub_lists.specs.declared.lists.Slab.{Slab}
use Rattle.slub_lists.specs.Alloc.{no_lists}
use Rattle.slub_core.specs.Setup.{hardened}
use Rattle.slub_core.specs.Facts.{Facts, pointer_in}
use Rattle.slub_law_opening.specs.Opening.{Row, head_of, frame_of, cache_in, string_row}

-- a list of words as it is read: 0 past its end
abbrev pub read : List ℕ → ℕ → ℕ
read words n = slice_index_or words n 0

-- the items of a row laid into a list of words, the last one first
abbrev pub laid_items : (ℕ → ℕ) → (ℕ → List ℕ → ℕ) → List ℕ → List ℕ → List ℕ
laid_items place value [] words = words
laid_items place value (x ∷ xs) words =
    slice_set (laid_items place value xs words) (place x) (value x xs)

abbrev pub laid : Row → List ℕ → List ℕ
laid row words = laid_items row.place row.value row.items words

-- the free pointers of a freelist of a slab, in a machine of these facts
abbrev pub free_row : Facts → ℕ → ℕ → List ℕ → Row
free_row facts cache frame free = record {
  place = pointer_in facts cache frame;
  value = λ index rest. hardened cache (pointer_in facts cache frame index) (head_of rest);
  items = free;
}

-- its objects have an index, and a free pointer among so many words
abbrev pub IsLayable : Facts → ℕ → ℕ → ℕ → List ℕ → Type 0
IsLayable facts count cache frame free =
    All (λ index. (index < 512) × (pointer_in facts cache frame index < count)) free

-- the own freelist of the slab at a frame
abbrev pub own_in : Facts → List (Option Slab) → List (List ℕ) → ℕ → Row
own_in facts slabs frees frame =
    free_row facts (cache_in (slice_index_or slabs frame None)) frame
    (slice_index_or frees frame [])

-- what a CPU has of a cache, by the number of their word
abbrev pub cpu_in : ℕ → List CpuLists → ℕ → CpuLists
cpu_in cpus lists n =
    cond (nat_lt (n % 16) cpus) (slice_index_or lists (n / 16 * cpus + n % 16) no_lists) no_lists

abbrev pub cpu_free_in : Facts → ℕ → List CpuLists → ℕ → Row
cpu_free_in facts cpus lists n =
    free_row facts (n / 16) (frame_of (cpu_in cpus lists n).current) (cpu_in cpus lists n).free

abbrev pub string_in : ℕ → List CpuLists → ℕ → Row
string_in cpus lists n = string_row (cpu_in cpus lists n).partial
