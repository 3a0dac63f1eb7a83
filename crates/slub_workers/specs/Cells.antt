-- Where the words of a machine lie in the table of atomic words. Two processors that change words
-- of one cache line, 64 bytes or 8 words, wait for each other, although neither needs the other's
-- word. The CPU words of a cache are numbered one after another, and so are its list words, and
-- each CPU changes its own; so are the slab words of neighbouring frames, of which each CPU has its
-- own slabs; and so are the lock words, where CPUs that work in two caches take two locks. So the
-- words below `spread_end` lie in cells whose numbers needn't be theirs: any two lock words lie at
-- least 8 cells apart, and so do the CPU words of a cache, the list words of a cache below 15, and
-- the slab words of two frames below 512 of one block of 64. Words of two caches may lie side by
-- side, and so may slab words of two blocks.
-- The 33 lock words exchange their cells with 33 list words: one of cache 15, and two of each cache
-- from 16 on. These list words lie side by side in cells 0 to 32. The words from `spread_end` on
-- lie in the cells of their numbers.
use Rattle.std.specs.Prelude.{◌≡◌, ◌≢◌, ℕ, ◌+◌, ◌-◌, ◌*◌, ◌/◌, ◌%◌, ◌<◌, ◌≤◌, ◌⊎◌, nat_lt, nat_eq, if◌then◌else◌, List, length, map, slice_index_or}
use Rattle.std.specs.List.{range_with_len}
use Rattle.slub_core.specs.Words.{list_base, cpu_base, slab_base}

-- the number, below 512, of the same three octal digits in reverse: numbers that differ little
-- become numbers that differ much
abbrev pub mirrored : ℕ → ℕ
mirrored n = n % 8 * 64 + n / 8 % 8 * 8 + n / 64

-- where the words end that lie so: behind the slab words of frames 0 to 511. In a table of fewer
-- frames words of other kinds stand behind its slab words, and lie so up to here as well
abbrev pub spread_end : ℕ
spread_end = slab_base + 512

-- the list word, numbered among them, that exchanges its cell with this lock word. Its three octal
-- digits are a, b, a, so it is its own mirror. Of the 64 numbers of this form it is one of the last
-- 33, from 373 in octal for lock 0 to 777 for lock 32
abbrev pub list_of_lock : ℕ → ℕ
list_of_lock lock = (lock + 31) * 8 + (lock + 31) / 8

-- the cell of the list word of this number among them: the lock's, where it exchanges its cell with
-- a lock word, and otherwise the mirrored one
abbrev pub list_cell : ℕ → ℕ
list_cell n =
    if nat_eq n (list_of_lock (n / 8 - 31)) then n / 8 - 31
    else list_base + mirrored n

-- the cell of the word of this number
unfoldable pub cell_of : ℕ → ℕ
cell_of n =
    if nat_lt n list_base then list_base + list_of_lock n
    else if nat_lt n cpu_base then list_cell (n - list_base)
    else if nat_lt n slab_base then cpu_base + mirrored (n - cpu_base)
    else if nat_lt n spread_end then slab_base + mirrored (n - slab_base)
    else n

-- the words of these cells in the order of their numbers. It is its own inverse: of words in the
-- order of their numbers it gives the cells
unfoldable pub by_number : List ℕ → List ℕ
by_number cells =
    map (λ n. slice_index_or cells (cell_of n) 0) (range_with_len 0 (length cells))

-- two cells that are in no line together, wherever the lines begin
abbrev pub LieApart : ℕ → ℕ → Type 0
LieApart a b = (a + 8 ≤ b) ⊎ (b + 8 ≤ a)

-- those of any two lock words
abbrev pub LocksLieApart : Type 0
LocksLieApart = (lock other : ℕ) → lock < 33 → other < 33 → lock ≢ other
    → LieApart (cell_of lock) (cell_of other)

-- those of the words of two CPUs of a cache, for the caches below a number, where the words of this
-- kind are numbered from this base on
abbrev pub CpusLieApart : ℕ → ℕ → Type 0
CpusLieApart base caches = (cache cpu other : ℕ) → cache < caches → cpu < 16 → other < 16
    → cpu ≢ other
    → LieApart (cell_of (base + (16 * cache + cpu))) (cell_of (base + (16 * cache + other)))

-- those of the slab words of two frames below 512 of one block of 64
abbrev pub SlabsLieApart : Type 0
SlabsLieApart = (frame other : ℕ) → frame < 512 → other < 512 → frame / 64 ≡ other / 64
    → frame ≢ other → LieApart (cell_of (slab_base + frame)) (cell_of (slab_base + other))
