-- The bits of the packed words. All of it is profile, but for the hardened free pointers, which are
-- those of Linux 6.1.
use Rattle.std.specs.Prelude.{◌≡◌, ℕ, zero, suc, ◌+◌, ◌-◌, ◌*◌, ◌/◌, ◌%◌, ◌^◌, ◌<◌, ◌≤◌, Bool, bit_xor, if◌then◌else◌}
use Rattle.std.specs.Int.{swap_bytes, w64}
use Rattle.slub_words.specs.declared.board.BoardWord.{BoardWord}
use Rattle.slub_words.specs.declared.cpu.CpuWord.{CpuWord}
use Rattle.slub_words.specs.declared.slab.SlabWord.{SlabWord}

-- the head in bits 0 to 15, the frame in 16 to 31, the tid in 32 to 63
abbrev pub cpu_bits : CpuWord → ℕ
cpu_bits word = word.head + word.frame * 2 ^ 16 + word.tid * 2 ^ 32

-- the word with this bit alone, where it is set
abbrev pub bit_if : Bool → ℕ → ℕ
bit_if set k = if set then 2 ^ k else 0

-- the head in bits 0 to 15, inuse in 16 to 31, objects in 32 to 47, frozen in 48, listed in 49, the
-- cache in 56 to 63
abbrev pub slab_bits : SlabWord → ℕ
slab_bits word =
    word.head + word.inuse * 2 ^ 16 + word.objects * 2 ^ 32 + bit_if word.frozen 48
    + bit_if word.listed 49 + word.cache * 2 ^ 56

-- bits 50 to 55 are 0
abbrev pub IsSlabWord : ℕ → Type 0
IsSlabWord word = word / 2 ^ 50 % 2 ^ 6 ≡ 0

-- the index plus one in bits 0 to 15, the frame in 16 to 31, the cache in 32 to 39
abbrev pub board_bits : BoardWord → ℕ
board_bits word = (word.index + 1) + word.frame * 2 ^ 16 + word.cache * 2 ^ 32

-- no bit above 39 is set, and there is an object
abbrev pub IsBoardWord : ℕ → Type 0
IsBoardWord word = (word < 2 ^ 40) × (1 ≤ word % 2 ^ 16)

-- a free pointer as it is stored, and one that is stored as it is: the pointer xor the cache's
-- random number xor the byte-swapped place (`freelist_ptr`)
unfoldable pub freelist_ptr : ℕ → ℕ → ℕ → ℕ
freelist_ptr pointer random place = bit_xor (bit_xor pointer random) (swap_bytes w64 place)

-- a stored word that has a pointer in it, and not what a stale read may find
abbrev pub IsWhole : ℕ → ℕ → ℕ → Type 0
IsWhole word random place = freelist_ptr word random place < 2 ^ 16

-- the next number of the generator
abbrev pub drawn : ℕ → ℕ
drawn x = (x * 6364136223846793005 + 1442695040888963407) % 2 ^ 64

-- the number after this many steps of the generator from 1
abbrev pub steps_from_one : ℕ → ℕ
steps_from_one zero = 1
steps_from_one (suc n) = drawn (steps_from_one n)

-- so near the end of the tids that no more than one step is sure to fit
abbrev pub IsSpent : ℕ → ℕ → Type 0
IsSpent tid step = 4294967295 - 2 * step < tid
