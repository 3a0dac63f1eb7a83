-- How object numbers are hashed.
use Rattle.std.specs.Prelude.{ℕ, ◌+◌, ◌*◌, ◌/◌, ◌%◌, ◌^◌, List, fold}
use Rattle.slub_calls.specs.declared.number_hasher.NumberHasher.{NumberHasher}

-- before anything is written
abbrev pub starts : NumberHasher
starts = record { number = 0 }

-- of the bytes that were written the last four are the number, the first of them its lowest
abbrev pub byte_added : ℕ → ℕ → ℕ
byte_added number byte = number / 2 ^ 8 + byte * 2 ^ 24

abbrev pub written : NumberHasher → List ℕ → NumberHasher
written h bytes = record { number = fold byte_added h.number bytes }

-- what eight neighbours have in common, of 64 bits
abbrev pub spread : ℕ → ℕ
spread number = number / 8 * 0x9e37_79b9_7f4a_7c15 % 2 ^ 64

-- the upper 24 bits, of which an index table takes the lowest
abbrev pub group_of : ℕ → ℕ
group_of number = spread number / 2 ^ 40

-- the place among the eight neighbours, and five bits that tell the eights of a group apart
abbrev pub tag_of : ℕ → ℕ
tag_of number = number % 8 * 2 ^ 5 + spread number / 2 ^ 35 % 2 ^ 5

-- the hash of a number, of 32 bits
abbrev pub hash_of : ℕ → ℕ
hash_of number = tag_of number * 2 ^ 24 + group_of number
