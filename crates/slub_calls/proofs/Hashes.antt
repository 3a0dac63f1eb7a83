-- What the hasher makes of the bytes of a number.
use Rattle.std.proofs.Common.{◌≡◌, ℕ, ◌<◌, ◌^◌, fold, arith}
use Rattle.std.specs.Hash.{le_bytes}
use Rattle.slub_calls.specs.NumberHasher.{byte_added}

-- of the four bytes of a number comes the number
pub number_written : (before n : ℕ) → before < 2 ^ 32 → n < 2 ^ 32 → n ≡ fold byte_added before (le_bytes 4 n)
unfolding le_bytes
number_written before n low fits = omega (arith, low, fits)
