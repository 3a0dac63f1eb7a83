-- The transaction ids of the CPU words between rounds, by 16 * cache + CPU.
use Rattle.std.specs.Prelude.{◌≡◌, ℕ, ◌+◌, ◌*◌, ◌/◌, ◌%◌, ◌^◌, ◌<◌, ◌≤◌, nat_lt, if◌then◌else◌, List, length, map, slice_index_or, IsSome}
use Rattle.std.specs.Int.{IsPowerOfTwo}
use Rattle.std.specs.List.{range_with_len}
use Rattle.slub_lists.specs.State.{State}
use Rattle.slub_lists.specs.Alloc.{cache_of}
use Rattle.slub_law_opening.specs.Opening.{cpu_at}

abbrev pub id_at : List ℕ → ℕ → ℕ
id_at ids n = slice_index_or ids n 0

-- each change of a CPU word adds this to its id: the least power of two that isn't below the number
-- of CPUs (`TID_STEP`)
abbrev pub IsStepOf : ℕ → ℕ → Type 0
IsStepOf cpus step = IsPowerOfTwo step × (cpus ≤ step) × (step < 2 * cpus)

-- the words of CPU c begin at the machine's first id plus c (`init_tid`); a CPU that isn't there
-- has an empty word
abbrev pub first_id : ℕ → ℕ → ℕ → ℕ
first_id first cpus n = if nat_lt (n % 16) cpus then first + n % 16 else 0

abbrev pub first_ids : ℕ → ℕ → List ℕ
first_ids first cpus = map (first_id first cpus) (range_with_len 0 512)

-- the ids fit the machine: that of CPU c leaves c by the step, and a current slab can be detached
pub record AreIds (s : State) (ids : List ℕ) : Type 0 where
  pub step : ℕ
  pub least : IsStepOf s.cpus step
  pub count : length ids ≡ 512
  pub below : (n : ℕ) → id_at ids n < 2 ^ 32
  pub room : (n : ℕ) → IsSome (cpu_at s n).current → id_at ids n + step < 2 ^ 32
  pub remainder : (n : ℕ) → n < 512 → n % 16 < s.cpus → IsSome (cache_of s (n / 16))
      → id_at ids n % step ≡ n % 16
