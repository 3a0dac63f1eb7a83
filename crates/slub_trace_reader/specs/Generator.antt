-- The numbers that a seed gives.
use Rattle.std.specs.Prelude.{ℕ, zero, suc, ◌+◌, ◌*◌, ◌/◌, ◌%◌, ◌^◌}

-- the next state of the generator
unfoldable pub next : ℕ → ℕ
next x = (x * 6364136223846793005 + 1442695040888963407) % 2 ^ 64

-- the number that is drawn with a new state: its upper 31 bits
unfoldable pub drawn : ℕ → ℕ
drawn x = x / 2 ^ 33

-- the state once so many numbers were drawn
unfoldable pub state_after : ℕ → ℕ → ℕ
state_after seed zero = seed
state_after seed (suc count) = next (state_after seed count)

-- the number that is drawn after so many others
unfoldable pub number : ℕ → ℕ → ℕ
number seed before = drawn (state_after seed (suc before))
