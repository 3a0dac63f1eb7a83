-- The ranges of numbers that a trace and its lines have.
use Rattle.std.specs.Prelude.{◌≡◌, ℕ, ◌+◌, ◌%◌, ◌≤◌, Option, None, Some, nat_le, if◌then◌else◌, ⊤}

-- the least power of two that is not below 1 to 16 CPUs
abbrev pub step_of : ℕ → ℕ
step_of cpus =
    if nat_le cpus 1 then 1
    else (if nat_le cpus 2 then 2
    else (if nat_le cpus 4 then 4 else (if nat_le cpus 8 then 8 else 16)))

-- a transaction id that the CPUs can start at: a multiple of the step, a step below 2 ^ 32
abbrev pub IsTid : ℕ → Option ℕ → Type 0
IsTid cpus None = ⊤
IsTid cpus (Some tid) = (tid % step_of cpus ≡ 0) × (tid + step_of cpus ≤ 4294967296)

-- a size that a client asks for
abbrev pub IsAskedSize : ℕ → Type 0
IsAskedSize size = (1 ≤ size) × (size ≤ 4294967295)
