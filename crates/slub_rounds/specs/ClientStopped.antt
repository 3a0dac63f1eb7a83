-- Why a client's line wasn't served, or a round of it wasn't done.
use Rattle.std.specs.Prelude.{⊤}
use Rattle.slub_rounds.specs.declared.client.LineStopped.{LineStopped}
use Rattle.slub_rounds.specs.declared.client.LineStopped.TheVariants.{NoMemory, TurnsSpent}

-- memory may lack at any time; turns are spent only where this holds of them
abbrev pub IsStoppedWhere : Type 0 → LineStopped → Type 0
IsStoppedWhere spent NoMemory = ⊤
IsStoppedWhere spent TurnsSpent = spent
