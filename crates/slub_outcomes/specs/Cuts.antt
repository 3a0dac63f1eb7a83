-- For proofs and private clauses: why an item wasn't done.
use Rattle.slub_items.specs.declared.machine.Stopped.{Stopped}
use Rattle.slub_items.specs.declared.machine.Stopped.TheVariants as stopped
use Rattle.slub_outcomes.specs.declared.replay.Cut.{Cut}
use Rattle.slub_outcomes.specs.declared.replay.Cut.TheVariants.{NoMemory, TurnsSpent}

-- what the machine says of it
abbrev pub cut_of : Stopped → Cut
cut_of (stopped.NoMemory machine) = NoMemory
cut_of stopped.TurnsSpent = TurnsSpent
