-- The numbers of statuses.
use Rattle.std.specs.Prelude.{ℕ}
use Rattle.slub_picks.specs.declared.status.Status.{Status}
use Rattle.slub_picks.specs.declared.status.Status.TheVariants.{Fine, Refused, BadWords, BadTrace, ReadFault, WriteFault, NoMemory, TurnsSpent, BadPicks}

-- the number with which the program ends
abbrev pub number_of : Status → ℕ
number_of Fine = 0
number_of Refused = 1
number_of BadWords = 2
number_of BadTrace = 3
number_of ReadFault = 4
number_of WriteFault = 5
number_of NoMemory = 6
number_of TurnsSpent = 7
number_of BadPicks = 8
