-- Why a round in the order of the text wasn't done.
use Rattle.std.specs.Prelude.{◌≡◌}
use Rattle.slub_trace.specs.declared.event.Round.{Round}
use Rattle.slub_rounds.specs.Heap.{HeapState, SpendsRoundOf}
use Rattle.slub_rounds.specs.declared.heap.RoundStopped.{RoundStopped}
use Rattle.slub_rounds.specs.declared.heap.RoundStopped.TheVariants.{NoMemory, TurnsSpent}

-- there was no memory, and the heap is as it was; or all turns of the round are made, and a worker
-- is unfinished
abbrev pub IsStoppedBy : HeapState → Round → RoundStopped → Type 0
IsStoppedBy h round (NoMemory after) = after ≡ h
IsStoppedBy h round TurnsSpent = SpendsRoundOf h round
