-- Why a round wasn't done.
use Rattle.std.specs.Prelude.{◌≡◌, ℕ, List}
use Rattle.slub_trace.specs.declared.event.Round.{Round}
use Rattle.slub_lists.specs.State.{State}
use Rattle.slub_rounds.specs.declared.scheduled.StepsStopped.{StepsStopped}
use Rattle.slub_rounds.specs.declared.scheduled.StepsStopped.TheVariants.{NoMemory, TurnsSpent}
use Rattle.slub_rounds.specs.Rounds.{SpendsTurns, SpendsTurnsInOrder}

-- for want of memory nothing was done; or all turns were made
abbrev pub IsStopped : State → List ℕ → ℕ → Round → StepsStopped → Type 0
IsStopped s ids seed round (NoMemory lists) = lists ≡ s
IsStopped s ids seed round TurnsSpent = SpendsTurns s ids seed round

-- the same of a round in the order of the text
abbrev pub IsStoppedInOrder : State → List ℕ → Round → StepsStopped → Type 0
IsStoppedInOrder s ids round (NoMemory lists) = lists ≡ s
IsStoppedInOrder s ids round TurnsSpent = SpendsTurnsInOrder s ids round
