-- Why a round, or an item, wasn't done.
use Rattle.std.specs.Prelude.{◌≡◌, ℕ, List, Option, Some, None, MatchOption, ⊤, slice_get}
use Rattle.slub_trace.specs.declared.event.Round.{Round}
use Rattle.slub_lists.specs.State.{State}
use Rattle.slub_trace.specs.declared.trace.Item.{Item}
use Rattle.slub_trace.specs.declared.trace.Item.TheVariants as item
use Rattle.slub_trace.specs.declared.trace.Trace.{Trace}
use Rattle.slub_slabinfo_text.specs.Lawful.{TakesMemoryAt}
use Rattle.slub_rounds.specs.declared.scheduled.StepsStopped.{StepsStopped}
use Rattle.slub_rounds.specs.declared.scheduled.StepsStopped.TheVariants as steps_stopped
use Rattle.slub_rounds.specs.Heap.{HeapState}
use Rattle.slub_rounds.specs.declared.heap.RoundStopped.{RoundStopped}
use Rattle.slub_rounds.specs.declared.heap.RoundStopped.TheVariants as round_stopped
use Rattle.slub_law_replay.specs.declared.way.Way.{Way}
use Rattle.slub_law_replay.specs.Runs.{MachineState, SpendsAt}
use Rattle.slub_law_replay.specs.Ways.{SpendsTurnsBy}
use Rattle.slub_items.specs.declared.machine.Stopped.{Stopped}
use Rattle.slub_items.specs.declared.machine.Stopped.TheVariants.{NoMemory, TurnsSpent}

-- ---- rounds

-- why the steps of a round weren't made by a way, after so many `round` lines: there was no memory,
-- and the lists are as they were; or all its turns are made, and a worker is unfinished
abbrev pub AreStepsStopped
    : Way → ℕ → State → Option (List ℕ) → Round → StepsStopped → Type 0
AreStepsStopped way rounds s ids round (steps_stopped.NoMemory lists) = lists ≡ s
AreStepsStopped way rounds s ids round steps_stopped.TurnsSpent =
    SpendsTurnsBy way rounds s ids round

-- the same of a round on a heap
abbrev pub IsRoundStopped : Way → ℕ → HeapState → Round → RoundStopped → Type 0
IsRoundStopped way rounds h round (round_stopped.NoMemory after) = after ≡ h
IsRoundStopped way rounds h round round_stopped.TurnsSpent =
    SpendsTurnsBy way rounds h.lists h.ids round

-- and of a machine
abbrev pub IsMachineStopped : Way → MachineState → Round → Stopped → Type 0
IsMachineStopped way m round (NoMemory after) = after ≡ Some m
IsMachineStopped way m round TurnsSpent = SpendsTurnsBy way m.rounds m.lists m.ids round

-- ---- items

-- a client's line
abbrev pub IsClient : Item → Type 0
IsClient (item.Client client) = ⊤
IsClient _ = ⊥

-- the item of this number is one
abbrev pub IsClientAt : Trace → ℕ → Type 0
IsClientAt trace number = MatchOption (slice_get trace.items number) ⊥ IsClient

-- the machine is there as it was, or it is gone with a client's line
abbrev pub IsLeftOf : MachineState → Trace → ℕ → Option MachineState → Type 0
IsLeftOf m trace number (Some after) = after ≡ m
IsLeftOf m trace number None = IsClientAt trace number

-- why the item of this number wasn't done: there was no memory, where it takes some; or all turns
-- of a round of it are made, and a worker is unfinished
abbrev pub IsStopped : Way → MachineState → Trace → ℕ → Stopped → Type 0
IsStopped way m trace number (NoMemory left) =
    TakesMemoryAt trace number × IsLeftOf m trace number left
IsStopped way m trace number TurnsSpent = SpendsAt way m trace number
