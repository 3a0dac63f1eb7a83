-- The machine between two items, by its parts.
use Rattle.std.specs.Prelude.{ℕ, List}
use Rattle.slub_rounds.specs.Heap.{HeapState}
use Rattle.slub_rounds.specs.Reserves.{Reserve}
use Rattle.slub_law_replay.specs.Runs.{MachineState}

-- a heap, the reserves of its clients, and how many `round` lines were done
abbrev pub machine_on : HeapState → List Reserve → ℕ → MachineState
machine_on h reserves rounds =
    record { lists = h.lists; ids = h.ids; reserves = reserves; rounds = rounds }
