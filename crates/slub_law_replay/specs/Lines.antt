-- A client's line has one outcome.
use Rattle.std.specs.Prelude.{◌≡◌}
use Rattle.slub_trace.specs.declared.trace.Client.{Client as Asked}
use Rattle.slub_trace.specs.declared.trace.Trace.{Trace}
use Rattle.slub_slabinfo_text.specs.declared.client.ClientDone.{ClientDone}
use Rattle.slub_law_replay.specs.Runs.{MachineState, Serves, heap_of}

-- the same rounds and the same answer, and after them the same lists, transaction ids and reserves
pub record AreOneLine (one other : ClientDone) (left right : MachineState) : Type 0 where
  pub done : one ≡ other
  pub heap : heap_of left ≡ heap_of right
  pub reserves : left.reserves ≡ right.reserves

-- that memory was there for each event of its rounds is a part of how a line is served
abbrev pub LinesHaveOneOutcome : Type 0
LinesHaveOneOutcome =
    (m : MachineState) (trace : Trace) (client : Asked) (one other : ClientDone)
    (left right : MachineState) → Serves m trace client one left
    → Serves m trace client other right → AreOneLine one other left right
