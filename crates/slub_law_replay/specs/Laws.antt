-- What holds of rounds of every way, and of machines before an item and after it.
use Rattle.std.specs.Prelude.{◌≡◌, ℕ, ◌+◌, ◌^◌, ◌≤◌, List, length, Option, Some, is_some, slice_get, slice_index}
use Rattle.slub_trace.specs.declared.event.Round.{Round as Events}
use Rattle.slub_trace.specs.declared.trace.Client.{Client as Asked}
use Rattle.slub_trace.specs.declared.trace.Item.TheVariants.{Client, Round}
use Rattle.slub_trace.specs.declared.trace.Trace.{Trace}
use Rattle.slub_trace.specs.Sound.{IsSound, asked_objects}
use Rattle.slub_lists.specs.State.{State}
use Rattle.slub_lists.specs.Coherent.{IsCoherent}
use Rattle.slub_calls.specs.Laws.{MayDo}
use Rattle.slub_slabinfo_text.specs.declared.client.ClientDone.{ClientDone}
use Rattle.slub_slabinfo_text.specs.declared.journal.Done.{Done}
use Rattle.slub_slabinfo_text.specs.declared.journal.RoundResult.{RoundResult}
use Rattle.slub_slabinfo_text.specs.Lawful.{IsAtRest, coming}
use Rattle.slub_law_rounds.specs.Round.{IsRound}
use Rattle.slub_rounds.specs.Asked.{IsOpenTo, IsServable}
use Rattle.slub_law_replay.specs.declared.way.Way.{Way}
use Rattle.slub_law_replay.specs.Ways.{DoesRoundBy}
use Rattle.slub_law_replay.specs.Runs.{DoesAt, IsReadyMachine, MachineState, Serves, heap_of}

-- a round of a trace that is done on a coherent machine at rest is lawful, whatever the way
abbrev pub RoundsOfAnyWayAreLawful : Type 0
RoundsOfAnyWayAreLawful =
    (way : Way) (rounds : ℕ) (s : State) (ids : Option (List ℕ)) (trace : Trace)
    (round : Events) (result : RoundResult) (after : State) (left : Option (List ℕ))
    → IsCoherent s → IsAtRest s → MayDo s trace round
    → DoesRoundBy way rounds s ids round result after left → IsRound s round result after

-- a machine that stands before a round of a sound trace can do it
abbrev pub ReadyRoundsMayBeDone : Type 0
ReadyRoundsMayBeDone =
    (m : MachineState) (trace : Trace) (number : ℕ) (round : Events) → IsSound trace
    → IsReadyMachine m trace number → slice_get trace.items number ≡ Some (Round round)
    → MayDo m.lists trace round

-- and the heap of one that stands before a client's line is such that the line can be served: it is
-- open to what the line may allocate, and beside that to what is still to come after it
abbrev pub ReadyLinesMayBeServed : Type 0
ReadyLinesMayBeServed =
    (m : MachineState) (trace : Trace) (number : ℕ) (client : Asked) → IsSound trace
    → IsReadyMachine m trace number → slice_get trace.items number ≡ Some (Client client)
    → IsServable (heap_of m) trace client
    × IsOpenTo (heap_of m) trace
    (length (asked_objects client) + length (coming trace (number + 1)))

-- after a client's line ids stand beside the lists where they stood before it
abbrev pub LinesLeaveIds : Type 0
LinesLeaveIds =
    (m : MachineState) (trace : Trace) (client : Asked) (done : ClientDone) (after : MachineState)
    → Serves m trace client done after → is_some after.ids ≡ is_some m.ids

-- after an item, too, each count of wanted frames stays below 2^62, even if every number that is
-- still to be allocated wants frames
abbrev pub ItemsLeaveRoom : Type 0
ItemsLeaveRoom =
    (way : Way) (m : MachineState) (trace : Trace) (number : ℕ) (done : Done)
    (after : MachineState) → IsSound trace → IsReadyMachine m trace number
    → DoesAt way m trace number done after → IsCoherent after.lists → (order : ℕ)
    → slice_index after.lists.pool.dry order + length (coming trace (number + 1)) ≤ 2 ^ 62
