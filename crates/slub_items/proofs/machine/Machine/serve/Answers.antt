use Rattle.std.proofs.Common.{length, subst}
use Rattle.std.proofs.lemmas.Result.{err_from_is_err_and}
use Rattle.slub_trace.specs.Sound.{asked_objects}
use Rattle.slub_engine.specs.Steps.{KeepsUnheld}
use Rattle.slub_rounds.specs.Asked.{StaysOpen}
use Rattle.slub_rounds.specs.ClientStopped.{IsStoppedWhere}
use Rattle.slub_law_replay.specs.Runs.{MachineState, Serves, SpendsLine, heap_of}
use Rattle.slub_items.specs.Parts.{machine_on}
use Rattle.slub_items.proofs.machine.Machine.serve.Goals as goal

pub returns-clause-served : goal.returns-clause-served
returns-clause-served c =
    let line = c.in_ok-heap in
    subst (λ (m : MachineState). Serves m c.args.trace.now c.args.client.now line.done (machine_on line.heap c.serve_on.new.reserves c.self.inside.rounds)) c.self.view_is (line.ensures.served c.self.inside.rounds)

pub returns-clause-stays : goal.returns-clause-stays
returns-clause-stays c =
    subst (λ (m : MachineState). StaysOpen (heap_of m) c.args.trace.now (length (asked_objects c.args.client.now)) c.in_ok-heap.heap) c.self.view_is c.in_ok-heap.ensures.stays

pub returns-clause-unheld : goal.returns-clause-unheld
returns-clause-unheld c = subst (λ (m : MachineState). KeepsUnheld m.lists (asked_objects c.args.client.now) c.in_ok-heap.heap.lists) c.self.view_is c.in_ok-heap.ensures.unheld

pub returns-in_err-heap-clause-stopped : goal.returns-in_err-heap-clause-stopped
returns-in_err-heap-clause-stopped c =
    let p = err_from_is_err_and c.from_residual.result c.from_residual.ensures.1 in
    rw (p.1, p.2) (subst (λ (m : MachineState). IsStoppedWhere (SpendsLine m c.args.trace.now c.args.client.now) c.in_err-heap.field-0.0) c.self.view_is (c.in_err-heap.ensures.stopped c.self.inside.rounds))
