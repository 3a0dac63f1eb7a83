use Rattle.std.proofs.Common.{◌+◌, ◌≤◌, ap, subst, sym, arith, length}
use Rattle.slub_calls.specs.Laws.{MayDo}
use Rattle.slub_slabinfo_text.specs.Lawful.{IsAtRest}
use Rattle.slub_law_rounds.specs.Round.{IsRound}
use Rattle.slub_rounds.specs.Heap.{IsSoundHeap}
use Rattle.slub_law_replay.specs.Runs.{MachineState, heap_of}
use Rattle.slub_items.specs.Parts.{machine_on}
use Rattle.slub_items.specs.Watched.{DoesWatched}
use Rattle.slub_items.proofs.Items.{sound_heap}
use Rattle.slub_items.proofs.Unwatched.{on_ok}
use Rattle.slub_items.proofs.Watching.{given_left, ready_lawful}
use Rattle.slub_items.proofs.machine.Machine.watched_round.Goals as goal

pub on_heap-ran-requires-clause-sound : goal.on_heap-ran-requires-clause-sound
on_heap-ran-requires-clause-sound g c =
    let (trace, number, due) = c.requires in
    subst (λ (m : MachineState). IsSoundHeap (heap_of m)) (sym c.self.view_is) (sound_heap c.args.self trace number due.ready)

pub on_heap-ran-requires-clause-rest : goal.on_heap-ran-requires-clause-rest
on_heap-ran-requires-clause-rest g c =
    let (trace, number, due) = c.requires in
    subst (λ (m : MachineState). IsAtRest m.lists) (sym c.self.view_is) due.ready.lists.rest

pub on_heap-ran-requires-clause-objects : goal.on_heap-ran-requires-clause-objects
on_heap-ran-requires-clause-objects g c =
    let (trace, number, due) = c.requires in
    subst (λ (m : MachineState). length m.lists.board ≤ 1048577) (sym c.self.view_is) (omega (arith, due.ready.lists.objects, due.sound.objects))

pub on_heap-ran-requires-clause-may_do : goal.on_heap-ran-requires-clause-may_do
on_heap-ran-requires-clause-may_do g c =
    let (trace, number, due) = c.requires in
    (trace, subst (λ (m : MachineState). MayDo m.lists trace c.args.round.now) (sym c.self.view_is) (c.ready_rounds_may_be_done.ensures c.args.self trace number c.args.round.now due.sound due.ready due.here))

pub returns-in-Ok-clause-does : goal.returns-in-Ok-clause-does
returns-in-Ok-clause-does g c =
    let w = g.W.Watch in
    let ran = c.in-Ok in
    let does = on_ok c.on_heap-ran.result.0 (ran.heap, ran.result, ran.others) (λ done. DoesWatched w.begins_round w.chooses w.hears w.is_done c.args.watch c.on_heap-ran.result.1 c.self.inside.heap.lists c.self.inside.heap.ids c.args.round.now done.1 done.0.lists done.0.ids done.2) ran.is c.on_heap-ran.ensures.does in
    subst (λ (m : MachineState). DoesWatched w.begins_round w.chooses w.hears w.is_done c.args.watch c.on_heap-ran.result.1 m.lists m.ids c.args.round.now ran.result ran.heap.lists ran.heap.ids ran.others) c.self.view_is does

pub returns-in-Ok-clause-lawful : goal.returns-in-Ok-clause-lawful
returns-in-Ok-clause-lawful g c =
    let ran = c.in-Ok in
    let law = on_ok c.on_heap-ran.result.0 (ran.heap, ran.result, ran.others) (λ done. IsRound c.self.inside.heap.lists c.args.round.now done.1 done.0.lists) ran.is c.on_heap-ran.ensures.lawful in
    subst (λ (m : MachineState). IsRound m.lists c.args.round.now ran.result ran.heap.lists) c.self.view_is law

pub returns-in-Ok-clause-ready : goal.returns-in-Ok-clause-ready
returns-in-Ok-clause-ready g c = λ trace number due.
    let ran = c.in-Ok in
    let sound = on_ok c.on_heap-ran.result.0 (ran.heap, ran.result, ran.others) (λ done. IsSoundHeap done.0) ran.is c.on_heap-ran.ensures.sound in
    let (kept, does, given) = returns-in-Ok-clause-does g c in
    ready_lawful c.args.self (machine_on ran.heap c.self.inside.reserves (c.self.inside.rounds + 1)) trace number c.args.round.now ran.result kept due (given_left c.args.self.ids kept ran.heap.ids ran.others given)
    (returns-in-Ok-clause-lawful g c) sound (ap (λ (m : MachineState). m.reserves) c.self.view_is) (ap (λ (m : MachineState). m.rounds + 1) c.self.view_is)
