use Rattle.std.proofs.Common.{◌≡◌, ◌^◌, ◌<◌, ◌≤◌, ℕ, List, All, ◌∙◌, ap, sym, subst, length, replicate}
use Rattle.slub_trace.specs.declared.event.Event.{Event}
use Rattle.slub_core.specs.Facts as local
use Rattle.slub_schedule.specs.Turns.{turns_of}
use Rattle.slub_turns.specs.Means.{the_means}
use Rattle.slub_rounds.specs.Doing.{AwaitsEvents}
use Rattle.slub_rounds.specs.InOrder.{EndsInOrder, IsSpentInOrder}
use Rattle.slub_rounds.specs.Machine.{beside_in, system_in}
use Rattle.slub_rounds.proofs.Doing.{awaits-begun}
use Rattle.slub_rounds.proofs.Telling.{inside-round}
use Rattle.slub_rounds.proofs.Weights.{begun-turns}
use Rattle.slub_rounds.proofs.Machines.{begun-count, has-ended, is-done, is-spent, ready-begun}
use Rattle.slub_rounds.proofs.in_order.in_words.Goals as goal

pub run_events-requires-clause-ready : goal.run_events-requires-clause-ready
run_events-requires-clause-ready c =
    let (s, ids, b, trace, set) = c.requires.set in
    ready-begun s ids b trace c.args.round.now _ _ set.may (c.begun-machine.ensures.begun s b c.args.round.now set.opens set.workers)

pub run_events-requires-clause-few : goal.run_events-requires-clause-few
run_events-requires-clause-few c =
    let (s, ids, b, trace, set) = c.requires.set in
    subst (λ (es : List Event). length es ≤ 2 ^ 32) (sym c.as_slice-events.ensures) set.may.does.few

pub run_events-requires-clause-workers : goal.run_events-requires-clause-workers
run_events-requires-clause-workers c =
    let (s, ids, b, trace, set) = c.requires.set in
    let counted : length c.begun-machine.result.0.locals.items ≡ c.args.round.now.workers = begun-count s b c.args.round.now _ _ (c.begun-machine.ensures.begun s b c.args.round.now set.opens set.workers) in
    let inside : All (λ (e : Event). e.worker < c.args.round.now.workers) c.args.round.now.events = inside-round trace s c.args.round.now set.may.does in
    let P : ℕ × List Event → Type 0 = λ p. All (λ (e : Event). e.worker < p.0) p.1 in
    subst P (λ i. (sym counted i, sym c.as_slice-events.ensures i)) inside

pub run_events-requires-clause-awaits : goal.run_events-requires-clause-awaits
run_events-requires-clause-awaits c =
    let (s, ids, b, trace, set) = c.requires.set in
    subst (λ (es : List Event). AwaitsEvents es c.begun-machine.result.0.locals.items) (sym c.as_slice-events.ensures)
    (awaits-begun s ids b trace c.args.round.now c.begun-machine.result.0 c.begun-machine.result.1 set.may (c.begun-machine.ensures.begun s b c.args.round.now set.opens set.workers))

pub run_events-requires-clause-passed : goal.run_events-requires-clause-passed
run_events-requires-clause-passed c =
    let (s, ids, b, trace, set) = c.requires.set in
    let counted : length c.begun-machine.result.0.locals.items ≡ c.args.round.now.workers = begun-count s b c.args.round.now _ _ (c.begun-machine.ensures.begun s b c.args.round.now set.opens set.workers) in
    c.requires.passed ∙ ap (λ (n : ℕ). replicate n 0) (sym counted)

pub run_events-requires-clause-turns : goal.run_events-requires-clause-turns
run_events-requires-clause-turns c =
    let (s, ids, b, trace, set) = c.requires.set in
    let begun = c.begun-machine.ensures.begun s b c.args.round.now set.opens set.workers in
    c.requires.turns ∙ sym (begun-turns s (beside_in b) c.args.round.now (inside-round trace s c.args.round.now set.may.does)) ∙ ap turns_of (sym begun.system)

pub closed-requires : goal.closed-requires
closed-requires c =
    let (s, ids, b, trace, set) = c.requires.set in
    let begun = c.begun-machine.ensures.begun s b c.args.round.now set.opens set.workers in
    let ended = c.in-Ok.ensures.ends in
    (s, ids, b, trace, has-ended s ids b trace c.args.round.now c.begun-machine.result.0 c.run_events.new.machine c.begun-machine.result.1 c.args.answers ended.0 set.may begun c.run_events.ensures.setup c.run_events.ensures.ready ended.1.run ended.1.finished set.room)

pub returns-in-Ok : goal.returns-in-Ok
returns-in-Ok c = λ s ids b trace set.
    let begun = c.begun-machine.ensures.begun s b c.args.round.now set.opens set.workers in
    let ended = c.in-Ok.ensures.ends in
    let closed = c.closed.ensures s ids b trace (has-ended s ids b trace c.args.round.now c.begun-machine.result.0 c.run_events.new.machine c.begun-machine.result.1 c.args.answers ended.0 set.may begun c.run_events.ensures.setup c.run_events.ensures.ready ended.1.run ended.1.finished set.room) in
    let E : List Event → Type 0 = λ es. EndsInOrder (local.setup_of c.begun-machine.result.0.setup the_means) es (system_in c.begun-machine.result.0) ended.0 (system_in c.run_events.new.machine) in
    is-done (λ m first picks last. EndsInOrder m c.args.round.now.events first picks last) s ids b trace c.args.round.now c.begun-machine.result.0 c.run_events.new.machine c.begun-machine.result.1 ended.0 c.closed.result set.may begun
    (subst E c.as_slice-events.ensures ended.1) closed

pub returns-in-Err : goal.returns-in-Err
returns-in-Err c = λ s ids b trace set.
    let begun = c.begun-machine.ensures.begun s b c.args.round.now set.opens set.workers in
    let spent = c.in-Err.ensures.spent in
    let E : List Event → Type 0 = λ es. IsSpentInOrder (local.setup_of c.begun-machine.result.0.setup the_means) es (system_in c.begun-machine.result.0) spent.0 (system_in c.run_events.new.machine) in
    is-spent (λ m first picks last. IsSpentInOrder m c.args.round.now.events first picks last) s ids b trace c.args.round.now c.begun-machine.result.0 c.run_events.new.machine c.begun-machine.result.1 spent.0 set.may begun
    (subst E c.as_slice-events.ensures spent.1)
