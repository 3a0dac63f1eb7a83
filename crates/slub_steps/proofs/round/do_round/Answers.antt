use Rattle.std.proofs.Common.{ℕ, ◌+◌, List, Err, subst}
use Rattle.slub_trace.specs.declared.trace.Trace.{Trace}
use Rattle.slub_law_replay.specs.Runs.{IsReadyMachine}
use Rattle.slub_items.specs.Watched.{IsDue}
use Rattle.slub_steps.proofs.Putting.{closed-ready, from-ok}
use Rattle.slub_steps.proofs.Ends.{closes_same}
use Rattle.slub_round_log.specs.Log.{SinkState, Takes}
use Rattle.slub_steps.specs.Inner.{WritesText, due_of}
use Rattle.slub_steps.specs.Rounds.{if_shown}
use Rattle.slub_steps.proofs.Telling.{closed_for, cut_for, nothing_stops, opening_stops, text_stops}
use Rattle.slub_steps.proofs.Dues.{due-named, due-within, due-workers}
use Rattle.slub_steps.proofs.round.do_round.Goals as goal

pub opening-requires-clause-workers : goal.opening-requires-clause-workers
opening-requires-clause-workers g c = due-workers c.args.machine c.args.trace.now c.args.place.number c.args.round.now c.requires

pub kept-requires-clause-workers : goal.kept-requires-clause-workers
kept-requires-clause-workers g c = due-workers c.args.machine c.args.trace.now c.args.place.number c.args.round.now c.requires

pub kept-requires-clause-named : goal.kept-requires-clause-named
kept-requires-clause-named g c = due-named c.args.machine c.args.trace.now c.args.place.number c.args.round.now c.requires

pub close_round-requires-clause-within : goal.close_round-requires-clause-within
close_round-requires-clause-within g c = due-within c.args.machine c.args.trace.now c.args.place.number c.args.round.now c.requires

pub watched_round-result-requires : goal.watched_round-result-requires
watched_round-result-requires g c = (c.args.trace.now, c.args.place.number, c.requires)

pub returns-in-Ok-result-clause-ready : goal.returns-in-Ok-result-clause-ready
returns-in-Ok-result-clause-ready g c =
    let ready = from-ok _ _ (λ done. (trace : Trace) (number : ℕ) → IsDue c.args.machine trace number c.args.round.now → IsReadyMachine done.0 trace (number + 1)) c.in-Ok-result.is c.watched_round-result.ensures.ready in
    closed-ready c.args.trace.now (c.args.place.number + 1) _ _ _ (ready c.args.trace.now c.args.place.number c.requires) (closes_same c.args.place c.args.trace.now c.args.round.now c.args.live.now c.in-Ok-result.machine c.in-Ok-result.left c.in-Ok-result.outcome c.watched_round-result.result.1.kept (record { taken = g.K.Sink.taken c.watched_round-result.result.1.sink; faults = g.K.Sink.faults c.watched_round-result.result.1.sink }) (record { taken = g.K.Sink.taken c.close_round.result.0; faults = g.K.Sink.faults c.close_round.result.0 }) c.close_round.result.1 c.close_round.ensures)

pub returns-in-Err-clause-written : goal.returns-in-Err-clause-written
returns-in-Err-clause-written g c = λ sayer opens.
    nothing_stops (due_of c.args.place c.args.trace.now c.args.round.now sayer c.args.live.now) c.args.place.is_shown c.args.machine (record { taken = g.K.Sink.taken c.args.sink; faults = g.K.Sink.faults c.args.sink })

pub returns-in-Err-show-clause-written : goal.returns-in-Err-show-clause-written
returns-in-Err-show-clause-written g c = λ sayer opens.
    let old : SinkState = (record { taken = g.K.Sink.taken c.args.sink; faults = g.K.Sink.faults c.args.sink }) in
    let begun : SinkState = (record { taken = g.K.Sink.taken c.show.new.sink; faults = g.K.Sink.faults c.show.new.sink }) in
    text_stops ℕ (due_of c.args.place c.args.trace.now c.args.round.now sayer c.args.live.now) c.args.place.is_shown c.args.machine old begun c.in-Ok.head.items c.in-Err-show.stop (c.in-Ok.ensures sayer)
    (subst (λ (text : List ℕ). WritesText {A = ℕ} old begun (if_shown c.args.place.is_shown text) (Err c.in-Err-show.stop)) c.as_slice.ensures.value c.in-Err-show.ensures)

pub returns-in-Err-kept-clause-written : goal.returns-in-Err-kept-clause-written
returns-in-Err-kept-clause-written g c = λ sayer opens.
    let old : SinkState = (record { taken = g.K.Sink.taken c.args.sink; faults = g.K.Sink.faults c.args.sink }) in
    let begun : SinkState = (record { taken = g.K.Sink.taken c.show.new.sink; faults = g.K.Sink.faults c.show.new.sink }) in
    opening_stops (due_of c.args.place c.args.trace.now c.args.round.now sayer c.args.live.now) c.args.place.is_shown c.args.machine old begun c.in-Ok.head.items (c.in-Ok.ensures sayer)
    (subst (λ (text : List ℕ). Takes old begun (if_shown c.args.place.is_shown text)) c.as_slice.ensures.value c.in_default.ensures)

pub returns-in-Ok-result-clause-written : goal.returns-in-Ok-result-clause-written
returns-in-Ok-result-clause-written g c = λ sayer opens.
    let old : SinkState = (record { taken = g.K.Sink.taken c.args.sink; faults = g.K.Sink.faults c.args.sink }) in
    let begun : SinkState = (record { taken = g.K.Sink.taken c.show.new.sink; faults = g.K.Sink.faults c.show.new.sink }) in
    let new : SinkState = (record { taken = g.K.Sink.taken c.close_round.result.0; faults = g.K.Sink.faults c.close_round.result.0 }) in
    closed_for c.watched_round-result.result.1 (record { kept = c.in-Ok-kept.kept; sink = c.show.new.sink }) (λ w. w.kept) (λ w. w.sink) g.K.Sink.taken g.K.Sink.faults
    c.args.place c.args.trace.now c.args.round.now sayer c.args.live.now c.args.machine c.in-Ok-result.machine c.args.choice c.in-Ok-result.outcome c.in-Ok-result.left c.in-Ok.head.items old new c.close_round.result.1
    c.in-Ok-kept.ensures opens (c.in-Ok.ensures sayer) (subst (λ (text : List ℕ). Takes old begun (if_shown c.args.place.is_shown text)) c.as_slice.ensures.value c.in_default.ensures)
    (rw c.in-Ok-result.is at c.watched_round-result.ensures.does) (rw c.in-Ok-result.is at c.watched_round-result.ensures.lawful) (rw c.in-Ok-result.is at c.watched_round-result.ensures.reserves) (rw c.in-Ok-result.is at c.watched_round-result.ensures.counted)
    c.close_round.ensures

pub returns-clause-written : goal.returns-clause-written
returns-clause-written g c = λ sayer opens.
    let old : SinkState = (record { taken = g.K.Sink.taken c.args.sink; faults = g.K.Sink.faults c.args.sink }) in
    let begun : SinkState = (record { taken = g.K.Sink.taken c.show.new.sink; faults = g.K.Sink.faults c.show.new.sink }) in
    cut_for c.watched_round-result.result.1 (record { kept = c.in-Ok-kept.kept; sink = c.show.new.sink }) (λ w. w.kept) (λ w. w.sink) g.K.Sink.taken g.K.Sink.faults
    c.args.place c.args.trace.now c.args.round.now sayer c.args.live.now c.args.machine c.args.choice c.in-Err-result.why c.stop_of-stop.result c.in-Ok.head.items c.turns-turns.result old
    c.in-Ok-kept.ensures opens (c.in-Ok.ensures sayer) (subst (λ (text : List ℕ). Takes old begun (if_shown c.args.place.is_shown text)) c.as_slice.ensures.value c.in_default.ensures)
    (rw c.in-Err-result.is at c.watched_round-result.ensures.unwatched) c.turns-turns.ensures c.stop_of-stop.ensures
