use Rattle.std.proofs.Common.{◌<◌, refl, ◌∙◌, length, arith}
use Rattle.slub_engine.proofs.Rounds.{own_default}
use Rattle.slub_rounds.proofs.Doing.{done-all, done-none, event-done, event-inside, event-spent, few-done}
use Rattle.slub_rounds.proofs.in_order.do_events.Goals as goal

pub loop-event-init : goal.loop-event-init
loop-event-init c = record {
  ready = c.requires.ready;
  setup = refl;
  done = done-none _ _ _ _ c.requires.awaits c.requires.passed;
  within = omega arith;
}

pub bounds-passed-worker : goal.bounds-passed-worker
bounds-passed-worker c =
    let within : c.loop-event.event-index < length c.args.events.now = omega arith in
    event-inside _ _ _ _ _ c.requires.workers within c.loop-event.invariant.done.long

pub bounds-passed-worker-in-loop-event : goal.bounds-passed-worker-in-loop-event
bounds-passed-worker-in-loop-event c =
    let within : c.loop-event.event-index < length c.args.events.now = omega arith in
    event-inside _ _ _ _ _ c.requires.workers within c.loop-event.invariant.done.long

pub do_event-requires-clause-worker : goal.do_event-requires-clause-worker
do_event-requires-clause-worker c =
    let within : c.loop-event.event-index < length c.args.events.now = omega arith in
    event-inside _ _ _ _ _ c.requires.workers within c.loop-event.invariant.done.workers

pub overflow_add-passed : goal.overflow_add-passed
overflow_add-passed c =
    let within : c.loop-event.event-index < length c.args.events.now = omega arith in
    few-done _ _ _ _ _ _ _ _ c.loop-event.invariant.done c.requires.workers within c.requires.few

pub loop-event-preserved : goal.loop-event-preserved
loop-event-preserved c =
    let within : c.loop-event.event-index < length c.args.events.now = omega arith in
    let is = own_default _ _ _ within in
    let there = event-inside _ _ _ _ _ c.requires.workers within refl in
    let i = c.loop-event.invariant in
    record {
      ready = c.do_event.ensures.ready;
      setup = c.do_event.ensures.setup ∙ i.setup;
      done = event-done _ _ _ _ _ _ _ _ _ _ _ _ _ i.done i.setup within is there refl c.in-Ok.ensures.through;
      within = c.in-Ok.ensures.through.within;
    }

pub returns-in-Err-clause-spent : goal.returns-in-Err-clause-spent
returns-in-Err-clause-spent c =
    let within : c.loop-event.event-index < length c.args.events.now = omega arith in
    let is = own_default _ _ _ within in
    let there = event-inside _ _ _ _ _ c.requires.workers within refl in
    let i = c.loop-event.invariant in
    event-spent _ _ _ _ _ _ _ _ 0 _ _ _ _ i.done i.setup within is there refl c.requires.ready.may.opening c.requires.ready.may.coherent c.requires.awaits c.requires.turns c.in-Err.ensures.under

pub returns-clause-ends : goal.returns-clause-ends
returns-clause-ends c =
    let i = c.loop-event.invariant in
    done-all _ c.requires.ready.may.opening _ _ _ _ _ _ c.requires.ready.may.coherent c.requires.awaits i.done (omega (arith, c.loop-event.auto)) (omega (arith, i.within, c.requires.turns))
