use Rattle.std.proofs.Common.{◌<◌, ◌≤◌, length, arith}
use Rattle.slub_engine.proofs.Rounds.{own_default}
use Rattle.slub_engine.proofs.UnderWay.{ended_sizes, ended_unheld, has_run_all, has_run_next, may_answer}
use Rattle.slub_engine.proofs.item.serial.Goals as goal

pub event-requires : goal.event-requires
event-requires c =
    let within : c.loop-event.event-index < length c.as_slice-events.result.now = omega arith in
    let same = c.as_slice-events.ensures in (
      _,
      _,
      _,
      _,
      may_answer _ _ _ _ _ _ _ _ c.loop-event.invariant (rw same c.requires.known) (rw same c.requires.unheld) (rw same c.requires.distinct) (omega arith) within (own_default _ _ _ within),
    )

pub loop-event-preserved : goal.loop-event-preserved
loop-event-preserved c =
    let within : c.loop-event.event-index < length c.as_slice-events.result.now = omega arith in
    let room : length c.as_slice-events.result.now ≤ length c.as_slice-events.result.now = omega arith in
    let same = c.as_slice-events.ensures in
    let is = own_default _ _ _ within in
    let may = may_answer _ _ _ _ _ _ _ _ c.loop-event.invariant (rw same c.requires.known) (rw same c.requires.unheld) (rw same c.requires.distinct) room within is in
    has_run_next _ _ _ _ _ _ _ _ (c.event.ensures.runs _ _ _ _ may) within is

pub end-requires : goal.end-requires
end-requires c = (_, _, _, _, c.loop-event.invariant)

pub returns-clause-round : goal.returns-clause-round
returns-clause-round c =
    let run = has_run_all _ _ _ _ _ _ _ c.loop-event.invariant (omega (arith, c.loop-event.auto)) in
    c.end.ensures.round c.args.lists.now (length c.as_slice-events.result.now) c.args.round.now (rw (← c.as_slice-events.ensures) run)

pub returns-clause-sizes : goal.returns-clause-sizes
returns-clause-sizes c = ended_sizes _ _ _ _ _ _ _ c.loop-event.invariant c.end.ensures.board

pub returns-clause-unheld : goal.returns-clause-unheld
returns-clause-unheld c =
    let run = has_run_all _ _ _ _ _ _ _ c.loop-event.invariant (omega (arith, c.loop-event.auto)) in
    rw (← c.as_slice-events.ensures) (ended_unheld _ _ _ _ _ _ _ run c.end.ensures.board)
