use Rattle.std.proofs.Common.{sym, ◌∙◌, arith, inl, inr}
use Rattle.slub_law_replay.proofs.Ready.{opened_machine_ready}
use Rattle.slub_steps.specs.Inner.{wanted_by}
use Rattle.slub_steps.proofs.Doing.{come_first, come_more, come_stopped, come_to_end}
use Rattle.slub_steps.proofs.Putting.{stands-few, stands-first}
use Rattle.slub_steps.proofs.replay.Progress.do_items.Goals as goal
use Rattle.slub_steps.proofs.replay.Progress.do_items.Goals.{else-loop-number-test, then-loop-number-test+then-is_done}

pub loop-number-init : goal.loop-number-init
loop-number-init g c = record {
  stands = stands-first c.args.trace.now c.args.machine c.args.self.journal.items (opened_machine_ready c.args.trace.now c.requires.sound c.requires.coherent) c.requires.coherent c.requires.opened c.requires.empty.items;
  come = come_first (wanted_by c.args.plan) c.args.trace.now c.args.machine c.args.self.journal.items c.args.self.live c.args.self.rounds (record { taken = g.K.Sink.taken c.args.self.sink; faults = g.K.Sink.faults c.args.self.sink }) c.requires.opened c.requires.empty.items c.requires.live c.requires.rounds;
}

pub do_item-after-requires-clause-before : goal.do_item-after-requires-clause-before
do_item-after-requires-clause-before g c κs within = c.loop-number.invariant.come.before

pub returns-in-Err-clause-run : goal.returns-in-Err-clause-run
returns-in-Err-clause-run g c =
    come_stopped (wanted_by c.args.plan) c.args.trace.now c.loop-number.number c.loop-number.machine c.loop-number.progress.journal.items c.loop-number.progress.live c.loop-number.progress.rounds (record { taken = g.K.Sink.taken c.args.self.sink; faults = g.K.Sink.faults c.args.self.sink }) (record { taken = g.K.Sink.taken c.loop-number.progress.sink; faults = g.K.Sink.faults c.loop-number.progress.sink }) (record { taken = g.K.Sink.taken c.do_item-after.result.0.sink; faults = g.K.Sink.faults c.do_item-after.result.0.sink }) c.in-Err.stop
    c.loop-number.invariant.come (sym c.is_done.ensures ∙ c.if-is_done.false) (rw c.in-Err.is at c.do_item-after.ensures.moved)

pub loop-number-preserved : goal.loop-number-preserved
loop-number-preserved g c = record {
  stands = record { ready = rw c.in-Ok.is at c.do_item-after.ensures.ready; counted = rw c.in-Ok.is at c.do_item-after.ensures.counted };
  come = come_more (wanted_by c.args.plan) c.args.trace.now c.loop-number.number c.loop-number.machine c.in-Ok.next c.loop-number.progress.journal.items c.do_item-after.result.0.journal.items c.loop-number.progress.live c.do_item-after.result.0.live c.loop-number.progress.rounds c.do_item-after.result.0.rounds (record { taken = g.K.Sink.taken c.args.self.sink; faults = g.K.Sink.faults c.args.self.sink }) (record { taken = g.K.Sink.taken c.loop-number.progress.sink; faults = g.K.Sink.faults c.loop-number.progress.sink }) (record { taken = g.K.Sink.taken c.do_item-after.result.0.sink; faults = g.K.Sink.faults c.do_item-after.result.0.sink })
      c.loop-number.invariant.come (sym c.is_done.ensures ∙ c.if-is_done.false) c.do_item-after.ensures.before (rw c.in-Ok.is at c.do_item-after.ensures.moved);
}

pub returns-clause-few : goal.returns-clause-few
returns-clause-few g c = stands-few c.args.trace.now c.loop-number.number c.loop-number.machine _ c.requires.sound c.loop-number.invariant.stands

pub returns-clause-run : goal.returns-clause-run
returns-clause-run g c = elim c.loop-number-test.branch [
  | else-loop-number-test w ↦ come_to_end (wanted_by c.args.plan) c.args.trace.now c.loop-number.number c.loop-number.machine c.loop-number.progress.journal.items c.loop-number.progress.live c.loop-number.progress.rounds (record { taken = g.K.Sink.taken c.args.self.sink; faults = g.K.Sink.faults c.args.self.sink }) (record { taken = g.K.Sink.taken c.loop-number.progress.sink; faults = g.K.Sink.faults c.loop-number.progress.sink }) c.loop-number.invariant.come
      (inl (omega (arith, c.loop-number.auto.number-end, w.loop-number-test.false, c.len-number-end.ensures)))
  | then-loop-number-test+then-is_done w ↦ come_to_end (wanted_by c.args.plan) c.args.trace.now c.loop-number.number c.loop-number.machine c.loop-number.progress.journal.items c.loop-number.progress.live c.loop-number.progress.rounds (record { taken = g.K.Sink.taken c.args.self.sink; faults = g.K.Sink.faults c.args.self.sink }) (record { taken = g.K.Sink.taken c.loop-number.progress.sink; faults = g.K.Sink.faults c.loop-number.progress.sink }) c.loop-number.invariant.come
      (inr (sym w.is_done.ensures ∙ w.if-is_done.true))
]
