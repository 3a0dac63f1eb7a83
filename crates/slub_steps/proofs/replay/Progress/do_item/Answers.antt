use Rattle.std.proofs.Common.{◌≡◌, ◌+◌, get_or}
use Rattle.slub_round_log.specs.Log.{SinkState}
use Rattle.slub_steps.specs.Inner.{wanted_by}
use Rattle.slub_steps.proofs.Doing.{before_more, moved}
use Rattle.slub_law_replay.specs.Runs.{IsReadyMachine}
use Rattle.slub_steps.specs.Counted.{CountsOn}
use Rattle.slub_steps.proofs.Putting.{from-ok, item-here, kept-counted, kept-ready}
use Rattle.slub_steps.proofs.replay.Progress.do_item.Goals as goal

pub returns-in-Ok-clause-ready : goal.returns-in-Ok-clause-ready
returns-in-Ok-clause-ready g c =
    kept-ready c.args.trace.now c.args.number _ c.keep-result.result (from-ok _ _ (λ done. IsReadyMachine done.0 c.args.trace.now (c.args.number + 1)) c.in-Ok.is c.do_one-sink.ensures.ready) c.keep-result.ensures.same

pub returns-in-Ok-clause-counted : goal.returns-in-Ok-clause-counted
returns-in-Ok-clause-counted g c =
    kept-counted c.args.trace.now c.args.number c.args.machine.lists _ c.args.self.journal.items _ _ c.keep-result.result c.requires.counted
    (from-ok _ _ (λ done. CountsOn c.args.trace.now c.args.number c.args.machine.lists done.1 done.0.lists) c.in-Ok.is c.do_one-sink.ensures.counted) c.keep-result.ensures.same c.keep-result.ensures.put

pub returns-in-Ok-clause-before : goal.returns-in-Ok-clause-before
returns-in-Ok-clause-before g c =
    let at : c.index-as_slice-number.result ≡ get_or c.args.trace.now.items c.args.number c.index-as_slice-number.result = rw (← c.as_slice.ensures) c.index-as_slice-number.is in
    before_more c.args.trace.now c.args.number c.index-as_slice-number.result c.args.self.rounds c.after-rounds.result
    (item-here c.args.trace.now c.args.number c.index-as_slice-number.result c.requires.within at) c.requires.before c.after-rounds.ensures.lines c.after-rounds.ensures.several

pub returns-in-Ok-clause-moved : goal.returns-in-Ok-clause-moved
returns-in-Ok-clause-moved g c =
    let at : c.index-as_slice-number.result ≡ get_or c.args.trace.now.items c.args.number c.index-as_slice-number.result = rw (← c.as_slice.ensures) c.index-as_slice-number.is in
    let old : SinkState = (record { taken = g.K.Sink.taken c.args.self.sink; faults = g.K.Sink.faults c.args.self.sink }) in
    let new : SinkState = (record { taken = g.K.Sink.taken c.do_one-sink.result.0; faults = g.K.Sink.faults c.do_one-sink.result.0 }) in
    moved (wanted_by c.args.plan) c.args.trace.now c.args.number c.index-as_slice-number.result c.args.machine c.in-Ok.machine c.in-Ok.done c.args.self.journal.items c.keep-result.new.journal.items c.args.self.live c.keep-result.new.live old new c.keep-result.result
    (item-here c.args.trace.now c.args.number c.index-as_slice-number.result c.requires.within at)
    (rw c.in-Ok.is at c.do_one-sink.ensures.written) c.keep-result.ensures.same c.keep-result.ensures.put c.keep-result.ensures.live c.keep-result.ensures.want

pub returns-in-Err-clause-before : goal.returns-in-Err-clause-before
returns-in-Err-clause-before g c =
    let at : c.index-as_slice-number.result ≡ get_or c.args.trace.now.items c.args.number c.index-as_slice-number.result = rw (← c.as_slice.ensures) c.index-as_slice-number.is in
    before_more c.args.trace.now c.args.number c.index-as_slice-number.result c.args.self.rounds c.after-rounds.result
    (item-here c.args.trace.now c.args.number c.index-as_slice-number.result c.requires.within at) c.requires.before c.after-rounds.ensures.lines c.after-rounds.ensures.several
