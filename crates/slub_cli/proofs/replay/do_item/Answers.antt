use Rattle.std.proofs.lemmas.Result.{err_from_is_err_and}
use Rattle.slub_law_replay.specs.Runs.{MachineState}
use Rattle.slub_cli.proofs.Laws.{done_put}
use Rattle.slub_cli.proofs.Parts.{faults_as, not_done, not_faulted, not_stopped, not_told}
use Rattle.slub_cli.proofs.Texts.{tells_as}
use Rattle.slub_slabinfo_text.proofs.Given.{given-none}
use Rattle.slub_cli.proofs.replay.do_item.Goals as goal

pub returns-in_err-after-clause-done : goal.returns-in_err-after-clause-done
returns-in_err-after-clause-done g c =
    let p = err_from_is_err_and c.from_residual.result c.from_residual.ensures.1 in
    rw (p.1, p.2) (not_done c.args.way c.args.machine c.args.trace.now c.args.number c.args.journal.now _ c.in_err-after.ensures.stopped)

pub returns-in_err-after-clause-told : goal.returns-in_err-after-clause-told
returns-in_err-after-clause-told g c =
    let p = err_from_is_err_and c.from_residual.result c.from_residual.ensures.1 in
    rw (p.1, p.2) (not_told c.args.replies (g.K.Sink.taken c.args.sink.now) c.args.trace.now c.args.journal.now _)

pub returns-in_err-after-clause-stops : goal.returns-in_err-after-clause-stops
returns-in_err-after-clause-stops g c =
    let p = err_from_is_err_and c.from_residual.result c.from_residual.ensures.1 in
    rw (p.1, p.2) (not_stopped (g.K.Sink.faults c.args.sink.now) c.args.journal.now _ c.requires.no_total)

pub returns-in_err-after-clause-write_faults : goal.returns-in_err-after-clause-write_faults
returns-in_err-after-clause-write_faults g c =
    let p = err_from_is_err_and c.from_residual.result c.from_residual.ensures.1 in
    rw (p.1, p.2) (not_faulted (g.K.Sink.faults c.args.sink.now) _)

pub returns-in_err-put_item-clause-done : goal.returns-in_err-put_item-clause-done
returns-in_err-put_item-clause-done g c =
    let p = err_from_is_err_and c.from_residual-in_err-put_item.result c.from_residual-in_err-put_item.ensures.1 in
    rw (p.1, p.2) (done_put c.args.way c.args.machine c.args.trace.now c.args.number _ _ c.args.journal.now c.put_item.new.journal _ c.in_ok-after.ensures.done c.in_ok-after.ensures.ready c.in_err-put_item.ensures.put)

pub returns-in_err-put_item-clause-told : goal.returns-in_err-put_item-clause-told
returns-in_err-put_item-clause-told g c =
    let p = err_from_is_err_and c.from_residual-in_err-put_item.result c.from_residual-in_err-put_item.ensures.1 in
    rw (p.1, p.2) (tells_as (Unit {0}) MachineState c.args.replies (g.K.Sink.taken c.args.sink.now) (g.K.Sink.taken c.put_item.new.sink) c.args.trace.now c.args.journal.now c.put_item.new.journal _ c.in_err-put_item.ensures.told)

pub returns-in_err-put_item-clause-stops : goal.returns-in_err-put_item-clause-stops
returns-in_err-put_item-clause-stops g c =
    let p = err_from_is_err_and c.from_residual-in_err-put_item.result c.from_residual-in_err-put_item.ensures.1 in
    rw (p.1, p.2) c.in_err-put_item.ensures.stops

pub returns-in_err-put_item-clause-write_faults : goal.returns-in_err-put_item-clause-write_faults
returns-in_err-put_item-clause-write_faults g c =
    let p = err_from_is_err_and c.from_residual-in_err-put_item.result c.from_residual-in_err-put_item.ensures.1 in
    rw (p.1, p.2) (faults_as (Unit {0}) MachineState (g.K.Sink.faults c.args.sink.now) (g.K.Sink.faults c.put_item.new.sink) _ c.in_err-put_item.ensures.write_faults)

pub returns-clause-done : goal.returns-clause-done
returns-clause-done g c = record {
  answer = c.in_ok-after.done;
  does = c.in_ok-after.ensures.done;
  ready = c.in_ok-after.ensures.ready;
  puts = c.in_ok-put_item.ensures.put;
}

pub returns-in_err-after-clause-lines : goal.returns-in_err-after-clause-lines
returns-in_err-after-clause-lines g c = given-none (g.K.Sink.pieces c.args.sink.now)
