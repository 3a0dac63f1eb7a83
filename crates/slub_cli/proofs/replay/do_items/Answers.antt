use Rattle.std.proofs.Common.{◌∙◌, Err, arith, le_trans, le_refl, refl}
use Rattle.std.proofs.lemmas.Result.{err_from_is_err_and}
use Rattle.slub_law_replay.specs.Runs.{MachineState}
use Rattle.slub_law_replay.proofs.Ready.{opened_machine_ready}
use Rattle.slub_cli.proofs.Laws.{Reached-begins, Reached-more, Reached-lawful, Reached-whole, stopped_lawful, stopped_spent}
use Rattle.slub_cli.proofs.Texts.{tells_then}
use Rattle.slub_slabinfo_text.proofs.Given.{given-more, given-none}
use Rattle.slub_cli.proofs.replay.do_items.Goals as goal

pub loop-number-init : goal.loop-number-init
loop-number-init g c = record {
  reached = Reached-begins c.args.way c.args.trace.now c.args.opened c.args.journal.now (opened_machine_ready c.args.trace.now c.requires.sound c.requires.coherent) c.requires.opened c.requires.begun c.requires.no_items c.requires.no_total;
  told = λ start h. h;
  still = refl;
  counts = le_refl _;
  lines = given-none (g.K.Sink.pieces c.args.sink.now);
}

pub returns-in_err-machine-clause-lawful : goal.returns-in_err-machine-clause-lawful
returns-in_err-machine-clause-lawful g c =
    let at = c.loop-number in
    stopped_lawful c.args.way c.args.trace.now at.number at.machine at.journal c.do_item.new.journal _ c.requires.coherent (omega (arith, c.len-number-end.ensures)) at.invariant.reached c.in_err-machine.ensures.done

pub returns-in_err-machine-clause-spent : goal.returns-in_err-machine-clause-spent
returns-in_err-machine-clause-spent g c =
    let p = err_from_is_err_and c.from_residual.result c.from_residual.ensures.1 in
    let at = c.loop-number in
    rw (p.1, p.2) (stopped_spent c.args.way c.args.trace.now at.number at.machine at.journal c.do_item.new.journal _ c.requires.coherent (omega (arith, c.len-number-end.ensures)) at.invariant.reached c.in_err-machine.ensures.done)

pub loop-number-preserved : goal.loop-number-preserved
loop-number-preserved g c =
    let at = c.loop-number in
    record {
      reached = Reached-more c.args.way c.args.trace.now at.number at.machine _ at.journal c.do_item.new.journal (omega (arith, c.len-number-end.ensures)) at.invariant.reached c.in_ok-machine.ensures.done;
      told = λ start h. c.in_ok-machine.ensures.told start (at.invariant.told start h);
      still = c.in_ok-machine.ensures.write_faults ∙ at.invariant.still;
      counts = le_trans at.invariant.counts c.do_item.ensures.counts;
      lines = given-more (g.K.Sink.pieces c.args.sink.now) (g.K.Sink.pieces at.sink) (g.K.Sink.pieces c.do_item.new.sink) at.invariant.lines c.do_item.ensures.lines;
    }

pub returns-clause-lawful : goal.returns-clause-lawful
returns-clause-lawful g c =
    Reached-lawful c.args.way c.args.trace.now c.loop-number.number c.loop-number.machine c.loop-number.journal c.requires.coherent (omega (arith, c.len-number-end.ensures)) c.loop-number.invariant.reached

pub returns-clause-run : goal.returns-clause-run
returns-clause-run g c =
    Reached-whole c.args.way c.args.trace.now c.loop-number.number c.loop-number.machine c.loop-number.journal (omega (arith, c.len-number-end.ensures, c.loop-number-test.false)) c.loop-number.invariant.reached

pub returns-in_err-machine-clause-told : goal.returns-in_err-machine-clause-told
returns-in_err-machine-clause-told g c =
    let p = err_from_is_err_and c.from_residual.result c.from_residual.ensures.1 in
    rw (p.1, p.2)
    (tells_then {A = MachineState} c.args.replies (g.K.Sink.taken c.args.sink.now) (g.K.Sink.taken c.loop-number.sink) (g.K.Sink.taken c.do_item.new.sink) c.args.trace.now c.args.journal.now c.loop-number.journal c.do_item.new.journal (Err c.in_err-machine.field-0.0) c.loop-number.invariant.told c.in_err-machine.ensures.told)

pub returns-in_err-machine-clause-lines : goal.returns-in_err-machine-clause-lines
returns-in_err-machine-clause-lines g c = given-more (g.K.Sink.pieces c.args.sink.now) (g.K.Sink.pieces c.loop-number.sink) (g.K.Sink.pieces c.do_item.new.sink) c.loop-number.invariant.lines c.do_item.ensures.lines
