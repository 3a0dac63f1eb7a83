use Rattle.std.proofs.Common.{◌∙◌, ℕ, IfErr, subst}
use Rattle.std.proofs.KnownBytes.{Appends-nil}
use Rattle.std.proofs.lemmas.Result.{err_from_is_err_and}
use Rattle.slub_law_replay.specs.Runs.{MachineState}
use Rattle.slub_cli.specs.Inner.{IsItemStop}
use Rattle.slub_cli.proofs.Laws.{no_items_lawful, totals_lawful, totals_some, totals_spent}
use Rattle.slub_cli.proofs.Parts.{faults_as, spent_as}
use Rattle.slub_cli.proofs.Texts.{empty_text, tells_then, took_err, took_of}
use Rattle.slub_slabinfo_text.proofs.Given.{given-more, given-none}
use Rattle.slub_cli.proofs.replay.do_trace.Goals as goal

pub returns-in_err-opened-clause-lawful : goal.returns-in_err-opened-clause-lawful
returns-in_err-opened-clause-lawful g c =
    no_items_lawful c.args.way c.args.trace.now c.begin.new.journal c.in_err-opened.ensures.coherent c.begin.ensures.machine (c.begin.ensures.items ∙ c.requires.empty.items) (c.begin.ensures.total ∙ c.requires.empty.total)

pub returns-in_err-opened-clause-spent : goal.returns-in_err-opened-clause-spent
returns-in_err-opened-clause-spent g c =
    let p = err_from_is_err_and c.from_residual.result c.from_residual.ensures.1 in
    rw (p.1, p.2) tt

pub returns-in_err-opened-clause-told : goal.returns-in_err-opened-clause-told
returns-in_err-opened-clause-told g c =
    let p = err_from_is_err_and c.from_residual.result c.from_residual.ensures.1 in
    rw (p.1, p.2, empty_text c.args.replies c.args.trace.now c.begin.new.journal (c.begin.ensures.items ∙ c.requires.empty.items) (c.begin.ensures.total ∙ c.requires.empty.total)) (Appends-nil (g.K.Sink.taken c.args.sink.now))

pub returns-in_err-machine-clause-told : goal.returns-in_err-machine-clause-told
returns-in_err-machine-clause-told g c =
    let p = err_from_is_err_and c.from_residual-in_err-machine.result c.from_residual-in_err-machine.ensures.1 in
    rw (p.1, p.2) (took_err MachineState (Unit {0}) c.args.replies (g.K.Sink.taken c.args.sink.now) (g.K.Sink.taken c.do_items.new.sink) c.args.trace.now c.begin.new.journal c.do_items.new.journal c.in_err-machine.field-0.0 (empty_text c.args.replies c.args.trace.now c.begin.new.journal (c.begin.ensures.items ∙ c.requires.empty.items) (c.begin.ensures.total ∙ c.requires.empty.total)) c.in_err-machine.ensures.told)

pub returns-in_err-machine-clause-spent : goal.returns-in_err-machine-clause-spent
returns-in_err-machine-clause-spent g c =
    let p = err_from_is_err_and c.from_residual-in_err-machine.result c.from_residual-in_err-machine.ensures.1 in
    rw (p.1, p.2) (spent_as MachineState (Unit {0}) c.args.way c.args.trace.now c.do_items.new.journal c.in_err-machine.field-0.0 c.in_err-machine.ensures.spent)

pub returns-in_err-machine-clause-write_faults : goal.returns-in_err-machine-clause-write_faults
returns-in_err-machine-clause-write_faults g c =
    let p = err_from_is_err_and c.from_residual-in_err-machine.result c.from_residual-in_err-machine.ensures.1 in
    rw (p.1, p.2) (faults_as MachineState (Unit {0}) (g.K.Sink.faults c.args.sink.now) (g.K.Sink.faults c.do_items.new.sink) c.in_err-machine.field-0.0 c.in_err-machine.ensures.write_faults)

pub do_total-requires-clause-run : goal.do_total-requires-clause-run
do_total-requires-clause-run g c = (c.args.way, c.in_ok-machine.ensures.run)

pub returns-clause-lawful : goal.returns-clause-lawful
returns-clause-lawful g c = totals_lawful c.args.way _ _ _ _ c.do_total.result c.in_ok-machine.ensures.run c.do_items.ensures.lawful c.do_total.ensures.done

pub returns-clause-spent : goal.returns-clause-spent
returns-clause-spent g c = totals_spent c.args.way _ c.args.trace.now _ _ c.do_total.result c.do_total.ensures.done

pub returns-clause-told : goal.returns-clause-told
returns-clause-told g c =
    took_of c.args.replies (g.K.Sink.taken c.args.sink.now) (g.K.Sink.taken c.do_total.new.sink) c.args.trace.now c.begin.new.journal c.do_total.new.journal c.do_total.result (empty_text c.args.replies c.args.trace.now c.begin.new.journal (c.begin.ensures.items ∙ c.requires.empty.items) (c.begin.ensures.total ∙ c.requires.empty.total)) (tells_then c.args.replies _ (g.K.Sink.taken c.do_items.new.sink) _ c.args.trace.now _ c.do_items.new.journal _ c.do_total.result c.in_ok-machine.ensures.told (c.do_total.ensures.told c.args.replies))

pub returns-clause-stops : goal.returns-clause-stops
returns-clause-stops g c =
    subst (λ (faults : ℕ). IfErr c.do_total.result (IsItemStop faults (g.K.Sink.faults c.do_total.new.sink) c.do_total.new.journal)) c.in_ok-machine.ensures.write_faults c.do_total.ensures.stops

pub returns-clause-all : goal.returns-clause-all
returns-clause-all g c = totals_some _ _ _ c.do_total.result c.do_total.ensures.done

pub returns-in_err-machine-clause-stops : goal.returns-in_err-machine-clause-stops
returns-in_err-machine-clause-stops g c =
    let p = err_from_is_err_and c.from_residual-in_err-machine.result c.from_residual-in_err-machine.ensures.1 in
    rw (p.1, p.2) c.in_err-machine.ensures.stops

pub returns-in_err-opened-clause-lines : goal.returns-in_err-opened-clause-lines
returns-in_err-opened-clause-lines g c = given-none (g.K.Sink.pieces c.args.sink.now)

pub returns-clause-lines : goal.returns-clause-lines
returns-clause-lines g c = given-more (g.K.Sink.pieces c.args.sink.now) (g.K.Sink.pieces c.do_items.new.sink) (g.K.Sink.pieces c.do_total.new.sink) c.do_items.ensures.lines c.do_total.ensures.lines
