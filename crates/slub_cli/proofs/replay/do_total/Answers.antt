use Rattle.std.proofs.Common.{◌++◌, Err, Ok, ap, inr, refl, subst, sym, ◌∙◌}
use Rattle.slub_slabinfo_text.specs.Text.{total_text}
use Rattle.std.proofs.lemmas.Result.{err_from_is_err_and}
use Rattle.slub_cli.proofs.Texts.{grows_text, grows_front, total_entry}
use Rattle.slub_law_replay.proofs.Few.{sums_few}
use Rattle.slub_slabinfo_text.proofs.Ended.{total-ends}
use Rattle.slub_slabinfo_text.proofs.Given.{AreLines, given-none, text-given}
use Rattle.slub_cli.proofs.replay.do_total.Goals as goal

pub total-sums-requires-clause-given : goal.total-sums-requires-clause-given
total-sums-requires-clause-given g c = rw c.as_slice.ensures (sums_few c.requires.run.0 c.args.trace.now c.args.journal.now.items c.args.machine.now c.requires.sound c.requires.opened c.requires.run.1).0

pub total-sums-requires-clause-freed : goal.total-sums-requires-clause-freed
total-sums-requires-clause-freed g c = rw c.as_slice.ensures (sums_few c.requires.run.0 c.args.trace.now c.args.journal.now.items c.args.machine.now c.requires.sound c.requires.opened c.requires.run.1).1

pub returns-in_err-write_lines-clause-told : goal.returns-in_err-write_lines-clause-told
returns-in_err-write_lines-clause-told g c =
    let p = err_from_is_err_and c.from_residual-in_err-write_lines.result c.from_residual-in_err-write_lines.ensures.1 in
    λ replies. rw (p.1, p.2) (grows_front replies _ _ c.args.trace.now _ _ _ _ (total_entry replies c.args.trace.now _ _ c.total-sums.result c.requires.no_total refl refl) (c.deref.ensures.value ∙ c.in_ok-push_sums.ensures ∙ ap (λ l. l ++ total_text c.total-sums.result) c.new-text.ensures.items) c.in_err-write_lines.ensures.err)

pub returns-clause-told : goal.returns-clause-told
returns-clause-told g c = λ replies. grows_text replies _ _ c.args.trace.now _ _ _ _ (total_entry replies c.args.trace.now _ _ c.total-sums.result c.requires.no_total refl refl) (c.deref.ensures.value ∙ c.in_ok-push_sums.ensures ∙ ap (λ l. l ++ total_text c.total-sums.result) c.new-text.ensures.items) c.in_ok-write_lines.ensures.ok

pub returns-in_err-push_sums-clause-lines : goal.returns-in_err-push_sums-clause-lines
returns-in_err-push_sums-clause-lines g c = given-none (g.K.Sink.pieces c.args.sink.now)

pub returns-in_err-write_lines-clause-lines : goal.returns-in_err-write_lines-clause-lines
returns-in_err-write_lines-clause-lines g c =
    let is = c.deref.ensures.value ∙ c.in_ok-push_sums.ensures ∙ ap (λ l. l ++ total_text c.total-sums.result) c.new-text.ensures.items in
    let are : AreLines c.deref.result.now = subst AreLines (sym is) (inr (total-ends c.total-sums.result)) in
    text-given {A = Unit {0}} {E = Unit {0}} (g.K.Sink.pieces c.args.sink.now) (g.K.Sink.pieces c.write_lines.new.sink) (Err tt) c.deref.result.now are tt c.in_err-write_lines.ensures.begun

pub returns-clause-lines : goal.returns-clause-lines
returns-clause-lines g c =
    let is = c.deref.ensures.value ∙ c.in_ok-push_sums.ensures ∙ ap (λ l. l ++ total_text c.total-sums.result) c.new-text.ensures.items in
    let are : AreLines c.deref.result.now = subst AreLines (sym is) (inr (total-ends c.total-sums.result)) in
    text-given {A = Unit {0}} {E = Unit {0}} (g.K.Sink.pieces c.args.sink.now) (g.K.Sink.pieces c.write_lines.new.sink) (Ok tt) c.deref.result.now are c.in_ok-write_lines.ensures.lines tt
