use Rattle.std.proofs.Common.{◌++◌, Err, Ok, ap, inr, sym, ◌∙◌, subst}
use Rattle.slub_slabinfo_text.specs.Texts.{layout_lines}
use Rattle.std.proofs.lemmas.Result.{err_from_is_err_and}
use Rattle.std.specs.Io.KnownBytes.{Appends}
use Rattle.slub_edges.specs.Edges.{AppendsFront}
use Rattle.slub_cli.proofs.Parts.{answered}
use Rattle.slub_slabinfo_text.proofs.Ended.{layout-ends}
use Rattle.slub_slabinfo_text.proofs.Given.{AreLines, given-none, text-given}
use Rattle.slub_cli.proofs.layout.print_layout.Goals as goal

pub returns-in_err-write_lines-clause-printed : goal.returns-in_err-write_lines-clause-printed
returns-in_err-write_lines-clause-printed g c =
    let p = err_from_is_err_and c.from_residual-in_err-write_lines.result c.from_residual-in_err-write_lines.ensures.1 in
    let of = c.layout_of-answer.ensures in
    rw (p.1, p.2) (
      c.layout_of-answer.result,
      answered c.args.spec.now c.args.cpus c.layout_of-answer.result of.solved of.accepted.0 of.bad_size.0 of.bad_align.0 of.bad_flags.0,
      c.in_err-write_lines.ensures.failed,
      subst (λ l. AppendsFront (g.K.Sink.taken c.args.sink.now) (g.K.Sink.taken c.write_lines.new.sink) 0 l) (c.deref.ensures.value ∙ c.in_ok-push_layout.ensures ∙ ap (λ l. l ++ layout_lines c.layout_of-answer.result) c.new-text.ensures.items) c.in_err-write_lines.ensures.err,
    )

pub returns-clause-printed : goal.returns-clause-printed
returns-clause-printed g c =
    let of = c.layout_of-answer.ensures in (
      c.layout_of-answer.result,
      answered c.args.spec.now c.args.cpus c.layout_of-answer.result of.solved of.accepted.0 of.bad_size.0 of.bad_align.0 of.bad_flags.0,
      c.answer_status.ensures,
      subst (λ l. Appends (g.K.Sink.taken c.args.sink.now) (g.K.Sink.taken c.write_lines.new.sink) l) (c.deref.ensures.value ∙ c.in_ok-push_layout.ensures ∙ ap (λ l. l ++ layout_lines c.layout_of-answer.result) c.new-text.ensures.items) c.in_ok-write_lines.ensures.ok,
    )

pub returns-in_err-push_layout-clause-lines : goal.returns-in_err-push_layout-clause-lines
returns-in_err-push_layout-clause-lines g c = given-none (g.K.Sink.pieces c.args.sink.now)

pub returns-in_err-write_lines-clause-lines : goal.returns-in_err-write_lines-clause-lines
returns-in_err-write_lines-clause-lines g c =
    let is = c.deref.ensures.value ∙ c.in_ok-push_layout.ensures ∙ ap (λ l. l ++ layout_lines c.layout_of-answer.result) c.new-text.ensures.items in
    let are : AreLines c.deref.result.now = subst AreLines (sym is) (inr (layout-ends c.layout_of-answer.result)) in
    text-given {A = Unit {0}} {E = Unit {0}} (g.K.Sink.pieces c.args.sink.now) (g.K.Sink.pieces c.write_lines.new.sink) (Err tt) c.deref.result.now are tt c.in_err-write_lines.ensures.begun

pub returns-clause-lines : goal.returns-clause-lines
returns-clause-lines g c =
    let is = c.deref.ensures.value ∙ c.in_ok-push_layout.ensures ∙ ap (λ l. l ++ layout_lines c.layout_of-answer.result) c.new-text.ensures.items in
    let are : AreLines c.deref.result.now = subst AreLines (sym is) (inr (layout-ends c.layout_of-answer.result)) in
    text-given {A = Unit {0}} {E = Unit {0}} (g.K.Sink.pieces c.args.sink.now) (g.K.Sink.pieces c.write_lines.new.sink) (Ok tt) c.deref.result.now are c.in_ok-write_lines.ensures.lines tt
