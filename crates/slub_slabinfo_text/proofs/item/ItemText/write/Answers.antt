use Rattle.std.proofs.Common.{◌≡◌, ◌++◌, ◌∙◌, ap, subst, sym}
use Rattle.std.proofs.lemmas.Result.{err_from_is_err_and}
use Rattle.slub_edges.proofs.Told.{AppendsFront-longer}
use Rattle.slub_slabinfo_text.specs.Text.{text_at}
use Rattle.slub_slabinfo_text.specs.Made.{Held, made_before, replies_at}
use Rattle.slub_slabinfo_text.proofs.ItemTexts.{text_at_parts}
use Rattle.slub_slabinfo_text.proofs.Parts.{front_written, whole_written}
use Rattle.slub_slabinfo_text.proofs.Ended.{made-before-lines}
use Rattle.slub_slabinfo_text.proofs.Given.{AreLines, given-more, text-given}
use Rattle.slub_slabinfo_text.proofs.item.ItemText.write.Goals as goal

pub returns-in_err-write_replies-clause-err : goal.returns-in_err-write_replies-clause-err
returns-in_err-write_replies-clause-err g c =
    let p = err_from_is_err_and c.from_residual.result c.from_residual.ensures.1 in
    rw (p.1, text_at_parts c.args.replies c.args.trace.now c.args.number c.args.done.now) (AppendsFront-longer _ _ 0 _ _ c.in_err-write_replies.ensures.err)

pub returns-clause-ok : goal.returns-clause-ok
returns-clause-ok g c =
    let made : made_before c.args.replies c.args.trace.now c.args.number c.args.done.now ≡ c.as_slice.result.now = sym c.requires.made ∙ sym (ap (λ (h : Held). h.made) c.self.view_is) ∙ sym c.as_slice.ensures.value in
    let parts : text_at c.args.replies c.args.trace.now c.args.number c.args.done.now ≡ replies_at c.args.replies c.args.trace.now c.args.number c.args.done.now ++ c.as_slice.result.now =
    text_at_parts c.args.replies c.args.trace.now c.args.number c.args.done.now ∙ ap (λ l. replies_at c.args.replies c.args.trace.now c.args.number c.args.done.now ++ l) made in
    whole_written _ _ _ _ _ _ parts c.in_ok-write_replies.ensures.ok c.write_lines.result c.write_lines.ensures.ok

pub returns-clause-err : goal.returns-clause-err
returns-clause-err g c =
    let made : made_before c.args.replies c.args.trace.now c.args.number c.args.done.now ≡ c.as_slice.result.now = sym c.requires.made ∙ sym (ap (λ (h : Held). h.made) c.self.view_is) ∙ sym c.as_slice.ensures.value in
    let parts : text_at c.args.replies c.args.trace.now c.args.number c.args.done.now ≡ replies_at c.args.replies c.args.trace.now c.args.number c.args.done.now ++ c.as_slice.result.now =
    text_at_parts c.args.replies c.args.trace.now c.args.number c.args.done.now ∙ ap (λ l. replies_at c.args.replies c.args.trace.now c.args.number c.args.done.now ++ l) made in
    front_written _ _ _ _ _ _ parts c.in_ok-write_replies.ensures.ok c.write_lines.result c.write_lines.ensures.err

pub returns-clause-lines : goal.returns-clause-lines
returns-clause-lines g c =
    let made : made_before c.args.replies c.args.trace.now c.args.number c.args.done.now ≡ c.as_slice.result.now = sym c.requires.made ∙ sym (ap (λ (h : Held). h.made) c.self.view_is) ∙ sym c.as_slice.ensures.value in
    let are : AreLines c.as_slice.result.now = subst AreLines made (made-before-lines c.args.replies c.args.trace.now c.args.number c.args.done.now) in
    let written = text-given (g.K.Sink.pieces c.write_replies.new.sink) (g.K.Sink.pieces c.write_lines.new.sink) c.write_lines.result c.as_slice.result.now are c.write_lines.ensures.lines c.write_lines.ensures.begun in
    given-more (g.K.Sink.pieces c.args.sink.now) (g.K.Sink.pieces c.write_replies.new.sink) (g.K.Sink.pieces c.write_lines.new.sink) c.in_ok-write_replies.ensures.lines written
