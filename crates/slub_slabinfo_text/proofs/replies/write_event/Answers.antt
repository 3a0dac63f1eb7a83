use Rattle.std.proofs.Common.{◌≡◌, ℕ, List, OnErr, arith, subst, sym}
use Rattle.std.proofs.lemmas.Grind.{common_steps}
use Rattle.slub_edges.specs.Edges.{AppendsFront}
use Rattle.slub_slabinfo_text.specs.Lines.{event_text}
use Rattle.slub_slabinfo_text.proofs.Ended.{event-lines}
use Rattle.slub_slabinfo_text.proofs.Given.{AreLines, given-none, text-given}
use Rattle.slub_slabinfo_text.proofs.replies.write_event.Goals as goal

pub returns-then-not-is_ok-clause-err : goal.returns-then-not-is_ok-clause-err
returns-then-not-is_ok-clause-err g c =
    let is : event_text c.args.replies c.args.names.now (c.args.event.now, c.args.reply.now) ≡ c.as_slice.result.now = grind (arith, common_steps) in
    subst (λ (text : List ℕ). OnErr c.write_lines.result (AppendsFront (g.K.Sink.taken c.args.sink.now) (g.K.Sink.taken c.write_lines.new.sink) 0 text)) (sym is) c.write_lines.ensures.err

pub returns-then-not-is_ok-clause-lines : goal.returns-then-not-is_ok-clause-lines
returns-then-not-is_ok-clause-lines g c =
    let is : event_text c.args.replies c.args.names.now (c.args.event.now, c.args.reply.now) ≡ c.as_slice.result.now = grind (arith, common_steps) in
    let are : AreLines c.as_slice.result.now = subst AreLines is (event-lines c.args.replies c.args.names.now c.args.event.now c.args.reply.now) in
    text-given (g.K.Sink.pieces c.args.sink.now) (g.K.Sink.pieces c.write_lines.new.sink) c.write_lines.result c.as_slice.result.now are c.write_lines.ensures.lines c.write_lines.ensures.begun
