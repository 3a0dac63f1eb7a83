use Rattle.std.proofs.Common.{refl, sym, ◌∙◌, arith}
use Rattle.slub_trace_reader.specs.State.{above}
use Rattle.slub_trace_reader.proofs.QuickLines.{write_takes}
use Rattle.slub_trace_reader.proofs.state.State.take_write_front.Goals as goal

pub returns-clause-taken : goal.returns-clause-taken
returns-clause-taken c =
    let quick = c.if-not-is_quick_word.ensures.0 refl in
    let parts = c.in-Some.parts in
    write_takes (above c.args.self.now) (above c.take_write.new.self) c.args.bytes.now c.in-Some.rest.now parts.worker parts.object parts.word parts.value c.in-Some.ensures (omega arith)
    quick.0 quick.1 quick.2 (sym c.has.ensures ∙ c.if-not-has.false) c.in_ok-take_write.ensures.taken
