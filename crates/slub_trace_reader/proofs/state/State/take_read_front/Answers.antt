use Rattle.std.proofs.Common.{refl, sym, ◌∙◌}
use Rattle.slub_trace_reader.specs.State.{above}
use Rattle.slub_trace_reader.proofs.QuickLines.{read_takes}
use Rattle.slub_trace_reader.proofs.state.State.take_read_front.Goals as goal

pub returns-clause-taken : goal.returns-clause-taken
returns-clause-taken c =
    let quick = c.if-not-is_quick_word.ensures.0 refl in
    let parts = c.in-Some.parts in
    read_takes (above c.args.self.now) (above c.push_event.new.self) c.args.bytes.now c.in-Some.rest.now parts.worker parts.object parts.word c.in-Some.ensures
    quick.0 quick.1 quick.2 (sym c.has.ensures ∙ c.if-not-has.false) (sym c.was_written.ensures ∙ c.if-not-was_written.false) c.in_ok-push_event.ensures.pushed
