use Rattle.std.proofs.Common.{refl, sym, ◌∙◌}
use Rattle.slub_trace_reader.specs.State.{above}
use Rattle.slub_trace_reader.proofs.QuickLines.{free_takes}
use Rattle.slub_trace_reader.proofs.state.State.take_free_front.Goals as goal

pub returns-clause-taken : goal.returns-clause-taken
returns-clause-taken c =
    let quick = c.if-not-is_quick.ensures.0 refl in
    let parts = c.in-Some.parts in
    free_takes (above c.args.self.now) (above c.push_event.new.self) c.args.bytes.now c.in-Some.rest.now parts.worker parts.cpu parts.object c.in-Some.ensures quick.0 quick.1 quick.2
    (sym c.has.ensures ∙ c.if-not-has.false) c.in_ok-push_event.ensures.pushed
