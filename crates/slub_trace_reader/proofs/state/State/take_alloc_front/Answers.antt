use Rattle.std.proofs.Common.{refl, sym, ◌∙◌}
use Rattle.slub_trace_reader.specs.State.{above}
use Rattle.slub_trace_reader.proofs.QuickLines.{alloc_takes}
use Rattle.slub_trace_reader.proofs.state.State.take_alloc_front.Goals as goal

pub returns-clause-taken : goal.returns-clause-taken
returns-clause-taken c =
    let quick = c.if-not-is_quick.ensures.0 refl in
    let parts = c.in-Some.parts in
    alloc_takes (above c.args.self.now) (above c.put_alloc.new.self) c.args.bytes.now c.in-Some.rest.now parts.worker parts.cpu parts.cache parts.object c.in-Some.ensures quick.0 quick.1 quick.2
    (sym c.has.ensures ∙ c.if-has.false) c.in_ok-put_alloc.ensures.put
