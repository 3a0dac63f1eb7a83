use Rattle.std.proofs.Common.{true}
use Rattle.slub_slabinfo_text.specs.Text.{text_at}
use Rattle.slub_round_log.specs.Log.{SinkState}
use Rattle.slub_steps.proofs.Texts.{fails_first, fails_second}
use Rattle.slub_steps.proofs.writing.write_item.Goals as goal

pub returns-in_err-write_lines : goal.returns-in_err-write_lines
returns-in_err-write_lines g c =
    let old : SinkState = record { taken = g.K.Sink.taken c.args.sink.now; faults = g.K.Sink.faults c.args.sink.now } in
    let new : SinkState = record { taken = g.K.Sink.taken c.write_lines.new.sink; faults = g.K.Sink.faults c.write_lines.new.sink } in
    fails_first c.args.is_shown old new c.args.front.now (text_at true c.args.trace.now c.args.number c.args.done.now) c.from_residual-in_err-write_lines.result
    c.if-is_shown.true c.from_residual-in_err-write_lines.ensures.1 c.in_err-write_lines.ensures.err c.in_err-write_lines.ensures.failed

pub returns-in_err-write : goal.returns-in_err-write
returns-in_err-write g c =
    let old : SinkState = record { taken = g.K.Sink.taken c.args.sink.now; faults = g.K.Sink.faults c.args.sink.now } in
    let mid : SinkState = record { taken = g.K.Sink.taken c.write_lines.new.sink; faults = g.K.Sink.faults c.write_lines.new.sink } in
    let new : SinkState = record { taken = g.K.Sink.taken c.write.new.sink; faults = g.K.Sink.faults c.write.new.sink } in
    fails_second c.args.is_shown old mid new c.args.front.now (text_at true c.args.trace.now c.args.number c.args.done.now) c.from_residual-in_err-write.result
    c.if-is_shown.true c.from_residual-in_err-write.ensures.1 c.in_ok-write_lines.ensures.ok c.in_ok-write_lines.ensures.still c.in_err-write.ensures.err c.in_err-write.ensures.failed
