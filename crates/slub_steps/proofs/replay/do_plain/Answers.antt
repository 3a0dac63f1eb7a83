use Rattle.std.proofs.Common.{ℕ}
use Rattle.slub_steps.proofs.Ends.{plain_failed, plain_unended}
use Rattle.slub_steps.proofs.replay.do_plain.Goals as goal

pub returns-in-Err-clause-written : goal.returns-in-Err-clause-written
returns-in-Err-clause-written g c =
    plain_unended c.args.trace.now c.args.number c.args.machine c.args.is_shown (record { taken = g.K.Sink.taken c.args.sink.now; faults = g.K.Sink.faults c.args.sink.now }) c.in-Err.stopped c.stop_of.result c.in-Err.ensures.stopped c.stop_of.ensures

pub returns-in_err-write_item-clause-written : goal.returns-in_err-write_item-clause-written
returns-in_err-write_item-clause-written g c =
    plain_failed ℕ c.args.trace.now c.args.number c.args.machine c.args.is_shown (record { taken = g.K.Sink.taken c.args.sink.now; faults = g.K.Sink.faults c.args.sink.now }) (record { taken = g.K.Sink.taken c.write_item.new.sink; faults = g.K.Sink.faults c.write_item.new.sink })
    c.in-Ok.done.1 c.in-Ok.done.0 c.in_err-write_item.field-0.0 c.from_residual.result c.in-Ok.ensures.done c.in_err-write_item.ensures c.from_residual.ensures.1
