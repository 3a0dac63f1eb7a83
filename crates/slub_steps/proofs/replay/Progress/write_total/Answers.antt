use Rattle.std.proofs.Common.{ℕ, List, ◌++◌, ap, ◌∙◌}
use Rattle.slub_slabinfo_text.specs.Text.{total_text}
use Rattle.slub_round_log.specs.Log.{SinkState}
use Rattle.slub_steps.proofs.Ends.{total_fails, total_written}
use Rattle.slub_steps.proofs.replay.Progress.write_total.Goals as goal

pub returns-in_err-write_lines-clause-written : goal.returns-in_err-write_lines-clause-written
returns-in_err-write_lines-clause-written g c =
    let old : SinkState = record { taken = g.K.Sink.taken c.args.self.now.sink; faults = g.K.Sink.faults c.args.self.now.sink } in
    let new : SinkState = record { taken = g.K.Sink.taken c.write_lines.new.sink; faults = g.K.Sink.faults c.write_lines.new.sink } in
    total_fails c.args.self.now.journal.items c.as_slice.result.now c.args.machine.now.lists c.total-sums.result old new c.as_slice-2.result.now c.from_residual-in_err-write_lines.result
    c.as_slice.ensures c.total-sums.ensures
    (c.as_slice-2.ensures.value ∙ c.in_ok-push_sums.ensures ∙ ap (λ (xs : List ℕ). xs ++ total_text c.total-sums.result) c.new-text.ensures.items)
    c.from_residual-in_err-write_lines.ensures.1 c.in_err-write_lines.ensures.err c.in_err-write_lines.ensures.failed

pub returns-clause-written : goal.returns-clause-written
returns-clause-written g c =
    let old : SinkState = record { taken = g.K.Sink.taken c.args.self.now.sink; faults = g.K.Sink.faults c.args.self.now.sink } in
    let new : SinkState = record { taken = g.K.Sink.taken c.write_lines.new.sink; faults = g.K.Sink.faults c.write_lines.new.sink } in
    total_written c.args.self.now.journal.items c.as_slice.result.now c.args.machine.now.lists c.total-sums.result old new c.as_slice-2.result.now
    c.as_slice.ensures c.total-sums.ensures
    (c.as_slice-2.ensures.value ∙ c.in_ok-push_sums.ensures ∙ ap (λ (xs : List ℕ). xs ++ total_text c.total-sums.result) c.new-text.ensures.items)
    c.in_ok-write_lines.ensures.ok c.in_ok-write_lines.ensures.still
