use Rattle.std.proofs.lemmas.Result.{err_from_is_err_and}
use Rattle.slub_trace_reader.proofs.Readings.{read_trace_is, read_reads, stop_reads}
use Rattle.slub_trace_reader.proofs.Soundness.{trace_sound}
use Rattle.slub_trace_reader.proofs.reading.read_trace.Goals as goal

pub returns-in_err-state-clause-reads : goal.returns-in_err-state-clause-reads
returns-in_err-state-clause-reads g c =
    let is = err_from_is_err_and c.from_residual.result c.from_residual.ensures.1 in
    rw (is.1, is.2) (stop_reads _ _ _ _ c.in_err-state.field-0.0 c.in_err-state.ensures.stops)

pub returns-clause-reads : goal.returns-clause-reads
returns-clause-reads g c = read_reads _ _ _ _ _ _ c.in_ok-state.ensures.read c.in_ok-trace.ensures c.in_ok-state.ensures.still

pub returns-clause-sound : goal.returns-clause-sound
returns-clause-sound g c =
    let read = c.in_ok-state.ensures.read in
    trace_sound read.all c.in_ok-trace.trace (read_trace_is _ _ _ _ read c.in_ok-trace.ensures)
