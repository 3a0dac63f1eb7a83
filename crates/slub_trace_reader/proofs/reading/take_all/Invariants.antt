use Rattle.std.proofs.Common.{◌+◌, ◌≤◌, length}
use Rattle.slub_trace_reader.specs.State.{above, Keeps}
use Rattle.slub_trace_reader.specs.Window.{Leads}
use Rattle.slub_trace_reader.proofs.reading.take_all.Given as goal

abbrev pub invariant-loop-more : goal.invariant-loop-more
invariant-loop-more l = record {
  leads : Leads (above l.fn.state) l.fn.bytes l.rest (above l.state);
  keeps : Keeps l.state;
  room : l.state.count + length l.rest ≤ l.fn.state.count + length l.fn.bytes;
}

abbrev pub decreases-loop-more : goal.decreases-loop-more
decreases-loop-more l = length l.rest
