use Rattle.std.proofs.Common.{◌≡◌, ◌+◌, ◌-◌, ◌≤◌, length}
use Rattle.slub_trace_reader.specs.State.{above, Keeps}
use Rattle.slub_edges.specs.Window.{items, count_of}
use Rattle.slub_trace_reader.specs.Window.{Stands}
use Rattle.slub_trace_reader.proofs.reading.read_lines.Given as goal

abbrev pub invariant-loop-state : goal.invariant-loop-state
invariant-loop-state g l = record {
  stands : Stands (g.S.Source.rest l.fn.source) (g.S.Source.rest l.source) (items l.window) l.window.count (above l.state);
  keeps : Keeps l.state;
  room : l.state.count + length (items l.window) ≤ l.window.count;
  few : l.window.count ≤ 16777216;
  still : g.S.Source.faults l.source ≡ g.S.Source.faults l.fn.source;
}

abbrev pub decreases-loop-state : goal.decreases-loop-state
decreases-loop-state g l = 16777216 - l.window.count
