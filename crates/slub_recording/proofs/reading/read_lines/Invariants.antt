use Rattle.std.proofs.Common.{◌≡◌, ◌+◌, ◌*◌, ◌-◌, ◌≤◌, true, cond, length}
use Rattle.std.specs.Io.KnownBytes.{IsAtEnd}
use Rattle.slub_edges.specs.Window.{items, count_of}
use Rattle.slub_recording.specs.State.{above, IsModest}
use Rattle.slub_recording.specs.Window.{Stands}
use Rattle.slub_recording.proofs.reading.read_lines.Given as goal

abbrev pub invariant-loop-fault : goal.invariant-loop-fault
invariant-loop-fault g l = record {
  stands : Stands (items l.fn.window) (g.S.Source.rest l.fn.source) (g.S.Source.rest l.source) (items l.window) (count_of l.window) (above l.state);
  modest : IsModest (above l.state);
  room : l.state.lines + length (items l.window) ≤ count_of l.window;
  few : count_of l.window ≤ 268435456;
  at_end : l.ended ≡ true → IsAtEnd (g.S.Source.rest l.source);
  still : g.S.Source.faults l.source ≡ g.S.Source.faults l.fn.source;
}

abbrev pub decreases-loop-fault : goal.decreases-loop-fault
decreases-loop-fault g l = 2 * (268435456 - l.window.count) + cond l.ended 0 1
