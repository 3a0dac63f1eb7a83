use Rattle.std.proofs.Common.{◌+◌, ◌≤◌, length}
use Rattle.slub_recording.specs.State.{above, IsModest}
use Rattle.slub_recording.specs.Window.{Leads}
use Rattle.slub_recording.proofs.reading.take_lines.Given as goal

abbrev pub invariant-loop-text : goal.invariant-loop-text
invariant-loop-text l =
    Leads (above l.fn.state) l.fn.bytes l.rest (above l.state)
    × IsModest (above l.state) × (l.state.lines + length l.rest ≤ l.fn.state.lines + length l.fn.bytes)

abbrev pub decreases-loop-text : goal.decreases-loop-text
decreases-loop-text l = length l.rest
