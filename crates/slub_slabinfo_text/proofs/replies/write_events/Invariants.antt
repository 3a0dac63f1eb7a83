use Rattle.std.proofs.Common.{◌≡◌, ◌≤◌, length, take, flat_map}
use Rattle.std.specs.Prelude.{vec_capacity}
use Rattle.std.specs.List.{zip}
use Rattle.std.specs.Io.KnownBytes.{Appends}
use Rattle.slub_edges.specs.Pieces.{Gives}
use Rattle.slub_slabinfo_text.specs.Given.{AreWholeLines}
use Rattle.slub_slabinfo_text.specs.Lines.{event_text}
use Rattle.slub_slabinfo_text.proofs.replies.write_events.Given as goal

abbrev pub invariant-loop-event : goal.invariant-loop-event
invariant-loop-event g l =
    Appends (g.K.Sink.taken l.fn.sink) (g.K.Sink.taken l.sink) (flat_map (event_text l.replies l.names) (take (length l.yielded) (zip l.events l.answers)))
    × (g.K.Sink.faults l.sink ≡ g.K.Sink.faults l.fn.sink) × (128 ≤ vec_capacity l.line)
    × Gives (g.K.Sink.pieces l.fn.sink) (g.K.Sink.pieces l.sink) AreWholeLines
