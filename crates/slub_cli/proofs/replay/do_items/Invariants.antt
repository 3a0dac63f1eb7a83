use Rattle.std.proofs.Common.{◌≡◌, ◌≤◌}
use Rattle.slub_edges.specs.Pieces.{Gives}
use Rattle.slub_slabinfo_text.specs.Given.{AreWholeLines}
use Rattle.slub_cli.specs.Inner.{GrowsText}
use Rattle.slub_cli.proofs.Laws.{Reached}
use Rattle.slub_cli.proofs.replay.do_items.Given as goal

abbrev pub invariant-loop-number : goal.invariant-loop-number
invariant-loop-number g l = record {
  reached : Reached l.way l.trace l.number l.machine l.journal;
  told : GrowsText l.replies (g.K.Sink.taken l.fn.sink) (g.K.Sink.taken l.sink) l.trace l.fn.journal l.journal;
  still : g.K.Sink.faults l.sink ≡ g.K.Sink.faults l.fn.sink;
  counts : g.K.Sink.faults l.fn.sink ≤ g.K.Sink.faults l.sink;
  lines : Gives (g.K.Sink.pieces l.fn.sink) (g.K.Sink.pieces l.sink) AreWholeLines;
}
