use Rattle.std.proofs.Common.{◌≡◌, ◌≤◌, ◌-◌, length}
use Rattle.std.specs.Io.KnownBytes.{Consumes}
use Rattle.slub_edges.proofs.reading.read_all.Given as goal

abbrev pub invariant-loop-bytes : goal.invariant-loop-bytes
invariant-loop-bytes g l = record {
  read : Consumes (g.S.Source.rest l.fn.source) (g.S.Source.rest l.source) l.bytes.items;
  still : g.S.Source.faults l.source ≡ g.S.Source.faults l.fn.source;
  short : length l.bytes.items ≤ l.most;
}

abbrev pub decreases-loop-bytes : goal.decreases-loop-bytes
decreases-loop-bytes g l = l.most - length l.bytes.items
