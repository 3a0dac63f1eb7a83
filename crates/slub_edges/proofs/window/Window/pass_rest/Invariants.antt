use Rattle.std.proofs.Common.{◌≡◌, ◌-◌, ◌≤◌}
use Rattle.slub_edges.specs.Window.{Counts}
use Rattle.slub_edges.proofs.window.Window.pass_rest.Given as goal

abbrev pub invariant-loop-n : goal.invariant-loop-n
invariant-loop-n g l = record {
  counts : Counts (g.S.Source.rest l.fn.source) (g.S.Source.rest l.source) l.fn.self.count l.self.count;
  few : l.self.count ≤ l.fn.most;
  still : g.S.Source.faults l.source ≡ g.S.Source.faults l.fn.source;
}

abbrev pub decreases-loop-n : goal.decreases-loop-n
decreases-loop-n g l = l.fn.most - l.self.count
