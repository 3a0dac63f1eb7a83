use Rattle.std.proofs.Common.{◌≡◌, ◌<◌, ◌-◌, ◌⊎◌, ◌≤◌, vec_len}
use Rattle.slub_edges.specs.Window.{items, Grows}
use Rattle.slub_edges.proofs.window.Window.fill.Given as goal

abbrev pub invariant-loop-self : goal.invariant-loop-self
invariant-loop-self g l = record {
  grows : Grows (g.S.Source.rest l.fn.source) (g.S.Source.rest l.source) (items l.fn.self) (items l.self) l.fn.self.count l.self.count;
  front : l.self.start ≡ 0;
  still : g.S.Source.faults l.source ≡ g.S.Source.faults l.fn.source;
  few : l.self.count ≤ l.fn.most;
  some : (l.fn.self.count < l.self.count) ⊎ (l.self.end < vec_len l.self.bytes);
}

abbrev pub decreases-loop-self : goal.decreases-loop-self
decreases-loop-self g l = l.fn.most - l.self.count
