use Rattle.std.proofs.Common.{◌≡◌, ◌-◌, List, length}
use Rattle.slub_picks.specs.Turns.{Turn}
use Rattle.slub_picks.specs.Walks.{IsAlong}
use Rattle.slub_picks.proofs.walk.Walk.next.Given as goal

abbrev pub invariant-entries : goal.invariant-entries
invariant-entries l = record {
  part : l.self.entries.now ≡ l.fn.self.entries.now;
  workers : l.self.workers ≡ l.fn.self.workers;
  along : (turns : List Turn) → IsAlong l.fn.self turns l.fn.unfinished → IsAlong l.self turns l.fn.unfinished;
}

abbrev pub decreases-entries : goal.decreases-entries
decreases-entries l = length l.self.entries.now - l.self.place
