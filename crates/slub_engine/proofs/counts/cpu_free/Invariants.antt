use Rattle.std.proofs.Common.{◌≡◌, ◌*◌, ◌≤◌, length, take}
use Rattle.std.specs.Prelude.{sum_by}
use Rattle.slub_engine.proofs.counts.cpu_free.Given as goal

abbrev pub invariant-loop-lists : goal.invariant-loop-lists
invariant-loop-lists l = record {
  value : l.count ≡ sum_by (λ lists. length lists.free) (take l.lists-index l.cpus);
  bound : l.count ≤ l.lists-index * 512;
}
