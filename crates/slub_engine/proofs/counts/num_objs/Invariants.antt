use Rattle.std.proofs.Common.{◌≡◌, ◌*◌, ◌≤◌, take}
use Rattle.std.specs.Prelude.{sum_by}
use Rattle.slub_slabinfo_text.specs.Counts.{objects_in}
use Rattle.slub_engine.proofs.counts.num_objs.Given as goal

abbrev pub invariant-loop-slab : goal.invariant-loop-slab
invariant-loop-slab l = record {
  value : l.count ≡ sum_by (objects_in l.cache) (take l.slab-index l.slabs);
  bound : l.count ≤ l.slab-index * 4294967295;
}
