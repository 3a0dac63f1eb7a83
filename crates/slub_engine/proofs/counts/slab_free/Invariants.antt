use Rattle.std.proofs.Common.{◌≡◌, ◌*◌, ◌≤◌, take}
use Rattle.std.specs.Prelude.{sum_by}
use Rattle.std.specs.List.{zip}
use Rattle.slub_slabinfo_text.specs.Counts.{free_in}
use Rattle.slub_engine.proofs.counts.slab_free.Given as goal

abbrev pub invariant-loop-frame : goal.invariant-loop-frame
invariant-loop-frame l = record {
  value : l.count ≡ sum_by (free_in l.cache) (take l.frame (zip l.slabs l.frees));
  bound : l.count ≤ l.frame * 512;
}
