use Rattle.std.proofs.Common.{◌≡◌, ◌*◌, ◌≤◌, length, take}
use Rattle.std.specs.Prelude.{sum_by}
use Rattle.slub_red_zone.specs.State.{slab_of}
use Rattle.slub_engine.proofs.counts.listed_free.Given as goal

abbrev pub invariant-loop-frame : goal.invariant-loop-frame
invariant-loop-frame l = record {
  value : l.count ≡ sum_by (λ frame. length (slab_of l.slabs frame).free) (take l.frame-index l.frame-items);
  bound : l.count ≤ l.frame-index * 512;
}
