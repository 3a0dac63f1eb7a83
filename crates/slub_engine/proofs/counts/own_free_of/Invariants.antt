use Rattle.std.proofs.Common.{◌≡◌, ◌*◌, ◌≤◌, [], length, take}
use Rattle.std.specs.Prelude.{sum_by, slice_index_or}
use Rattle.slub_engine.proofs.counts.own_free_of.Given as goal

abbrev pub invariant-loop-frame : goal.invariant-loop-frame
invariant-loop-frame l = record {
  value : l.count ≡ sum_by (λ frame. length (slice_index_or l.frees frame [])) (take l.frame-index l.frames);
  bound : l.count ≤ l.frame-index * 512;
}
