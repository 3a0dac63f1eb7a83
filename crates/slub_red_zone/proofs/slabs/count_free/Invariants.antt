use Rattle.std.proofs.Common.{◌≡◌, ◌≤◌, length, map, take, vec_capacity}
use Rattle.slub_red_zone.specs.State.{slab_at}
use Rattle.slub_red_zone.proofs.slabs.count_free.Given as goal

-- so many are counted
abbrev pub invariant-loop-frame : goal.invariant-loop-frame
invariant-loop-frame l = record {
  counted : l.counts.items ≡ map (λ frame. length (slab_at l.slabs frame).free) (take l.frame-index l.frames);
  same_capacity : vec_capacity l.fn.counts ≤ vec_capacity l.counts;
}
