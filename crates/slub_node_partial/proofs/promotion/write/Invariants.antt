use Rattle.std.proofs.Common.{◌≡◌, length, map, take}
use Rattle.slub_node_partial.proofs.promotion.write.Given as goal

-- the frames of so many slabs are written
abbrev pub invariant-loop-place : goal.invariant-loop-place
invariant-loop-place l = record {
  long : length l.frames ≡ length l.slabs;
  written : take l.place l.frames ≡ map (λ slab. slab.frame) (take l.place l.slabs);
}
