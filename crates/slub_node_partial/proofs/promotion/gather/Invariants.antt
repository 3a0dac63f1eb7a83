use Rattle.std.proofs.Common.{◌≡◌, ◌++◌, filter, take, vec_capacity}
use Rattle.slub_node_partial.specs.Gathering.{is_among}
use Rattle.slub_node_partial.specs.Promotion.{slabs_of}
use Rattle.slub_node_partial.proofs.promotion.gather.Given as goal

-- of so many slabs those are put there
abbrev pub invariant-loop-place : goal.invariant-loop-place
invariant-loop-place l = record {
  slabs : l.slabs.items ≡ l.fn.slabs.items ++ filter (is_among l.promoted) (take l.place (slabs_of l.frames l.free));
  capacity : vec_capacity l.slabs ≡ vec_capacity l.fn.slabs;
}
