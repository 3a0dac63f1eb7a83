use Rattle.std.proofs.Common.{◌≡◌, ◌++◌, drop, flat_map, length, take}
use Rattle.slub_slabinfo_text.specs.Bulk.{objects_of_slab, slabs_among}
use Rattle.slub_bulk.specs.Places.{places_of}
use Rattle.slub_bulk.proofs.order.free_order.Given as goal

abbrev pub invariant-loop-first : goal.invariant-loop-first
invariant-loop-first l = record {
  at : l.at ≡ length (flat_map (objects_of_slab (places_of l.places)) (slabs_among (places_of (take l.first l.places))));
  written : l.out ≡ flat_map (objects_of_slab (places_of l.places)) (slabs_among (places_of (take l.first l.places))) ++ drop l.at l.initial.out;
  long : length l.out ≡ length l.initial.out;
}
