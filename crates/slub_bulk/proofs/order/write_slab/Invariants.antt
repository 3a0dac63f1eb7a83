use Rattle.std.proofs.Common.{◌≡◌, ◌+◌, ◌++◌, drop, length, take}
use Rattle.slub_slabinfo_text.specs.Bulk.{objects_of_slab}
use Rattle.slub_bulk.specs.Places.{places_of}
use Rattle.slub_bulk.proofs.order.write_slab.Given as goal

abbrev pub invariant-loop-place : goal.invariant-loop-place
invariant-loop-place l = record {
  at : l.at ≡ l.from + length (objects_of_slab (places_of (take l.place-index l.places)) l.frame);
  written : l.out ≡ take l.from l.initial.out ++ objects_of_slab (places_of (take l.place-index l.places)) l.frame ++ drop l.at l.initial.out;
  long : length l.out ≡ length l.initial.out;
}
