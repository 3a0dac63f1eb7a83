use Rattle.std.proofs.Common.{◌≡◌, ◌+◌, ◌*◌, ◌≤◌, length, sum_by, take}
use Rattle.std.specs.Option.{option_map_or}
use Rattle.slub_engine.proofs.found.room_to_find.Given as goal

abbrev pub invariant-loop-slabs : goal.invariant-loop-slabs
invariant-loop-slabs l = record {
  sum : l.room ≡ l.events + sum_by (λ slabs. option_map_or (λ slabs. length slabs.listed) slabs 0) (take l.slabs-index l.lists.checked);
  few : l.room ≤ l.events + 4096 * l.slabs-index;
}
