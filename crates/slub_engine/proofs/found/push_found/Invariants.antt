use Rattle.std.proofs.Common.{◌≡◌, get_or, take, flat_map, vec_capacity}
use Rattle.slub_slabinfo_text.specs.Lawful.{cache_numbers}
use Rattle.slub_engine.specs.Steps.{found_past}
use Rattle.slub_engine.proofs.found.push_found.Given as goal

abbrev pub invariant-loop-cache : goal.invariant-loop-cache
invariant-loop-cache l = record {
  found : l.damages.items ≡ flat_map (λ cache. found_past (get_or l.told cache 0) l.lists cache) (take l.cache cache_numbers);
  capacity : vec_capacity l.damages ≡ vec_capacity l.initial.damages;
}
