use Rattle.std.proofs.Common.{◌≡◌, length, map, take}
use Rattle.std.specs.Option.{option_map_or}
use Rattle.slub_engine.proofs.found.counts_told.Given as goal

abbrev pub invariant-loop-slabs : goal.invariant-loop-slabs
invariant-loop-slabs l = l.counts.items ≡ map (λ slabs. option_map_or (λ slabs. length slabs.reports) slabs 0) (take l.slabs-index l.lists.checked)
