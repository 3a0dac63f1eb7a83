use Rattle.std.proofs.Common.{◌≡◌, replicate, None}
use Rattle.slub_red_zone.proofs.slabs.open_places.Given as goal

-- so many places are there
abbrev pub invariant-loop : goal.invariant-loop
invariant-loop l = l.slabs.items ≡ replicate l.counter None
