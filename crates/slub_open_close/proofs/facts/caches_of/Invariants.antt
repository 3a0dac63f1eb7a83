use Rattle.std.proofs.Common.{◌≡◌, map}
use Rattle.std.specs.List.{range_with_len}
use Rattle.slub_list_machine.specs.Parts.{state_of}
use Rattle.slub_open_close.specs.Facts.{cache_facts}
use Rattle.slub_open_close.proofs.facts.caches_of.Given as goal

-- so many are there
abbrev pub invariant-loop-cache : goal.invariant-loop-cache
invariant-loop-cache l = l.caches.items ≡ map (cache_facts (state_of l.parts)) (range_with_len 0 l.cache)
