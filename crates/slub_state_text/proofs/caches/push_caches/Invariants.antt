use Rattle.std.proofs.Common.{◌≡◌, ◌++◌, take, flat_map}
use Rattle.slub_state_text.specs.Caches.{cache_rows}
use Rattle.slub_state_text.proofs.caches.push_caches.Given as goal

abbrev pub invariant-loop-cache : goal.invariant-loop-cache
invariant-loop-cache l = l.text.items ≡ l.fn.text.items ++ flat_map (cache_rows l.lists l.first l.ids l.live) (take l.cache-index l.cache-items)
