use Rattle.std.proofs.Common.{◌≡◌, ◌<◌, ℕ, get_or}
use Rattle.slub_cache_create.specs.Merging.{FitsAt}
use Rattle.slub_cache_create.proofs.caches.Caches.find_mergeable.Given as goal

-- none of the older caches fits
abbrev pub invariant-loop-cache : goal.invariant-loop-cache
invariant-loop-cache l = record {
  items : l.cache-items ≡ l.self.ages;
  none : (k : ℕ) → k < l.cache-index → ¬ FitsAt l.self l.spec (get_or l.self.ages k 0);
}
