use Rattle.std.proofs.Common.{◌≡◌, ◌<◌, ℕ}
use Rattle.slub_cache_create.specs.Table.{HasTitle}
use Rattle.slub_cache_create.proofs.caches.Caches.is_title.Given as goal

-- no cache of a lesser number has the title
abbrev pub invariant-loop-cache : goal.invariant-loop-cache
invariant-loop-cache l = record {
  items : l.cache-items ≡ l.self.caches;
  none : (k : ℕ) → k < l.cache-index → ¬ HasTitle l.self k l.name;
}
