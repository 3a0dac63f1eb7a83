-- What stays while a round runs, by the lists that the machine was.
use Rattle.std.specs.Prelude.{ℕ, length, map, is_some}
use Rattle.std.specs.List.{range_with_len}
use Rattle.slub_lists.specs.State.{State}
use Rattle.slub_lists.specs.Alloc.{cache_of, checked_of}
use Rattle.slub_lists.specs.Places.{layout_at}
use Rattle.slub_core.specs.Facts.{Facts}
use Rattle.slub_core.specs.declared.cache.CacheFacts.{CacheFacts}
use Rattle.slub_law_opening.specs.Opening.{plain_caches}

-- the cache of a number
abbrev pub cache_facts : State → ℕ → CacheFacts
cache_facts s cache = record {
  live = is_some (cache_of s cache);
  checks = is_some (checked_of s cache);
  layout = layout_at s cache;
}

abbrev pub facts_of : State → ℕ → Facts
facts_of s step = record {
  frames = s.frames;
  cpus = s.cpus;
  step = step;
  objects = length s.board;
  plain = plain_caches s;
  caches = map (cache_facts s) (range_with_len 0 32);
}
