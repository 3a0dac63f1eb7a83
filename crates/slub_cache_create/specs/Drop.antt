-- The end of a name, and with its last name of a cache, after `kmem_cache_destroy` of Linux 6.1.
use Rattle.std.specs.Prelude.{◌≡◌, ℕ, ◌-◌, ◌<◌, ◌==◌, not, None, Some, List, filter, Result, Ok, Err, slice_set}
use Rattle.std.specs.Map.{remove_entry}
use Rattle.std.specs.Option.{option_map}
use Rattle.std.specs.Str.{bytes_eq}
use Rattle.slub_cache_create.specs.declared.caches.Cache.{Cache}
use Rattle.slub_cache_create.specs.declared.caches.Dropped.{Dropped}
use Rattle.slub_cache_create.specs.declared.caches.Dropped.TheVariants.{Alias, Last}
use Rattle.slub_common.specs.declared.no_such_cache.NoSuchCache.{NoSuchCache}
use Rattle.slub_cache_create.specs.Table.{Table, cache_of, names_of, number_of}

-- the live names without one; the others keep their order
abbrev pub without_name : Table → List ℕ → List (List ℕ × ℕ)
without_name s name = remove_entry (bytes_eq name) s.live

-- a live cache with one name less
abbrev pub less_named : Cache → Cache
less_named live = record live { names = live.names - 1 }

-- the cache lives on with one name less; its title stays, also where that is the name
abbrev pub without_alias : Table → List ℕ → ℕ → Table
without_alias s name cache = record s {
  live = without_name s name;
  caches = slice_set s.caches cache (option_map less_named (cache_of s cache));
}

-- the cache is live no more, and its number is unused
abbrev pub without_cache : Table → List ℕ → ℕ → Table
without_cache s name cache = record s {
  live = without_name s name;
  caches = slice_set s.caches cache None;
  ages = filter (λ other. not (other == cache)) s.ages;
}

-- a name is dropped, from a cache that has others, or with the cache that it alone names; where it
-- isn't live, nothing changes
abbrev pub Drops : Table → List ℕ → Result Dropped NoSuchCache → Table → Type 0
Drops s name (Ok (Alias cache)) after =
    (number_of s name ≡ Some cache) × (1 < names_of s cache) × (after ≡ without_alias s name cache)
Drops s name (Ok (Last cache)) after =
    (number_of s name ≡ Some cache) × (names_of s cache ≡ 1) × (after ≡ without_cache s name cache)
Drops s name (Err none) after = (number_of s name ≡ None) × (after ≡ s)
