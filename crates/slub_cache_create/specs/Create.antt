-- The creation of a cache, after `kmem_cache_create_usercopy` of Linux 6.1.
use Rattle.std.specs.Prelude.{◌≡◌, ℕ, ◌<◌, None, Some, IsSome, List, [], ◌∷◌, ◌++◌, length, slice_set}
use Rattle.std.specs.Option.{option_map}
use Rattle.slub_object_layout.specs.declared.layout.Layout.{Layout}
use Rattle.slub_object_layout.specs.declared.layout.Spec.{Spec}
use Rattle.slub_object_layout.specs.Layout.{IsLayout}
use Rattle.slub_cache_create.specs.declared.caches.Created.{Created}
use Rattle.slub_cache_create.specs.declared.caches.Created.TheVariants.{New, Merged}
use Rattle.slub_cache_create.specs.Table.{Table, cache_of, IsTaken}
use Rattle.slub_cache_create.specs.Merging.{IsOldestFit, NoneFits, merged_with}

-- a cache can be named so: nothing has the name, and fewer than 32 names are live (profile)
pub record IsOpenTo (s : Table) (name : List ℕ) : Type 0 where
  pub free : ¬ IsTaken s name
  pub room : length s.live < 32

-- the least of the numbers 0 to 31 that no live cache has
pub record IsLeastUnused (s : Table) (cache : ℕ) : Type 0 where
  pub within : cache < 32
  pub unused : cache_of s cache ≡ None
  pub least : (other : ℕ) → other < cache → IsSome (cache_of s other)

-- one more live name, the newest, and the cache that it names is one more name richer and maybe
-- larger
abbrev pub with_alias : Table → List ℕ → Spec → ℕ → Table
with_alias s name spec cache = record s {
  live = s.live ++ (name, cache) ∷ [];
  caches = slice_set s.caches cache (option_map (merged_with spec) (cache_of s cache));
}

-- one more live name and one more live cache, the newest, of which it is the title
abbrev pub with_cache : Table → List ℕ → Spec → Layout → ℕ → Table
with_cache s name spec layout cache = record s {
  live = s.live ++ (name, cache) ∷ [];
  caches = slice_set s.caches cache
      (Some (record { title = name; flags = spec.flags; layout = layout; names = 1 }));
  ages = s.ages ++ cache ∷ [];
}

-- a name becomes one of the oldest live cache that fits; where none fits, a cache is made under the
-- least unused number
abbrev pub Creates : Table → List ℕ → Spec → ℕ → Created → Table → Type 0
Creates s name spec cpus (Merged cache) after =
    IsOldestFit s spec cache × (after ≡ with_alias s name spec cache)
Creates s name spec cpus (New cache) after =
    NoneFits s spec × IsLeastUnused s cache × (layout : Layout) × IsLayout spec cpus layout
    × (after ≡ with_cache s name spec layout cache)
