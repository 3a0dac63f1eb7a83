-- `kmem_cache_destroy`, `__kmem_cache_shutdown` of Linux 6.1: destroying a cache.
use Rattle.std.specs.Prelude.{◌≡◌, ℕ, ◌<◌, false, List, None, MatchOption, Result, Ok, Err, slice_set}
use Rattle.slub_cache_create.specs.Drop.{without_alias, without_cache}
use Rattle.slub_cache_create.specs.Table.{names_of, number_of}
use Rattle.slub_trace.specs.declared.destroy.Destroyed.{Destroyed}
use Rattle.slub_trace.specs.declared.destroy.Destroyed.TheVariants.{NameDropped, Gone}
use Rattle.slub_trace.specs.declared.destroy.DestroyRefusal.{DestroyRefusal}
use Rattle.slub_trace.specs.declared.destroy.DestroyRefusal.TheVariants.{NoSuchCache, Busy}
use Rattle.slub_lists.specs.State.{State}
use Rattle.slub_lists.specs.Leaving.{FreesAll}
use Rattle.slub_lists.specs.Shrink.{ShrinksCache, busy_of, has_slab}

-- the name is dropped, and the cache lives on under others
abbrev pub DropsName : State → List ℕ → ℕ → State → Type 0
DropsName s name cache after =
    (1 < names_of s.table cache) × (after ≡ record s { table = without_alias s.table name cache })

-- it is the last name, and objects of the cache are held or set aside
abbrev pub IsBusy : State → ℕ → ℕ → State → Type 0
IsBusy s cache objects after =
    (names_of s.table cache ≡ 1) × (0 < objects) × (objects ≡ busy_of s cache) × (after ≡ s)

-- a cache without slabs is live no more
abbrev pub without : State → List ℕ → ℕ → State
without s name cache =
    record s { table = without_cache s.table name cache; checked = slice_set s.checked cache None }

-- it is the last name, nothing of the cache is held or set aside, and shrinking leaves it no slab;
-- then the cache is live no more, and each of its frames is free
abbrev pub Goes : State → List ℕ → ℕ → State → Type 0
Goes s name cache after =
    (names_of s.table cache ≡ 1) × (busy_of s cache ≡ 0) × (empty : State)
    × ShrinksCache s cache empty × (has_slab empty cache ≡ false)
    × (after ≡ without empty name cache) × FreesAll s cache after

-- a name is destroyed, and with its last name a cache
abbrev pub Destroys : State → List ℕ → Result Destroyed DestroyRefusal → State → Type 0
Destroys s name (Err NoSuchCache) after = (number_of s.table name ≡ None) × (after ≡ s)
Destroys s name (Err (Busy objects)) after =
    MatchOption (number_of s.table name) ⊥ (λ cache. IsBusy s cache objects after)
Destroys s name (Ok NameDropped) after =
    MatchOption (number_of s.table name) ⊥ (λ cache. DropsName s name cache after)
Destroys s name (Ok Gone) after =
    MatchOption (number_of s.table name) ⊥ (λ cache. Goes s name cache after)
