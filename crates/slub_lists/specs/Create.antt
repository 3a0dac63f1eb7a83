-- `kmem_cache_create_usercopy` of Linux 6.1 (`mm/slab_common.c`): the creation of a cache.
use Rattle.std.specs.Prelude.{◌≡◌, ℕ, List, Some, MatchOption, if◌then◌else◌, slice_set}
use Rattle.slub_object_layout.specs.declared.layout.Spec.{Spec}
use Rattle.slub_object_layout.specs.Layout.{is_checked}
use Rattle.slub_cache_create.specs.declared.caches.Cache.{Cache}
use Rattle.slub_cache_create.specs.declared.caches.Created.{Created}
use Rattle.slub_cache_create.specs.declared.caches.Created.TheVariants.{New, Merged}
use Rattle.slub_cache_create.specs.Create.{Creates as CreatesName}
use Rattle.slub_cache_create.specs.Table.{Table, cache_of as live_cache}
use Rattle.slub_red_zone.specs.Steps as slabs
use Rattle.slub_lists.specs.State.{State}

-- a new cache is checked where F, Z or P is set, and then has no slab yet
abbrev pub with_new : State → Table → ℕ → Cache → State
with_new s table cache live =
    let new = slabs.opening live.layout live.flags cache in
    record s {
      table = table;
      checked =
          if is_checked live.flags then slice_set s.checked cache (Some new) else s.checked;
    }

-- the name becomes one of a live cache, or a cache is made
abbrev pub IsCreated : State → Created → Table → State → Type 0
IsCreated s (Merged cache) table after = after ≡ record s { table = table }
IsCreated s (New cache) table after =
    MatchOption (live_cache table cache) ⊥ (λ live. after ≡ with_new s table cache live)

-- a name is created as the table of names and caches has it
abbrev pub CreatesCache : State → List ℕ → Spec → Created → State → Type 0
CreatesCache s name spec created after =
    (table : Table) × CreatesName s.table name spec s.cpus created table
    × IsCreated s created table after
