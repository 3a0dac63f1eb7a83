-- `min_partial_store`, `cpu_partial_store` of Linux 6.1: settings of a live cache.
use Rattle.std.specs.Prelude.{◌≡◌, ℕ, ◌<◌, if◌then◌else◌, is_some, IsSome, List, None, MatchOption, Result, Ok, Err}
use Rattle.slub_object_layout.specs.declared.layout.Setting.{Setting}
use Rattle.slub_object_layout.specs.declared.layout.Setting.TheVariants.{MinPartial, CpuPartial}
use Rattle.slub_cache_create.specs.Table.{number_of}
use Rattle.slub_cache_create.specs.Tune.{with_setting as table_with_setting}
use Rattle.slub_trace.specs.declared.tune.TuneRefusal.{TuneRefusal}
use Rattle.slub_trace.specs.declared.tune.TuneRefusal.TheVariants.{NoSuchCache, Checked}
use Rattle.slub_lists.specs.State.{State}
use Rattle.slub_lists.specs.Alloc.{checked_of}
use Rattle.slub_lists.specs.Leaving.{FreesLost, LeavesSlabs}
use Rattle.slub_lists.specs.Shrink.{flushed_below, min_partial_of}

abbrev pub with_setting : State → ℕ → Setting → State
with_setting s cache setting = record s { table = table_with_setting s.table cache setting }

-- before the objects of a CPU's partial list are set, every CPU is flushed, by the `min_partial`
-- that holds then (`flush_all`); a checked cache has no such list, and stays as it is
abbrev pub tuned : State → ℕ → Setting → State
tuned s cache (MinPartial slabs) = with_setting s cache (MinPartial slabs)
tuned s cache (CpuPartial objects) =
    if is_some (checked_of s cache) then s else
    with_setting (flushed_below s (min_partial_of s cache) cache s.cpus) cache (CpuPartial objects)

-- a checked cache takes no objects for a CPU's partial list
abbrev pub IsRefused : State → ℕ → Setting → Type 0
IsRefused s cache (MinPartial slabs) = ⊥
IsRefused s cache (CpuPartial objects) = IsSome (checked_of s cache) × (0 < objects)

-- a live cache is set: the steps, and what they leave
pub record TunesCache (s : State) (cache : ℕ) (setting : Setting) (after : State) : Type 0 where
  pub steps : after ≡ tuned s cache setting
  pub slabs : LeavesSlabs s cache after
  pub pages : FreesLost s cache after

-- a cache is set by one of its names; where that isn't live or the cache doesn't take the setting,
-- nothing changes
abbrev pub Tunes : State → List ℕ → Setting → Result (Unit {0}) TuneRefusal → State → Type 0
Tunes s name setting (Err NoSuchCache) after = (number_of s.table name ≡ None) × (after ≡ s)
Tunes s name setting (Err Checked) after =
    MatchOption (number_of s.table name) ⊥ (λ cache. IsRefused s cache setting × (after ≡ s))
Tunes s name setting (Ok done) after =
    MatchOption (number_of s.table name) ⊥
    (λ cache. (¬ IsRefused s cache setting) × TunesCache s cache setting after)
