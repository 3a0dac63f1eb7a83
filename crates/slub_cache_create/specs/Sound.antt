-- What holds of a table of caches between any two calls.
use Rattle.std.specs.Prelude.{◌≡◌, ℕ, ◌≤◌, ◌==◌, true, false, if◌then◌else◌, List, length, count_by, is_some, IsSome, IfSome, All}
use Rattle.std.specs.List.{IsDistinct}
use Rattle.std.specs.Map.{keys_of}
use Rattle.std.specs.Str.{bytes_eq}
use Rattle.slub_common.specs.Times.{times}
use Rattle.slub_object_layout.specs.declared.layout.Flags.{Flags}
use Rattle.slub_object_layout.specs.declared.layout.Layout.{Layout}
use Rattle.slub_object_layout.specs.Layout.{IsWithinBounds, is_checked}
use Rattle.slub_cache_create.specs.declared.caches.Cache.{Cache}
use Rattle.slub_cache_create.specs.Table.{Table, cache_of, HasTitle}

-- a layout that was made for these flags, merged with, and tuned in its last two numbers
pub record IsLiveLayout (flags : Flags) (layout : Layout) : Type 0 where
  pub made : IsWithinBounds (record layout { min_partial = 5; cpu_partial_slabs = 0 })
  pub min_partial : layout.min_partial ≤ 4096
  pub cpu_partial_slabs : layout.cpu_partial_slabs ≤ 8192
  -- a left red zone only where Z is set, and no slab on a CPU's partial list where the cache is
  -- checked
  pub unpadded : flags.zones ≡ false → layout.left_pad ≡ 0
  pub no_partial : is_checked flags ≡ true → layout.cpu_partial_slabs ≡ 0

-- how many live names a cache has
abbrev pub count_of : Table → ℕ → ℕ
count_of s cache = count_by (λ named. named.1 == cache) s.live

-- a live cache has one name or more, and a layout
pub record IsLiveCache (s : Table) (cache : ℕ) (live : Cache) : Type 0 where
  pub names : live.names ≡ count_of s cache
  pub named : 1 ≤ live.names
  pub layout : IsLiveLayout live.flags live.layout

pub record IsSound (s : Table) : Type 0 where
  -- at most 32 names are live, no two of them equal (profile)
  pub few : length s.live ≤ 32
  pub distinct : IsDistinct bytes_eq (keys_of s.live)
  -- each names a live cache
  pub alive : All (λ named. IsSome (cache_of s named.1)) s.live
  -- the numbers are 0 to 31, and the ages are the live caches, each once
  pub numbers : length s.caches ≡ 32
  pub aged : (cache : ℕ) → times cache s.ages ≡ (if is_some (cache_of s cache) then 1 else 0)
  pub live : (cache : ℕ) → IfSome (cache_of s cache) (IsLiveCache s cache)
  -- no two caches have the same title
  pub titles : (name : List ℕ) (one other : ℕ)
      → HasTitle s one name → HasTitle s other name → one ≡ other
