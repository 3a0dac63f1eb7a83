-- What an item is going to change of the ids, as it is looked up before the item is done.
use Rattle.std.specs.Prelude.{◌≡◌, ℕ, ◌+◌, ◌*◌, ◌/◌, ◌%◌, ◌^◌, ◌<◌, ◌&&◌, ◌==◌, if◌then◌else◌, Bool, true, false, List, map, slice_get, slice_index_or, Option, Some, None, is_some, IfSome, MatchOption, Ok}
use Rattle.std.specs.List.{range_with_len}
use Rattle.slub_object_layout.specs.declared.layout.Setting.TheVariants.{CpuPartial}
use Rattle.slub_cache_create.specs.Table.{number_of}
use Rattle.slub_trace.specs.declared.create.Created.TheVariants.{New}
use Rattle.slub_lists.specs.State.{State}
use Rattle.slub_law_opening.specs.Opening.{cpu_at}
use Rattle.slub_trace.specs.declared.trace.Item.{Item}
use Rattle.slub_trace.specs.declared.trace.Item.TheVariants as item
use Rattle.slub_trace.specs.declared.trace.Trace.{Trace}
use Rattle.slub_slabinfo_text.specs.declared.journal.Done.{Done}
use Rattle.slub_slabinfo_text.specs.declared.journal.Done.TheVariants as done
use Rattle.slub_slabinfo_text.specs.Lawful.{name_at}
use Rattle.slub_open_close.specs.Ids.{id_at}
use Rattle.slub_open_close.specs.Growth.{ids_after}
use Rattle.slub_open_close.specs.declared.growth.Due.{Due}

-- ---- before the item

-- the cache that an item detaches where it comes about
abbrev pub detached_by : Trace → State → Item → Option ℕ
detached_by trace s (item.Shrink place) = number_of s.table (name_at trace place)
detached_by trace s (item.Tune place (CpuPartial objects)) =
    number_of s.table (name_at trace place)
detached_by trace s item = None

-- by CPU: it has a current slab of the cache
abbrev pub AreCurrent : State → ℕ → List Bool → Type 0
AreCurrent s cache current =
    (cpu : ℕ) → cpu < 16
    → slice_index_or current cpu false ≡ is_some (cpu_at s (16 * cache + cpu)).current

-- that cache, and the CPUs with a current slab of it
pub record IsDueOf (s : State) (trace : Trace) (item : Item) (due : Due) : Type 0 where
  pub cache : due.cache ≡ detached_by trace s item
  pub current : IfSome due.cache (λ cache. AreCurrent s cache due.current)

-- so it is of the item of this number
abbrev pub IsDue : State → Trace → ℕ → Due → Type 0
IsDue s trace number due =
    MatchOption (slice_get trace.items number) ⊥ (λ item. IsDueOf s trace item due)

-- ---- after it

-- the cache that a creation made
abbrev pub new_in : Done → Option ℕ
new_in (done.Created (Ok (New cache))) = Some cache
new_in done = None

-- a shrink, a tune came about
abbrev pub is_shrunk : Done → Bool
is_shrunk (done.Shrunk (Ok remain)) = true
is_shrunk done = false

abbrev pub is_tuned : Done → Bool
is_tuned (done.Tuned (Ok answer)) = true
is_tuned done = false

-- the cache that an item made
abbrev pub made_by : Item → Done → Option ℕ
made_by (item.Cache place spec) done = new_in done
made_by item done = None

-- the item is one that may detach a cache, and it came about
abbrev pub came_about : Item → Done → Bool
came_about (item.Shrink place) done = is_shrunk done
came_about (item.Tune place setting) done = is_tuned done
came_about item done = false

-- a word that a detach changes has room for a step
abbrev pub DetachHasRoom : ℕ → ℕ → List Bool → ℕ → ℕ → Type 0
DetachHasRoom step cache current n id =
    n / 16 ≡ cache → slice_index_or current (n % 16) false ≡ true → id + step < 2 ^ 32

-- ids after a cache was detached that these CPUs had a current slab of
abbrev pub with_steps : ℕ → ℕ → List Bool → List ℕ → List ℕ
with_steps step cache current ids =
    map (λ n. if (n / 16 == cache) && slice_index_or current (n % 16) false
    then id_at ids n + step else id_at ids n)
    (range_with_len 0 512)

-- the ids are those that follow from what the item of this number did
abbrev pub AreAfter : Trace → State → ℕ → Done → List ℕ → List ℕ → Type 0
AreAfter trace s number done ids after =
    MatchOption (slice_get trace.items number) ⊥ (λ item. after ≡ ids_after trace s item done ids)
