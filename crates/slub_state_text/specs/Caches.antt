-- The rows of a cache.
use Rattle.std.specs.Prelude.{ℕ, ◌==◌, if◌then◌else◌, List, [], ◌∷◌, ◌++◌, flat_map, codes, Option, Some, None}
use Rattle.slub_object_layout.specs.declared.layout.Layout.{Layout}
use Rattle.slub_cache_create.specs.declared.caches.Cache.{Cache}
use Rattle.slub_red_zone.specs.State.{CheckedState}
use Rattle.slub_lists.specs.State.{State}
use Rattle.slub_lists.specs.Alloc.{cache_of, checked_of, node_of}
use Rattle.slub_state_text.specs.Fields.{row, titled, field}
use Rattle.slub_state_text.specs.Ranges.{numbers_text}
use Rattle.slub_state_text.specs.Cpus.{cpu_rows, list_rows}
use Rattle.slub_state_text.specs.Slabs.{slab_rows}

-- ---- the layout and the names

abbrev pub slot_fields : Layout → List ℕ
slot_fields layout =
    field (codes "size") layout.size ++ field (codes "left_pad") layout.left_pad
    ++ field (codes "order") layout.order ++ field (codes "objects") layout.objects

abbrev pub setting_fields : Layout → List ℕ
setting_fields layout =
    field (codes "min_order") layout.min_order ++ field (codes "min_partial") layout.min_partial
    ++ field (codes "cpu_partial_slabs") layout.cpu_partial_slabs

-- a live name after a space, where it is one of the cache
abbrev pub name_text : ℕ → List ℕ × ℕ → List ℕ
name_text cache named = if named.1 == cache then 32 ∷ named.0 else []

-- the names of a cache, in the order in which they were made
abbrev pub names_text : ℕ → List (List ℕ × ℕ) → List ℕ
names_text cache live = flat_map (name_text cache) live

-- the numbers of a cache's layout, as tuned, and its names
abbrev pub cache_fields : List (List ℕ × ℕ) → ℕ → Layout → List ℕ
cache_fields live cache layout =
    slot_fields layout ++ setting_fields layout ++ codes " names" ++ names_text cache live

-- the row of a live cache; `live` has the live names, each with the number of its cache
abbrev pub cache_row : List (List ℕ × ℕ) → ℕ → List ℕ → Layout → List ℕ
cache_row live cache title layout =
    row (titled (codes "cache") title) (cache_fields live cache layout)

-- ---- the node

-- the slabs on the node's list, head first, or of a checked cache its listed ones
abbrev pub node_fields : State → ℕ → Option CheckedState → List ℕ
node_fields s cache None = codes " slabs" ++ numbers_text (node_of s cache)
node_fields s cache (Some slabs) = codes " listed" ++ numbers_text slabs.listed

abbrev pub node_row : State → List ℕ → ℕ → List ℕ
node_row s title cache =
    row (titled (codes "node") title) (node_fields s cache (checked_of s cache))

-- ---- the whole

-- the cache, its CPUs, their lists, its node and its slabs
abbrev pub live_rows
    : State → ℕ → List ℕ → List (List ℕ × ℕ) → ℕ → List ℕ → Layout → List ℕ
live_rows s first ids live cache title layout =
    cache_row live cache title layout ++ cpu_rows s first ids title cache
    ++ list_rows s title cache ++ node_row s title cache ++ slab_rows s cache

-- the rows of a live cache of this number
abbrev pub rows_in : State → ℕ → List ℕ → List (List ℕ × ℕ) → ℕ → Option Cache → List ℕ
rows_in s first ids live number None = []
rows_in s first ids live number (Some cache) =
    live_rows s first ids live number cache.title cache.layout

abbrev pub cache_rows : State → ℕ → List ℕ → List (List ℕ × ℕ) → ℕ → List ℕ
cache_rows s first ids live number = rows_in s first ids live number (cache_of s number)

-- the rows of all live caches, the oldest first
abbrev pub caches_rows : State → ℕ → List ℕ → List (List ℕ × ℕ) → List ℕ
caches_rows s first ids live = flat_map (cache_rows s first ids live) s.table.ages
