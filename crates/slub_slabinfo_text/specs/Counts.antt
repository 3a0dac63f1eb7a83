-- What slabinfo counts of a cache, after `get_slabinfo` of Linux 6.1.
use Rattle.std.specs.Prelude.{ℕ, ◌+◌, ◌-◌, ◌*◌, ◌^◌, Bool, false, ◌&&◌, ◌==◌, if◌then◌else◌, List, length, reverse, sum_by, count_by, Option, Some, None, slice_range}
use Rattle.std.specs.List.{zip, filter_map}
use Rattle.std.specs.Option.{option_map, option_map_or}
use Rattle.slub_object_layout.specs.declared.layout.Layout.{Layout}
use Rattle.slub_lists.specs.declared.lists.Slab.{Slab}
use Rattle.slub_cache_create.specs.declared.caches.Cache.{Cache}
use Rattle.slub_red_zone.specs.State.{CheckedState, aside_count, free_count, slab_of as checked_slab}
use Rattle.slub_lists.specs.State.{State}
use Rattle.slub_lists.specs.Alloc.{cache_of, checked_of, node_of, own_free}
use Rattle.slub_lists.specs.Coherent.{held_of}
use Rattle.slub_lists.specs.Shrink.{is_slab_of}
use Rattle.slub_slabinfo_text.specs.declared.counts.Counts.{Counts}
use Rattle.slub_slabinfo_text.specs.declared.counts.InfoRow.{InfoRow}

-- a frozen one
abbrev pub is_frozen_of : ℕ → Option Slab → Bool
is_frozen_of cache None = false
is_frozen_of cache (Some slab) = (slab.cache == cache) && slab.frozen

-- the objects of a slab of the cache
abbrev pub objects_in : ℕ → Option Slab → ℕ
objects_in cache None = 0
objects_in cache (Some slab) = if slab.cache == cache then slab.objects else 0

-- the objects of all slabs of the cache
abbrev pub num_objs_of : State → ℕ → ℕ
num_objs_of s cache = sum_by (objects_in cache) s.slabs

-- the free objects of the listed slabs of a checked cache
abbrev pub listed_free : CheckedState → ℕ
listed_free slabs = sum_by (λ frame. length (checked_slab slabs frame).free) slabs.listed

-- the free objects of the slabs on the node list, which of a checked cache are its listed slabs
abbrev pub node_free_of : State → ℕ → ℕ
node_free_of s cache =
    option_map_or listed_free (checked_of s cache)
    (sum_by (λ frame. length (own_free s frame)) (node_of s cache))

-- the free objects of a slab of the cache
abbrev pub free_in : ℕ → Option Slab × List ℕ → ℕ
free_in cache slab = if is_slab_of cache slab.0 then length slab.1 else 0

-- the free objects on the slabs' own freelists and on the CPUs' freelists
abbrev pub loose_of : State → ℕ → ℕ
loose_of s cache =
    sum_by (free_in cache) (zip s.slabs s.frees)
    + sum_by (λ lists. length lists.free)
    (slice_range s.cpu_lists (cache * s.cpus) ((cache + 1) * s.cpus))

-- the free objects, wherever they stand
abbrev pub free_of : State → ℕ → ℕ
free_of s cache = option_map_or free_count (checked_of s cache) (loose_of s cache)

-- the objects set aside
abbrev pub aside_of : State → ℕ → ℕ
aside_of s cache = option_map_or aside_count (checked_of s cache) 0

-- objects on a CPU's freelist or in a slab on a CPU's partial list count as active; the slab of the
-- row is one of the layout's order
abbrev pub counts_of : State → ℕ → Layout → Counts
counts_of s cache layout = record {
  active_objs = num_objs_of s cache - node_free_of s cache;
  num_objs = num_objs_of s cache;
  objsize = layout.size;
  objperslab = layout.objects;
  pagesperslab = 2 ^ layout.order;
  num_slabs = count_by (is_slab_of cache) s.slabs;
  live = sum_by (held_of cache) s.board;
  free = free_of s cache;
  aside = aside_of s cache;
  frozen = count_by (is_frozen_of cache) s.slabs;
}

-- the row of a live cache, with its title
abbrev pub row_with : State → ℕ → Cache → InfoRow
row_with s cache live = record { title = live.title; counts = counts_of s cache live.layout }

-- its row, if the cache is live
abbrev pub row_of : State → ℕ → Option InfoRow
row_of s cache = option_map (row_with s cache) (cache_of s cache)

-- the rows of the live caches, newest first
abbrev pub rows_of : State → List InfoRow
rows_of s = filter_map (row_of s) (reverse s.table.ages)
