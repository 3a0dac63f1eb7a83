-- `__kmem_cache_shrink`, `flush_all`, `deactivate_slab`, `__kmem_cache_do_shrink` of Linux 6.1:
-- shrinking a cache.
use Rattle.std.specs.Prelude.{◌≡◌, ℕ, ◌+◌, ◌==◌, nat_lt, if◌then◌else◌, Bool, false, List, [], ◌∷◌, ◌++◌, length, map, fold, count_by, Option, Some, None, MatchOption, Result, Ok, Err, slice_index_or, slice_set}
use Rattle.std.specs.List.{range_with_len}
use Rattle.std.specs.Option.{option_map_or}
use Rattle.slub_node_partial.specs.Promotion.{IsPromoted}
use Rattle.slub_common.specs.declared.no_such_cache.NoSuchCache.{NoSuchCache}
use Rattle.slub_cache_create.specs.Table.{number_of}
use Rattle.slub_red_zone.specs.State.{CheckedState, aside_count, objects_in, slab_of as checked_slab}
use Rattle.slub_red_zone.specs.Steps.{free_counts, without_slab as without_checked}
use Rattle.slub_lists.specs.declared.lists.Slab.{Slab}
use Rattle.slub_lists.specs.State.{State}
use Rattle.slub_lists.specs.Alloc.{cache_of, checked_of, lists_of, node_of, own_free, with_frozen, with_lists, with_node}
use Rattle.slub_lists.specs.Checked.{with_checked}
use Rattle.slub_lists.specs.Leaving.{FreesAll, FreesLost, KeepsHeld, LeavesSlabs}
use Rattle.slub_lists.specs.Free.{discarded, inuse_of, is_spare, moved_all, with_partial, without_slab}

-- ---- a current slab is put away (`deactivate_slab`)

-- its CPU freelist is put before its own freelist, it is unfrozen, and is current no more
abbrev pub taken_down : State → ℕ → ℕ → ℕ → State
taken_down s cache cpu frame =
    let own = (lists_of s cache cpu).free ++ own_free s frame in
    with_lists (record (with_frozen s frame false) { frees = slice_set s.frees frame own }) cache
    cpu (record { current = None; free = []; partial = (lists_of s cache cpu).partial })

-- it goes to the head of the node list, or to the tail where its own freelist (`own`) wasn't empty
-- before (profile)
abbrev pub put_on_node : State → ℕ → ℕ → List ℕ → State
put_on_node s cache frame [] = with_node s cache (frame ∷ node_of s cache)
put_on_node s cache frame (index ∷ own) = with_node s cache (node_of s cache ++ frame ∷ [])

-- a spare slab goes; one with a free object goes to the node list; any other stands on no list
abbrev pub put_where : State → ℕ → ℕ → ℕ → List ℕ → State
put_where s min_partial cache frame own =
    if is_spare s min_partial cache frame then discarded s frame else
    (if nat_lt 0 (length (own_free s frame)) then put_on_node s cache frame own else s)

abbrev pub put_away_slab : State → ℕ → ℕ → ℕ → ℕ → State
put_away_slab s min_partial cache cpu frame =
    put_where (taken_down s cache cpu frame) min_partial cache frame (own_free s frame)

-- the current slab, if there is one
abbrev pub put_away : State → ℕ → ℕ → ℕ → State
put_away s min_partial cache cpu =
    option_map_or (put_away_slab s min_partial cache cpu) (lists_of s cache cpu).current s

-- ---- what CPUs have (`flush_cpu_slab`, `unfreeze_partials`)

-- the CPU's partial list is moved as a set
abbrev pub moved_partial : State → ℕ → ℕ → ℕ → State
moved_partial s min_partial cache cpu =
    moved_all (with_partial s cache cpu []) min_partial cache (lists_of s cache cpu).partial

-- a CPU has nothing of the cache any more
abbrev pub flushed : ℕ → ℕ → State → ℕ → State
flushed min_partial cache s cpu =
    moved_partial (put_away s min_partial cache cpu) min_partial cache cpu

-- how many slabs the node list of a live cache keeps
abbrev pub min_partial_of : State → ℕ → ℕ
min_partial_of s cache = option_map_or (λ live. live.layout.min_partial) (cache_of s cache) 0

-- none of the first CPUs has, from CPU 0 on
abbrev pub flushed_below : State → ℕ → ℕ → ℕ → State
flushed_below s min_partial cache cpus = fold (flushed min_partial cache) s (range_with_len 0 cpus)

-- ---- the node list (`__kmem_cache_do_shrink`)

-- a slab of which nothing is in use goes
abbrev pub swept_slab : ℕ → State → ℕ → State
swept_slab cache s frame =
    if inuse_of s frame == 0 then discarded (without_slab s cache frame) frame else s

abbrev pub swept : State → ℕ → State
swept s cache = fold (swept_slab cache) s (node_of s cache)

-- how many objects of each slab of the node list are free
abbrev pub node_counts : State → ℕ → List ℕ
node_counts s cache = map (λ frame. length (own_free s frame)) (node_of s cache)

-- the node list is put in order, slabs with 1 to 32 free objects first
abbrev pub Promotes : State → ℕ → State → Type 0
Promotes s cache after =
    (frames : List ℕ) × IsPromoted (node_of s cache) (node_counts s cache) frames
    × (after ≡ with_node s cache frames)

-- a cache that is not checked: its CPUs are flushed, from CPU 0 on, its unused slabs go, and the
-- others are put in order
abbrev pub ShrinksUnchecked : State → ℕ → ℕ → State → Type 0
ShrinksUnchecked s min_partial cache after =
    Promotes (swept (flushed_below s min_partial cache s.cpus) cache) cache after

-- ---- a checked cache

abbrev pub all_free : CheckedState → ℕ → Bool
all_free slabs frame =
    length (checked_slab slabs frame).free == objects_in (checked_slab slabs frame)

-- a slab of which all objects are free goes
abbrev pub swept_checked_slab : ℕ → State → ℕ → State
swept_checked_slab cache s frame =
    option_map_or
    (λ slabs. if all_free slabs frame then
    discarded (with_checked s cache (without_checked slabs frame)) frame else s)
    (checked_of s cache) s

abbrev pub swept_checked : State → ℕ → CheckedState → State
swept_checked s cache slabs = fold (swept_checked_slab cache) s slabs.listed

-- the listed slabs are put in order, like a node list
abbrev pub PromotesChecked : State → ℕ → State → Type 0
PromotesChecked s cache after =
    MatchOption (checked_of s cache) ⊥
    (λ slabs. (frames : List ℕ) × IsPromoted slabs.listed (free_counts slabs) frames
    × (after ≡ with_checked s cache (record slabs { listed = frames })))

-- its unused slabs go, and the listed ones are put in order
abbrev pub ShrinksChecked : State → ℕ → CheckedState → State → Type 0
ShrinksChecked s cache slabs after = PromotesChecked (swept_checked s cache slabs) cache after

-- ---- the call

-- a live slab of the cache
abbrev pub is_slab_of : ℕ → Option Slab → Bool
is_slab_of cache None = false
is_slab_of cache (Some slab) = slab.cache == cache

-- how many slabs the cache has
abbrev pub slabs_of : State → ℕ → ℕ
slabs_of s cache = count_by (is_slab_of cache) s.slabs

-- it has one
abbrev pub has_slab : State → ℕ → Bool
has_slab s cache = nat_lt 0 (slabs_of s cache)

-- how many objects of a cache are held, on the board or set aside
abbrev pub busy_of : State → ℕ → ℕ
busy_of s cache = slice_index_or s.live cache 0 + option_map_or aside_count (checked_of s cache) 0

-- a live cache is shrunk by the steps of its kind
abbrev pub ShrinksByKind : State → ℕ → State → Type 0
ShrinksByKind s cache after =
    MatchOption (cache_of s cache) ⊥
    (λ live. MatchOption (checked_of s cache)
    (ShrinksUnchecked s live.layout.min_partial cache after)
    (λ slabs. ShrinksChecked s cache slabs after))

-- a live cache is shrunk: the steps, and what they leave
pub record ShrinksCache (s : State) (cache : ℕ) (after : State) : Type 0 where
  pub steps : ShrinksByKind s cache after
  pub held : KeepsHeld s after
  pub slabs : LeavesSlabs s cache after
  pub pages : FreesLost s cache after
  -- where nothing of the cache is held, on the board or set aside, no slab of it is left, and the
  -- free frames grow by exactly its frames
  pub emptied : busy_of s cache ≡ 0 → (has_slab after cache ≡ false) × FreesAll s cache after

-- the answer is whether the cache still has a slab; where the name isn't live, nothing changes
abbrev pub Shrinks : State → List ℕ → Result Bool NoSuchCache → State → Type 0
Shrinks s name (Err none) after = (number_of s.table name ≡ None) × (after ≡ s)
Shrinks s name (Ok remain) after =
    MatchOption (number_of s.table name) ⊥
    (λ cache. ShrinksCache s cache after × (remain ≡ has_slab after cache))
