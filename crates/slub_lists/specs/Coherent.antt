-- Profile, the invariant: what holds of the machine between any two operations, and between their
-- steps.
use Rattle.std.specs.Prelude.{◌≡◌, ◌≢◌, ℕ, ◌+◌, ◌*◌, ◌%◌, ◌^◌, ◌<◌, ◌≤◌, ◌↔◌, ◌&&◌, ◌==◌, nat_lt, nat_le, if◌then◌else◌, List, [], ◌∷◌, length, map, sum_by, replicate, Option, Some, None, IsSome, IfSome, IsTrue, ⊤, MatchOption, is_some, ◌⊎◌, slice_index_or}
use Rattle.std.specs.Option.{option_map, option_map_or}
use Rattle.slub_page_pool.specs.FreeFrames as pool
use Rattle.slub_common.specs.Times.{times}
use Rattle.slub_object_layout.specs.declared.layout.Flags.{Flags}
use Rattle.slub_object_layout.specs.declared.layout.Layout.{Layout}
use Rattle.slub_object_layout.specs.Layout.{is_checked}
use Rattle.slub_cache_create.specs.Sound.{IsSound as IsSoundTable}
use Rattle.slub_cache_create.specs.Table.{opening as no_caches}
use Rattle.slub_red_zone.specs.Objects.{AddsReports, findable, idle, shape_at}
use Rattle.slub_red_zone.specs.Sound.{IsSound as IsSoundChecked}
use Rattle.slub_red_zone.specs.State.{CheckedState}
use Rattle.slub_lists.specs.declared.lists.Slab.{Slab}
use Rattle.slub_lists.specs.declared.lists.CpuLists.{CpuLists}
use Rattle.slub_lists.specs.declared.lists.Held.{Held}
use Rattle.slub_lists.specs.State.{State}
use Rattle.slub_lists.specs.Alloc.{held_here, slab_of, own_free, cache_of, checked_of, lists_of, node_of, no_lists}

-- a number where the frame is the current one, else 0
abbrev pub if_current : ℕ → ℕ → Option ℕ → ℕ
if_current frame n None = 0
if_current frame n (Some current) = if current == frame then n else 0

-- ---- each object in one place

-- how often an object is on a CPU's freelist
abbrev pub on_cpu : ℕ → ℕ → CpuLists → ℕ
on_cpu frame index lists = if_current frame (times index lists.free) lists.current

-- 1 where the object is one of a checked cache, and free or set aside there
abbrev pub idle_in : ℕ → ℕ → Option CheckedState → ℕ
idle_in frame index slabs = option_map_or (λ slabs. idle slabs frame index) slabs 0

-- how many places an object has: with a worker or on the board, on a CPU freelist, on its slab's
-- own freelist, free or set aside in a checked slab
abbrev pub places : State → ℕ → ℕ → ℕ
places s frame index =
    sum_by (held_here frame index) s.board + sum_by (on_cpu frame index) s.cpu_lists
    + times index (own_free s frame) + sum_by (idle_in frame index) s.checked

-- 1 where a slab has an object of this index
abbrev pub has_object : ℕ → Option Slab → ℕ
has_object index None = 0
has_object index (Some slab) = if nat_lt index slab.objects then 1 else 0

-- each object of a live slab is in exactly one place, and what is no object of a live slab is in
-- none
abbrev pub IsPlaced : State → Type 0
IsPlaced s = (frame index : ℕ) → places s frame index ≡ has_object index (slab_of s frame)

-- ---- each frame free or in one run

-- 1 where the slab whose run begins at `first` has the frame
abbrev pub covers : ℕ → ℕ → Option Slab → ℕ
covers frame first None = 0
covers frame first (Some slab) =
    if nat_le first frame && nat_lt frame (first + 2 ^ slab.order) then 1 else 0

-- how many of these slabs, the first of which would begin at `first`, have the frame
abbrev pub covered_from : ℕ → ℕ → List (Option Slab) → ℕ
covered_from frame first [] = 0
covered_from frame first (slab ∷ slabs) =
    covers frame first slab + covered_from frame (first + 1) slabs

-- each frame but frame 0 is free or in the run of one live slab
abbrev pub IsFramed : State → Type 0
IsFramed s =
    (frame : ℕ)
    → times frame s.pool.free + covered_from frame 0 s.slabs
    ≡ (if nat_lt 0 frame && nat_lt frame s.frames then 1 else 0)

-- ---- each slab on one list at most

-- how often a slab is current
abbrev pub times_current : State → ℕ → ℕ
times_current s frame = sum_by (λ lists. if_current frame 1 lists.current) s.cpu_lists

-- how often a slab is on a partial list of a CPU or of the node
abbrev pub times_partial : State → ℕ → ℕ
times_partial s frame =
    sum_by (λ lists. times frame lists.partial) s.cpu_lists + sum_by (times frame) s.nodes

pub record IsListed (s : State) : Type 0 where
  -- a slab is current once, on one partial list, or on no list
  pub once : (frame : ℕ) → times_current s frame + times_partial s frame ≤ 1
  -- what is current or on a list is a live slab
  pub live : (frame : ℕ) → 0 < times_current s frame + times_partial s frame
      → IsSome (slab_of s frame)
  -- a slab on a partial list has a free object
  pub stocked : (frame : ℕ) → 0 < times_partial s frame → 0 < length (own_free s frame)
  -- and it is a slab of the cache whose list it is
  pub of_current : (cache cpu frame : ℕ) → cpu < s.cpus
      → (lists_of s cache cpu).current ≡ Some frame
      → IfSome (slab_of s frame) (λ slab. slab.cache ≡ cache)
  pub of_partial : (cache cpu frame : ℕ) → cpu < s.cpus
      → 0 < times frame (lists_of s cache cpu).partial
      → IfSome (slab_of s frame) (λ slab. slab.cache ≡ cache)
  pub of_node : (cache frame : ℕ) → 0 < times frame (node_of s cache)
      → IfSome (slab_of s frame) (λ slab. slab.cache ≡ cache)
  -- the frozen slabs are the current ones
  pub frozen : (frame : ℕ)
      → IfSome (slab_of s frame) (λ slab. IsTrue slab.frozen ↔ (0 < times_current s frame))

-- ---- the counts

-- 1 where this is an object of the cache
abbrev pub held_of : ℕ → Option Held → ℕ
held_of cache None = 0
held_of cache (Some held) = if held.cache == cache then 1 else 0

-- the counted objects of each cache are those on the board
abbrev pub IsAccounted : State → Type 0
IsAccounted s = (cache : ℕ) → slice_index_or s.live cache 0 ≡ sum_by (held_of cache) s.board

-- ---- the whole

-- the slab's order and number of objects are the layout's, or its least ones
abbrev pub IsSlabOf : Layout → Slab → Type 0
IsSlabOf layout slab =
    ((slab.order ≡ layout.order) × (slab.objects ≡ layout.objects))
    ⊎ ((slab.order ≡ layout.min_order) × (slab.objects ≡ layout.min_objects_slab))

-- what an object number names
abbrev pub held_under : State → ℕ → Option Held
held_under s object = slice_index_or s.board object None

-- ---- checked caches

-- a slab and what a checked cache has at its frame: a slab of this cache is there, of the same
-- order and number of objects, or neither is
abbrev pub Agrees : ℕ → Option Slab → Option (ℕ × ℕ) → Type 0
Agrees cache None None = ⊤
Agrees cache None (Some shape) = ⊥
Agrees cache (Some slab) None = slab.cache ≢ cache
Agrees cache (Some slab) (Some shape) =
    (slab.cache ≡ cache) × (slab.order ≡ shape.0) × (slab.objects ≡ shape.1)

-- a layout that is as it was made, but for `min_partial`, which may have been set since
abbrev pub IsSetFrom : Layout → Layout → Type 0
IsSetFrom made layout = layout ≡ record made { min_partial = layout.min_partial }

-- the cache of these slabs has such a layout, and the flags of the slabs
abbrev pub IsCacheOf : CheckedState → Layout → Flags → Type 0
IsCacheOf slabs layout flags = IsSetFrom slabs.layout layout × (flags ≡ slabs.flags)

-- these are the slabs of the live checked cache of this number; none of them is current or on a
-- list, or has a freelist here
pub record IsCheckedOf (s : State) (cache : ℕ) (slabs : CheckedState) : Type 0 where
  pub sound : IsSoundChecked slabs
  pub number : slabs.cache ≡ cache
  pub live : MatchOption (cache_of s cache) ⊥ (λ live. IsCacheOf slabs live.layout live.flags)
  pub agrees : (frame : ℕ) → Agrees cache (slab_of s frame) (shape_at slabs frame)
  pub unlisted : (cpu : ℕ) → cpu < s.cpus → lists_of s cache cpu ≡ no_lists
  pub off_node : node_of s cache ≡ []
  pub unfree : (frame : ℕ)
      → MatchOption (slab_of s frame) ⊤ (λ slab. slab.cache ≡ cache → own_free s frame ≡ [])

-- each live cache with F, Z or P has its slabs there, and no other
pub record AreChecked (s : State) : Type 0 where
  pub numbers : length s.checked ≡ 32
  pub those : (cache : ℕ) → IfSome (checked_of s cache) (IsCheckedOf s cache)
  pub all : (cache : ℕ)
      → IfSome (cache_of s cache) (λ live. is_checked live.flags ≡ is_some (checked_of s cache))

-- ---- the numbers of things

pub record IsShaped (s : State) : Type 0 where
  pub frames : (2 ≤ s.frames) × (s.frames ≤ 4096)
  pub cpus : (1 ≤ s.cpus) × (s.cpus ≤ 16)
  pub pool : pool.IsPool s.pool
  pub pool_frames : s.pool.frames ≡ s.frames
  pub slabs : length s.slabs ≡ s.frames
  pub frees : length s.frees ≡ s.frames
  pub table : IsSoundTable s.table
  pub checked : AreChecked s
  pub cpu_lists : length s.cpu_lists ≡ 32 * s.cpus
  pub nodes : length s.nodes ≡ 32
  pub memory : length s.memory ≡ 512 * s.frames
  pub live : length s.live ≡ 32
  pub board : length s.board < 2 ^ 32
  pub gone : length s.gone ≡ length s.board
  -- a slab is one of its cache, and its run begins at a multiple of its length
  pub slab : (frame : ℕ)
      → IfSome (slab_of s frame)
      (λ slab. MatchOption (cache_of s slab.cache) ⊥ (λ live. IsSlabOf live.layout slab))
  pub aligned : (frame : ℕ) → IfSome (slab_of s frame) (λ slab. frame % 2 ^ slab.order ≡ 0)
  -- an object that was given is one of a slab of its cache
  pub held : (object : ℕ)
      → IfSome (held_under s object)
      (λ held. MatchOption (slab_of s held.frame) ⊥ (λ slab. slab.cache ≡ held.cache))
  -- object numbers begin at 1: number 0 names nothing
  pub no_zero : held_under s 0 ≡ None
  -- a CPU with no slab has no freelist
  pub bare : (place : ℕ) → (slice_index_or s.cpu_lists place no_lists).current ≡ None
      → (slice_index_or s.cpu_lists place no_lists).free ≡ []

-- each object in one place, each frame in one role, each slab on one list at most, and the counts
-- true: what holds inside an operation too
pub record IsConsistent (s : State) : Type 0 where
  pub shaped : IsShaped s
  pub placed : IsPlaced s
  pub framed : IsFramed s
  pub listed : IsListed s
  pub accounted : IsAccounted s

-- no slab is lost: one with an object on its own freelist is current or on a list
abbrev pub IsKept : State → Type 0
IsKept s =
    (frame : ℕ) → 0 < length (own_free s frame) → 0 < times_current s frame + times_partial s frame

-- the whole, between two operations
pub record IsCoherent (s : State) : Type 0 where
  pub shaped : IsShaped s
  pub placed : IsPlaced s
  pub framed : IsFramed s
  pub listed : IsListed s
  pub accounted : IsAccounted s
  pub kept : IsKept s

-- ---- the opening

-- the machine before the first item: free frames 1 to F - 1, no cache, an empty board; the names
-- are the trace's
abbrev pub opening : ℕ → ℕ → ℕ → List (List ℕ) → State
opening frames cpus objects names = record {
  frames = frames;
  cpus = cpus;
  pool = pool.opening frames;
  slabs = replicate frames None;
  frees = replicate frames [];
  table = no_caches names;
  cpu_lists = replicate (32 * cpus) no_lists;
  nodes = replicate 32 [];
  checked = replicate 32 None;
  memory = replicate (512 * frames) 0;
  board = replicate (objects + 1) None;
  gone = replicate (objects + 1) None;
  live = replicate 32 0;
}

-- ---- a round that ends

abbrev pub laid_down : Held → Held
laid_down held = record held { worker = None }

-- every held object is put on the board, and nobody knows a freed one any more
abbrev pub all_on_board : State → State
all_on_board s =
    record s { board = map (option_map laid_down) s.board; gone = map (λ freed. None) s.gone }

-- ---- what one event leaves

-- the reports of a checked cache grow, and there is no other cache than before
abbrev pub AddsReportsOf : Option CheckedState → Option CheckedState → Type 0
AddsReportsOf None None = ⊤
AddsReportsOf None (Some new) = ⊥
AddsReportsOf (Some old) None = ⊥
AddsReportsOf (Some old) (Some new) = AddsReports old new

-- the reports and the listed slabs of all checked caches
abbrev pub findable_in : State → ℕ
findable_in s = sum_by (λ slabs. option_map_or findable slabs 0) s.checked

-- what an event under a number leaves as it was
pub record KeepsOthers (s : State) (object : ℕ) (after : State) : Type 0 where
  pub frames : after.frames ≡ s.frames
  pub cpus : after.cpus ≡ s.cpus
  pub table : after.table ≡ s.table
  pub board_length : length after.board ≡ length s.board
  pub board : (other : ℕ) → other ≢ object
      → slice_index_or after.board other None ≡ slice_index_or s.board other None
  -- reports are added and none goes, and an event lists at most one slab more that may be reported
  pub reports : (cache : ℕ) → AddsReportsOf (checked_of s cache) (checked_of after cache)
  pub findable : findable_in after ≤ findable_in s + 1

-- what an item leaves as it was: the sizes of the machine and the trace's names
pub record KeepsMachine (s after : State) : Type 0 where
  pub frames : after.frames ≡ s.frames
  pub cpus : after.cpus ≡ s.cpus
  pub kept : after.table.kept ≡ s.table.kept
  pub gone : after.gone ≡ s.gone
