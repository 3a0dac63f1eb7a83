-- `slab_alloc_node`, `___slab_alloc`, `get_freelist`, `get_partial_node`, `new_slab` of Linux 6.1:
-- allocation on plain lists.
use Rattle.std.specs.Prelude.{◌≡◌, ◌≢◌, ℕ, ◌+◌, ◌*◌, ◌/◌, Bool, true, false, List, [], ◌∷◌, take, drop, reverse, Option, Some, None, MatchOption, Result, Ok, Err, MatchResult, slice_set, slice_index_or, ◌⊎◌, sum_by, ◌&&◌, ◌==◌, if◌then◌else◌}
use Rattle.std.specs.Option.{option_map}
use Rattle.std.specs.List.{range_with_len}
use Rattle.slub_page_pool.specs.FreeFrames.{FreeFrames}
use Rattle.slub_page_pool.specs.Block.{Takes, TakesOrNotes}
use Rattle.slub_object_layout.specs.declared.layout.Flags.{Flags}
use Rattle.slub_object_layout.specs.declared.layout.Layout.{Layout}
use Rattle.slub_object_layout.specs.Layout.{address_of}
use Rattle.slub_cache_create.specs.declared.caches.Cache.{Cache}
use Rattle.slub_cache_create.specs.Sound.{IsLiveLayout}
use Rattle.slub_cache_create.specs.Table.{name_at, number_of, cache_of as live_cache}
use Rattle.slub_red_zone.specs.State.{CheckedState}
use Rattle.slub_lists.specs.declared.lists.Slab.{Slab}
use Rattle.slub_lists.specs.declared.lists.CpuLists.{CpuLists}
use Rattle.slub_lists.specs.declared.lists.Held.{Held}
use Rattle.slub_lists.specs.declared.lists.Run.{Run}
use Rattle.slub_trace.specs.declared.reply.Reply.{Reply}
use Rattle.slub_trace.specs.declared.reply.Reply.TheVariants.{Given, NoFrames}
use Rattle.slub_lists.specs.State.{State}

-- ---- what the machine has

-- a CPU that has nothing of a cache
abbrev pub no_lists : CpuLists
no_lists = record { current = None; free = []; partial = [] }

-- where what a CPU has of a cache stands
abbrev pub cpu_place : State → ℕ → ℕ → ℕ
cpu_place s cache cpu = cache * s.cpus + cpu

-- what a CPU has of a cache
abbrev pub lists_of : State → ℕ → ℕ → CpuLists
lists_of s cache cpu = slice_index_or s.cpu_lists (cpu_place s cache cpu) no_lists

-- the slab whose run begins at a frame
abbrev pub slab_of : State → ℕ → Option Slab
slab_of s frame = slice_index_or s.slabs frame None

-- a slab's own freelist
abbrev pub own_free : State → ℕ → List ℕ
own_free s frame = slice_index_or s.frees frame []

-- a cache's node list
abbrev pub node_of : State → ℕ → List ℕ
node_of s cache = slice_index_or s.nodes cache []

-- the live cache of a number
abbrev pub cache_of : State → ℕ → Option Cache
cache_of s cache = live_cache s.table cache

-- the cache is live, and has this layout
abbrev pub HasLayout : State → ℕ → Layout → Type 0
HasLayout s cache layout = MatchOption (cache_of s cache) ⊥ (λ live. live.layout ≡ layout)

-- the layout of a live cache
abbrev pub IsLive : Layout → Type 0
IsLive layout = (flags : Flags) × IsLiveLayout flags layout

-- the number of the live cache that the name at a place of the trace's names names
abbrev pub named : State → ℕ → Option ℕ
named s place = number_of s.table (name_at s.table place)

-- the slabs of a live checked cache
abbrev pub checked_of : State → ℕ → Option CheckedState
checked_of s cache = slice_index_or s.checked cache None

-- ---- changes

abbrev pub with_lists : State → ℕ → ℕ → CpuLists → State
with_lists s cache cpu lists =
    record s { cpu_lists = slice_set s.cpu_lists (cpu_place s cache cpu) lists }

abbrev pub with_node : State → ℕ → List ℕ → State
with_node s cache frames = record s { nodes = slice_set s.nodes cache frames }

abbrev pub marked : Bool → Slab → Slab
marked frozen slab = record slab { frozen = frozen }

-- a slab is marked frozen, or unfrozen
abbrev pub with_frozen : State → ℕ → Bool → State
with_frozen s frame frozen =
    record s { slabs = slice_set s.slabs frame (option_map (marked frozen) (slab_of s frame)) }

-- the current slab is unfrozen, stands on no list and is current no more
abbrev pub retired : State → ℕ → ℕ → ℕ → State
retired s cache cpu frame =
    with_lists (with_frozen s frame false) cache cpu
    (record { current = None; free = []; partial = (lists_of s cache cpu).partial })

-- a slab is frozen and current, and its whole freelist is the CPU freelist (`get_freelist`)
abbrev pub taken_up : State → ℕ → ℕ → ℕ → List ℕ → State
taken_up s cache cpu frame partial =
    with_lists (record (with_frozen s frame true) { frees = slice_set s.frees frame [] }) cache cpu
    (record { current = Some frame; free = own_free s frame; partial = partial })

-- ---- a slab with an object to give

-- here Ok is the machine in which the CPU freelist isn't empty, and Err the one that needs a new
-- slab

-- the head of the node list is taken off, and after it `batch` slabs go to the CPU's partial list,
-- each to its front (`get_partial_node`)
abbrev pub from_node : State → ℕ → ℕ → ℕ → List ℕ → Result State State
from_node s cache cpu batch [] = Err s
from_node s cache cpu batch (frame ∷ frames) =
    Ok
    (taken_up (with_node s cache (drop batch frames)) cache cpu frame (reverse (take batch frames)))

-- the front of the CPU's partial list is taken off
abbrev pub from_partial : State → ℕ → ℕ → ℕ → List ℕ → Result State State
from_partial s cache cpu batch [] = from_node s cache cpu batch (node_of s cache)
from_partial s cache cpu batch (frame ∷ frames) = Ok (taken_up s cache cpu frame frames)

-- the current slab's own freelist is taken; where that is empty, another slab is looked for
abbrev pub from_current : State → ℕ → ℕ → ℕ → ℕ → List ℕ → Result State State
from_current s cache cpu batch frame [] =
    let rest = retired s cache cpu frame in
    from_partial rest cache cpu batch (lists_of rest cache cpu).partial
from_current s cache cpu batch frame (index ∷ free) =
    Ok (taken_up s cache cpu frame (lists_of s cache cpu).partial)

abbrev pub from_slabs : State → ℕ → ℕ → ℕ → Option ℕ → Result State State
from_slabs s cache cpu batch None = from_partial s cache cpu batch (lists_of s cache cpu).partial
from_slabs s cache cpu batch (Some frame) = from_current s cache cpu batch frame (own_free s frame)

abbrev pub from_free : State → ℕ → ℕ → ℕ → List ℕ → Result State State
from_free s cache cpu batch [] = from_slabs s cache cpu batch (lists_of s cache cpu).current
from_free s cache cpu batch (index ∷ free) = Ok s

-- how many slabs follow the head of the node list: they are added while at most half of
-- `cpu_partial_slabs` were
abbrev pub batch_of : Layout → ℕ
batch_of layout = layout.cpu_partial_slabs / 2 + 1

-- the CPU freelist first, then the current slab, the CPU's partial list and the node list
abbrev pub stocked : State → Layout → ℕ → ℕ → Result State State
stocked s layout cache cpu = from_free s cache cpu (batch_of layout) (lists_of s cache cpu).free

-- whether there is such a slab, and the machine that follows
abbrev pub IsStocked : Result State State → Bool → State → Type 0
IsStocked (Ok stocked) found after = (found ≡ true) × (after ≡ stocked)
IsStocked (Err bare) found after = (found ≡ false) × (after ≡ bare)

-- ---- a new slab (`new_slab`)

-- a run of `order`, or where none is there of `min_order`; where none is there either, `dry` rises
abbrev pub FindsRun : FreeFrames → Layout → Option Run → FreeFrames → Type 0
FindsRun old layout (Some run) new =
    ((run.order ≡ layout.order) × (run.objects ≡ layout.objects)
    × Takes old layout.order (Some run.frame) new)
    ⊎ ((layout.min_order ≢ layout.order) × (run.order ≡ layout.min_order)
    × (run.objects ≡ layout.min_objects_slab) × Takes old layout.order None old
    × Takes old layout.min_order (Some run.frame) new)
FindsRun old layout None new =
    Takes old layout.order None old × TakesOrNotes old layout.min_order None new

-- the slab is frozen and current, and its objects in rising order are the CPU freelist
abbrev pub with_new_slab : State → ℕ → ℕ → FreeFrames → Run → State
with_new_slab s cache cpu pool run =
    let slab : Slab =
    record { cache = cache; order = run.order; objects = run.objects; frozen = true } in
    let partial = (lists_of s cache cpu).partial in
    with_lists (record s { pool = pool; slabs = slice_set s.slabs run.frame (Some slab) }) cache cpu
    (record { current = Some run.frame; free = range_with_len 0 run.objects; partial = partial })

-- whether a slab was made, and the machine that follows
abbrev pub MakesSlab : State → Layout → ℕ → ℕ → Bool → State → Type 0
MakesSlab s layout cache cpu true after =
    (run : Run) × (pool : FreeFrames) × FindsRun s.pool layout (Some run) pool
    × (after ≡ with_new_slab s cache cpu pool run)
MakesSlab s layout cache cpu false after =
    (pool : FreeFrames) × FindsRun s.pool layout None pool × (after ≡ record s { pool = pool })

-- ---- giving

-- 1 where this is the object
abbrev pub held_here : ℕ → ℕ → Option Held → ℕ
held_here frame index None = 0
held_here frame index (Some held) = if (held.frame == frame) && (held.index == index) then 1 else 0

-- a worker has an object under a number
abbrev pub with_held : State → ℕ → Held → State
with_held s object held =
    let count = slice_index_or s.live held.cache 0 in
    record s {
      board = slice_set s.board object (Some held);
      live = slice_set s.live held.cache (count + 1);
    }

-- and the CPU has this of the cache
abbrev pub with_given : State → ℕ → ℕ → CpuLists → ℕ → Held → State
with_given s cache cpu lists object held = with_held (with_lists s cache cpu lists) object held

-- the first object of the CPU freelist is given to a worker under this number
pub record Gives (s : State) (layout : Layout) (cache cpu worker object : ℕ) (reply : Reply)
    (after : State) : Type 0 where
  pub frame : ℕ
  pub index : ℕ
  pub rest : List ℕ
  pub current : (lists_of s cache cpu).current ≡ Some frame
  pub first : (lists_of s cache cpu).free ≡ index ∷ rest
  -- nobody has it
  pub unheld : sum_by (held_here frame index) s.board ≡ 0
  pub address : reply ≡ Given (address_of frame index layout)
  pub given : after
      ≡ with_given s cache cpu
      (record { current = Some frame; free = rest; partial = (lists_of s cache cpu).partial })
      object (record { frame = frame; index = index; cache = cache; worker = Some worker })

-- a new slab is made where a run is there, and gives its first object
abbrev pub AllocatesNew : State → Layout → ℕ → ℕ → ℕ → ℕ → Reply → State → Type 0
AllocatesNew s layout cache cpu worker object reply after =
    (run : Option Run) × (pool : FreeFrames) × FindsRun s.pool layout run pool
    × MatchOption run ((reply ≡ NoFrames) × (after ≡ record s { pool = pool }))
    (λ run. Gives (with_new_slab s cache cpu pool run) layout cache cpu worker object reply after)

-- an object of a cache is allocated on a CPU by a worker under a number
abbrev pub Allocates : State → Layout → ℕ → ℕ → ℕ → ℕ → Reply → State → Type 0
Allocates s layout cache cpu worker object reply after =
    MatchResult (stocked s layout cache cpu)
    (λ stocked. Gives stocked layout cache cpu worker object reply after)
    (λ bare. AllocatesNew bare layout cache cpu worker object reply after)
