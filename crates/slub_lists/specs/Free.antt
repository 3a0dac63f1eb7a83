-- `do_slab_free`, `__slab_free`, `put_cpu_partial`, `__unfreeze_partials` of Linux 6.1: freeing on
-- plain lists.
use Rattle.std.specs.Prelude.{◌≡◌, ℕ, ◌-◌, ◌&&◌, ◌==◌, not, nat_lt, nat_le, if◌then◌else◌, Bool, true, false, List, [], ◌∷◌, ◌++◌, length, filter, fold, Option, Some, None, slice_set, slice_index_or}
use Rattle.std.specs.Option.{option_map_or}
use Rattle.slub_page_pool.specs.Block.{with_run}
use Rattle.slub_common.specs.Times.{times}
use Rattle.slub_object_layout.specs.declared.layout.Layout.{Layout}
use Rattle.slub_object_layout.specs.Layout.{address_of}
use Rattle.slub_lists.specs.declared.lists.Held.{Held}
use Rattle.slub_trace.specs.declared.reply.Reply.{Reply}
use Rattle.slub_trace.specs.declared.reply.Reply.TheVariants.{Freed}
use Rattle.slub_lists.specs.State.{State}
use Rattle.slub_lists.specs.Alloc.{lists_of, node_of, own_free, slab_of, with_lists, with_node}

-- ---- what a slab has

-- how many of its objects are not on its own freelist (`inuse`)
abbrev pub inuse_of : State → ℕ → ℕ
inuse_of s frame =
    option_map_or (λ slab. slab.objects) (slab_of s frame) 0 - length (own_free s frame)

abbrev pub order_of : State → ℕ → ℕ
order_of s frame = option_map_or (λ slab. slab.order) (slab_of s frame) 0

abbrev pub is_frozen : State → ℕ → Bool
is_frozen s frame = option_map_or (λ slab. slab.frozen) (slab_of s frame) false

-- ---- a slab goes

-- the slab is gone, and its run is free (`discard_slab`)
abbrev pub discarded : State → ℕ → State
discarded s frame = record s {
  pool = record s.pool { free = with_run s.pool.free frame (order_of s frame) };
  slabs = slice_set s.slabs frame None;
  frees = slice_set s.frees frame [];
}

-- nothing of the slab is in use, and the node list has enough slabs without it
abbrev pub is_spare : State → ℕ → ℕ → ℕ → Bool
is_spare s min_partial cache frame =
    (inuse_of s frame == 0) && nat_le min_partial (length (node_of s cache))

-- ---- a set is moved (`__unfreeze_partials`)

-- a spare slab goes; every other goes to the tail of the node list
abbrev pub moved : ℕ → ℕ → State → ℕ → State
moved min_partial cache s frame =
    if is_spare s min_partial cache frame then discarded s frame
    else with_node s cache (node_of s cache ++ frame ∷ [])

-- the slabs of a set, one after the other from its front on
abbrev pub moved_all : State → ℕ → ℕ → List ℕ → State
moved_all s min_partial cache frames = fold (moved min_partial cache) s frames

-- ---- a slab that was full goes to the CPU's partial list (`put_cpu_partial`)

abbrev pub with_partial : State → ℕ → ℕ → List ℕ → State
with_partial s cache cpu frames =
    with_lists s cache cpu (record (lists_of s cache cpu) { partial = frames })

-- a partial list that has its `cpu_partial_slabs` slabs, or more, is moved as a set
abbrev pub drained : State → Layout → ℕ → ℕ → State
drained s layout cache cpu =
    if nat_le layout.cpu_partial_slabs (length (lists_of s cache cpu).partial) then
    moved_all (with_partial s cache cpu []) layout.min_partial cache
    (lists_of s cache cpu).partial else s

-- the slab is put at the front of what is left
abbrev pub put_partial : State → Layout → ℕ → ℕ → ℕ → State
put_partial s layout cache cpu frame =
    let rest = drained s layout cache cpu in
    with_partial rest cache cpu (frame ∷ (lists_of rest cache cpu).partial)

-- ---- the object

-- to the front of the CPU freelist (`do_slab_free`, the fast path)
abbrev pub freed_here : State → ℕ → ℕ → ℕ → State
freed_here s cache cpu index =
    with_lists s cache cpu
    (record (lists_of s cache cpu) { free = index ∷ (lists_of s cache cpu).free })

-- to the front of the slab's own freelist
abbrev pub with_freed : State → ℕ → ℕ → State
with_freed s frame index = record s { frees = slice_set s.frees frame (index ∷ own_free s frame) }

abbrev pub without_slab : State → ℕ → ℕ → State
without_slab s cache frame =
    with_node s cache (filter (λ other. not (other == frame)) (node_of s cache))

-- a slab of the node list of which nothing is in use goes, where the list with it has `min_partial`
-- slabs or more
abbrev pub without_spare : State → ℕ → ℕ → ℕ → State
without_spare s min_partial cache frame =
    if is_spare s min_partial cache frame && nat_lt 0 (times frame (node_of s cache)) then
    discarded (without_slab s cache frame) frame else s

-- what follows where the object has gone to its slab's own freelist: nothing for a frozen slab; a
-- slab that was full goes to the CPU's partial list; one of a partial list stays, but for a spare
-- slab of the node list (`__slab_free`)
abbrev pub settled : State → Layout → ℕ → ℕ → ℕ → List ℕ → State
settled s layout cache cpu frame [] =
    if is_frozen s frame then s else put_partial s layout cache cpu frame
settled s layout cache cpu frame (index ∷ free) =
    if is_frozen s frame then s else without_spare s layout.min_partial cache frame

-- an object of a slab that isn't current on the CPU; `own` is the slab's own freelist before
abbrev pub freed_there : State → Layout → ℕ → ℕ → ℕ → ℕ → State
freed_there s layout cache cpu frame index =
    settled (with_freed s frame index) layout cache cpu frame (own_free s frame)

abbrev pub is_current : ℕ → Option ℕ → Bool
is_current frame None = false
is_current frame (Some current) = current == frame

-- an object of a slab is free again, by a free on this CPU
abbrev pub freed : State → Layout → ℕ → ℕ → ℕ → ℕ → State
freed s layout cache cpu frame index =
    if is_current frame (lists_of s cache cpu).current then freed_here s cache cpu index
    else freed_there s layout cache cpu frame index

-- ---- the number

-- the worker holds the object, or it is on the board between rounds
abbrev pub is_freeable : ℕ → Option ℕ → Bool
is_freeable worker None = true
is_freeable worker (Some holder) = holder == worker

-- nothing has the number any more
abbrev pub with_taken : State → ℕ → ℕ → State
with_taken s object cache =
    let count = slice_index_or s.live cache 0 in
    record s { board = slice_set s.board object None; live = slice_set s.live cache (count - 1) }

-- the number is one that this worker freed in this round
abbrev pub with_gone : State → ℕ → ℕ → Held → State
with_gone s object worker held =
    record s { gone = slice_set s.gone object (Some (record held { worker = Some worker })) }

-- the object of a cache that is not checked is freed on a CPU
abbrev pub FreesUnchecked : State → Layout → ℕ → ℕ → ℕ → Held → Reply → State → Type 0
FreesUnchecked s layout cpu worker object held reply after =
    (reply ≡ Freed (address_of held.frame held.index layout))
    × (after
    ≡ with_gone (freed (with_taken s object held.cache) layout held.cache cpu held.frame held.index)
    object worker held)
