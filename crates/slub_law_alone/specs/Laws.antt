-- A worker alone does what the operation on plain lists does.
use Rattle.std.specs.Prelude.{◌≡◌, ◌≢◌, ℕ, ◌<◌, ◌≤◌, ◌⊎◌, List, [], ◌∷◌, length, Bool, true, false, if◌then◌else◌, Some, None, IfSome, is_some, ◌+◌, slice_set}
use Rattle.std.specs.Option.{option_map_or}
use Rattle.slub_trace.specs.declared.reply.Reply.{Reply}
use Rattle.slub_trace.specs.Kinds.{is_given}
use Rattle.slub_lists.specs.State.{State}
use Rattle.slub_common.specs.Times.{times}
use Rattle.slub_lists.specs.Alloc.{checked_of, lists_of, named, node_of, own_free, FindsRun}
use Rattle.slub_lists.specs.Free.{inuse_of, is_freeable, is_frozen}
use Rattle.slub_lists.specs.Coherent.{held_under}
use Rattle.slub_page_pool.specs.Block.{HasNoBlock}
use Rattle.slub_page_pool.specs.FreeFrames.{FreeFrames}
use Rattle.slub_lists.specs.declared.lists.Run.{Run}
use Rattle.slub_lists.specs.Places.{layout_at}
use Rattle.slub_lists.specs.Named.{AllocatesNamed}
use Rattle.slub_lists.specs.Freeing.{Frees}
use Rattle.slub_lists.specs.Words.{Writes, Reads}
use Rattle.slub_core.specs.declared.call.Call.{Call}
use Rattle.slub_core.specs.declared.call.CallKind.TheVariants.{Alloc, Free, Write, Read}
use Rattle.slub_core.specs.Calls.{call_kind, call_cpu, call_cache, call_object, call_place, call_word, call_value}
use Rattle.slub_core.specs.Setup.{cpu_number}
use Rattle.slub_core.specs.World.{World, world_of}
use Rattle.slub_core.specs.Opening.{opened}
use Rattle.slub_core.specs.Local.{Local}
use Rattle.slub_core.specs.Run.{System}
use Rattle.slub_law_opening.specs.Opening.{Beside, setup_of}
use Rattle.slub_law_opening.specs.Table.{system_of}
use Rattle.slub_law_opening.specs.Laws.{MayOpen, MayBegin}
use Rattle.slub_law_alone.specs.Alone.{worker_at, known_at, known_after, known_under, IsAtRest, IsNext, HasIds, Replies, IsGiven}
use Rattle.slub_law_alone.specs.Ready.{IsReady}
use Rattle.slub_calls.specs.Changes.{grown}

-- ---- the begin of a round

-- before the first turn of a round the machine rests in the lists that it was opened from
abbrev pub RoundsBeginAtRest : Type 0
RoundsBeginAtRest =
    (s : State) (b : Beside) (ls : List Local) → MayOpen s b → MayBegin s b ls
    → let m = setup_of s b in let system = system_of s b ls in
    IsAtRest (world_of m system.value system.words) s b (opened m system)

-- ---- allocations

-- the call allocates from the unchecked cache that the name at this place names
pub record IsAlloc (s : State) (call : Call) (place cache : ℕ) : Type 0 where
  pub kind : call_kind call ≡ Alloc
  pub named : named s place ≡ Some cache
  pub asks : call_cache call ≡ Some cache
  pub unchecked : checked_of s cache ≡ None

-- by so many turns of the worker alone its allocation is that of the lists, beside which d stands
pub record AllocatesAlone (opening : World) (s : State) (b : Beside) (system : System)
    (worker : ℕ) (call : Call) (place turns : ℕ) (d : Beside) : Type 0 where
  pub reply : Reply
  pub after : State
  pub allocates : AllocatesNamed s place (call_cpu call) (worker_at system worker).worker
      (call_object call) reply after
  pub given : State
  pub words : IsGiven (call_object call) after given
  pub replies : Replies opening s b system worker call turns reply given d
  -- it holds the object that it was given; what else it knows is as before
  pub known : let old = (worker_at system worker).known in
      known_after (setup_of s b) system worker turns ≡ (if is_given reply
      then slice_set old (call_place call) (known_under after (call_object call)) else old)

-- an allocation that finds an object in its CPU's freelist: it loads the CPU word and the object's
-- free pointer, and takes the object off the freelist (`slab_alloc_node`)
abbrev pub FastAllocationsArePops : Type 0
FastAllocationsArePops =
    (opening : World) (s : State) (b : Beside) (system : System) (worker : ℕ) (call : Call)
    (place cache : ℕ) → IsAtRest opening s b system → IsNext system worker call
    → IsAlloc s call place cache → HasIds b (cpu_number cache (call_cpu call)) 1
    → 0 < length (lists_of s cache (call_cpu call)).free
    → AllocatesAlone opening s b system worker call place 3
    (grown b (cpu_number cache (call_cpu call)) 1)

-- an allocation that finds its CPU's freelist empty, and takes the current slab's own: it takes the
-- slab off the CPU, loads the slab word and takes the whole freelist, loads the first object's free
-- pointer and the CPU word again, and makes the slab current with the rest (`get_freelist`)
abbrev pub OwnFreelistsAreTaken : Type 0
OwnFreelistsAreTaken =
    (opening : World) (s : State) (b : Beside) (system : System) (worker : ℕ) (call : Call)
    (place cache frame : ℕ) → IsAtRest opening s b system → IsNext system worker call
    → IsAlloc s call place cache → HasIds b (cpu_number cache (call_cpu call)) 2
    → (lists_of s cache (call_cpu call)).free ≡ []
    → (lists_of s cache (call_cpu call)).current ≡ Some frame
    → 0 < length (own_free s frame)
    → AllocatesAlone opening s b system worker call place 7
    (grown b (cpu_number cache (call_cpu call)) 2)

-- an allocation of a CPU without a slab of the cache, on whose partial list there is one: it takes
-- the list, freezes the slab with its whole freelist, loads the first object's free pointer and the
-- CPU word again, and makes the slab current with the rest
abbrev pub OnlyPartialSlabsAreTaken : Type 0
OnlyPartialSlabsAreTaken =
    (opening : World) (s : State) (b : Beside) (system : System) (worker : ℕ) (call : Call)
    (place cache frame : ℕ) → IsAtRest opening s b system → IsNext system worker call
    → IsAlloc s call place cache → HasIds b (cpu_number cache (call_cpu call)) 1
    → (lists_of s cache (call_cpu call)).free ≡ []
    → (lists_of s cache (call_cpu call)).current ≡ None
    → (lists_of s cache (call_cpu call)).partial ≡ frame ∷ []
    → AllocatesAlone opening s b system worker call place 7
    (grown b (cpu_number cache (call_cpu call)) 1)

-- and where there are several: the first is taken in hand, and the rest put back at once
-- (`slub_set_percpu_partial`)
abbrev pub FirstPartialSlabsAreTaken : Type 0
FirstPartialSlabsAreTaken =
    (opening : World) (s : State) (b : Beside) (system : System) (worker : ℕ) (call : Call)
    (place cache first second : ℕ) (others : List ℕ) → IsAtRest opening s b system
    → IsNext system worker call → IsAlloc s call place cache
    → HasIds b (cpu_number cache (call_cpu call)) 1 → (lists_of s cache (call_cpu call)).free ≡ []
    → (lists_of s cache (call_cpu call)).current ≡ None
    → (lists_of s cache (call_cpu call)).partial ≡ first ∷ second ∷ others
    → AllocatesAlone opening s b system worker call place 10
    (grown b (cpu_number cache (call_cpu call)) 1)

-- the CPU has no slab of the cache, neither current nor on its partial list, and the node has none
pub record HasNoSlab (s : State) (cache cpu : ℕ) : Type 0 where
  pub current : (lists_of s cache cpu).current ≡ None
  pub list : (lists_of s cache cpu).partial ≡ []
  pub node : node_of s cache ≡ []

-- an allocation that finds no slab, and no run of frames even of the least order: it loads the CPU
-- word, takes the empty partial list, looks into the node list and the pool under their locks, and
-- is told so, which the pool counts (`allocate_slab`)
abbrev pub LackOfFramesIsTold : Type 0
LackOfFramesIsTold =
    (opening : World) (s : State) (b : Beside) (system : System) (worker : ℕ) (call : Call)
    (place cache : ℕ) → IsAtRest opening s b system → IsNext system worker call
    → IsAlloc s call place cache → HasIds b (cpu_number cache (call_cpu call)) 1
    → HasNoSlab s cache (call_cpu call) → HasNoBlock s.pool.free (layout_at s cache).min_order
    → AllocatesAlone opening s b system worker call place 6 b

-- an allocation that finds no slab, where the pool has a run of frames, of the layout's order or
-- else of its least: it looks for a slab, takes the run under the pool's lock, stores each object's
-- free pointer and the slab word, loads the first object's free pointer and the CPU word again, and
-- makes the slab current with the rest (`new_slab`)
abbrev pub NewSlabsAreMade : Type 0
NewSlabsAreMade =
    (opening : World) (s : State) (b : Beside) (system : System) (worker : ℕ) (call : Call)
    (place cache : ℕ) (run : Run) (pool : FreeFrames) → let n = cpu_number cache (call_cpu call) in
    IsAtRest opening s b system → IsNext system worker call → IsAlloc s call place cache
    → HasIds b n 1 → HasNoSlab s cache (call_cpu call)
    → FindsRun s.pool (layout_at s cache) (Some run) pool
    → AllocatesAlone opening s b system worker call place (10 + run.objects) (grown b n 1)

-- ---- frees

-- the call frees an object of an unchecked cache that the worker holds
pub record IsFree (s : State) (l : Local) (call : Call) : Type 0 where
  pub kind : call_kind call ≡ Free
  pub held : (known_at l call).held ≡ true
  pub unchecked : checked_of s (known_at l call).cache ≡ None

-- the number names what the worker may free: an object that it holds, or one on the board
abbrev pub may_free : State → ℕ → ℕ → Bool
may_free s worker object =
    option_map_or (λ held. is_freeable worker held.worker) (held_under s object) false

-- by so many turns of the worker alone its free is that of the lists, beside which d stands
pub record FreesAlone (opening : World) (s : State) (b : Beside) (system : System)
    (worker : ℕ) (call : Call) (turns : ℕ) (d : Beside) : Type 0 where
  pub reply : Reply
  pub after : State
  pub frees : Frees s (call_cpu call) (worker_at system worker).worker (call_object call) reply
      after
  pub replies : Replies opening s b system worker call turns reply after d
  -- it knows the object that it may free, and holds it no more, unless it is damaged and so still
  -- there; what else it knows is as before
  pub known : let l = worker_at system worker in
      known_after (setup_of s b) system worker turns
      ≡ (if may_free s l.worker (call_object call) then slice_set l.known (call_place call)
      (record (known_under s (call_object call)) {
        held = is_some (held_under after (call_object call));
      })
      else l.known)

-- a free of an object whose slab is current on the CPU: it loads the CPU word, stores the head of
-- the freelist in the object, and puts the object on the freelist (`do_slab_free`)
abbrev pub FastFreesArePushes : Type 0
FastFreesArePushes =
    (opening : World) (s : State) (b : Beside) (system : System) (worker : ℕ) (call : Call)
    → let known = known_at (worker_at system worker) call in IsReady opening s b system worker
    → IsNext system worker call → IsFree s (worker_at system worker) call
    → HasIds b (cpu_number known.cache (call_cpu call)) 1
    → (lists_of s known.cache (call_cpu call)).current ≡ Some known.frame
    → FreesAlone opening s b system worker call 3
    (grown b (cpu_number known.cache (call_cpu call)) 1)

-- the slab stays where it is when an object of it goes to its own freelist: it is frozen, or it has
-- a free object, and it doesn't come to be a slab of the node list with no object in use
pub data StaysThere (s : State) (cache frame : ℕ) : Type 0 where
  frozen : is_frozen s frame ≡ true → StaysThere s cache frame
  partial : 0 < length (own_free s frame)
      → (times frame (node_of s cache) ≡ 0) ⊎ (1 < inuse_of s frame) → StaysThere s cache frame

-- a free of an object of such a slab, which isn't current on the CPU: it loads the CPU word and the
-- slab word, stores the freelist's head in the object, and puts the object on the slab's freelist
-- (`__slab_free`)
abbrev pub FreesInPlaceArePuts : Type 0
FreesInPlaceArePuts =
    (opening : World) (s : State) (b : Beside) (system : System) (worker : ℕ) (call : Call)
    → let known = known_at (worker_at system worker) call in IsReady opening s b system worker
    → IsNext system worker call → IsFree s (worker_at system worker) call
    → (lists_of s known.cache (call_cpu call)).current ≢ Some known.frame
    → StaysThere s known.cache known.frame → FreesAlone opening s b system worker call 4 b

-- a free of the last object in use of a slab of the node list, which has fewer slabs than it is to
-- have: the same under the node lock, after a second look (`n->nr_partial >= s->min_partial`)
abbrev pub LastOfListedAreKept : Type 0
LastOfListedAreKept =
    (opening : World) (s : State) (b : Beside) (system : System) (worker : ℕ) (call : Call)
    → let known = known_at (worker_at system worker) call in IsReady opening s b system worker
    → IsNext system worker call → IsFree s (worker_at system worker) call
    → 1 ≤ times known.frame (node_of s known.cache) → inuse_of s known.frame ≡ 1
    → length (node_of s known.cache) < (layout_at s known.cache).min_partial
    → FreesAlone opening s b system worker call 7 b

-- a CPU's partial list takes one slab more as it is: it has none, or fewer than the cache lets a
-- CPU keep
abbrev pub ListHasRoom : State → ℕ → ℕ → Type 0
ListHasRoom s cache cpu = let count = length (lists_of s cache cpu).partial in
    (count ≡ 0) ⊎ (count < (layout_at s cache).cpu_partial_slabs)

-- a free of an object of a full slab that no CPU has, where the CPU's partial list has room: the
-- slab comes to stand at the front of that list (`put_cpu_partial`)
abbrev pub FullSlabsAreListed : Type 0
FullSlabsAreListed =
    (opening : World) (s : State) (b : Beside) (system : System) (worker : ℕ) (call : Call)
    → let known = known_at (worker_at system worker) call in IsReady opening s b system worker
    → IsNext system worker call → IsFree s (worker_at system worker) call
    → is_frozen s known.frame ≡ false → own_free s known.frame ≡ []
    → ListHasRoom s known.cache (call_cpu call) → FreesAlone opening s b system worker call 8 b

-- the number names nothing that the worker may free: nothing, or what another worker holds
abbrev pub IsUnheld : State → ℕ → ℕ → Type 0
IsUnheld s worker object =
    IfSome (held_under s object) (λ held. is_freeable worker held.worker ≡ false)

-- a free of such a number, which takes a step: it finds nothing on the board
abbrev pub UnheldFreesFindNothing : Type 0
UnheldFreesFindNothing =
    (opening : World) (s : State) (b : Beside) (system : System) (worker : ℕ) (call : Call)
    → IsAtRest opening s b system → IsNext system worker call → call_kind call ≡ Free
    → IsUnheld s (worker_at system worker).worker (call_object call)
    → FreesAlone opening s b system worker call 1 b

-- ---- words of objects

-- by so many turns of the worker alone its write is that of the lists, and its read; what it knows
-- is as before
pub record WritesAlone (opening : World) (s : State) (b : Beside) (system : System)
    (worker : ℕ) (call : Call) (turns : ℕ) : Type 0 where
  pub reply : Reply
  pub after : State
  pub writes : Writes s (worker_at system worker).worker (call_object call) (call_word call)
      (call_value call) reply after
  pub replies : Replies opening s b system worker call turns reply after b
  pub known : known_after (setup_of s b) system worker turns ≡ (worker_at system worker).known

pub record ReadsAlone (opening : World) (s : State) (b : Beside) (system : System)
    (worker : ℕ) (call : Call) (turns : ℕ) : Type 0 where
  pub reply : Reply
  pub reads : Reads s (worker_at system worker).worker (call_object call) (call_word call) reply
  pub replies : Replies opening s b system worker call turns reply s b
  pub known : known_after (setup_of s b) system worker turns ≡ (worker_at system worker).known

-- a write that takes a step, in an object of an unchecked cache: one turn
abbrev pub WritesAreStores : Type 0
WritesAreStores =
    (opening : World) (s : State) (b : Beside) (system : System) (worker : ℕ) (call : Call)
    → IsAtRest opening s b system → IsNext system worker call → call_kind call ≡ Write
    → checked_of s (known_at (worker_at system worker) call).cache ≡ None
    → WritesAlone opening s b system worker call 1

-- and a read
abbrev pub ReadsAreLoads : Type 0
ReadsAreLoads =
    (opening : World) (s : State) (b : Beside) (system : System) (worker : ℕ) (call : Call)
    → IsAtRest opening s b system → IsNext system worker call → call_kind call ≡ Read
    → checked_of s (known_at (worker_at system worker) call).cache ≡ None
    → ReadsAlone opening s b system worker call 1
