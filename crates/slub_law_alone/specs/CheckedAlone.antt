-- Calls of a checked cache by a worker alone: each is made under the node lock of the cache, which
-- its first turn takes and its last one gives back.
use Rattle.std.specs.Prelude.{◌≡◌, ℕ, true, Some, None, IsSome}
use Rattle.slub_trace.specs.declared.reply.Reply.{Reply}
use Rattle.slub_trace.specs.declared.reply.Reply.TheVariants.{Given, NoFrames}
use Rattle.slub_object_layout.specs.Layout.{address_of}
use Rattle.slub_red_zone.specs.State.{CheckedState}
use Rattle.slub_red_zone.specs.Steps.{IsSpare, damage_of_used, with_taken}
use Rattle.slub_red_zone.specs.declared.checked.CheckedGive.TheVariants as give
use Rattle.slub_red_zone.specs.declared.checked.Slot.{Slot}
use Rattle.slub_trace.specs.declared.damage.Damage.{Damage}
use Rattle.slub_page_pool.specs.Block.{HasNoBlock}
use Rattle.slub_page_pool.specs.FreeFrames.{FreeFrames}
use Rattle.slub_lists.specs.declared.lists.Held.{Held}
use Rattle.slub_lists.specs.declared.lists.Run.{Run}
use Rattle.slub_lists.specs.State.{State}
use Rattle.slub_lists.specs.Alloc.{checked_of, named, FindsRun}
use Rattle.slub_lists.specs.Places.{layout_at}
use Rattle.slub_lists.specs.Words.{Pokes, known_to}
use Rattle.slub_core.specs.declared.call.Call.{Call}
use Rattle.slub_core.specs.declared.call.CallKind.TheVariants.{Alloc, Free, Write, Read, Poke}
use Rattle.slub_core.specs.declared.local.Known.{Known}
use Rattle.slub_core.specs.Calls.{call_kind, call_cache, call_object, call_offset, call_byte}
use Rattle.slub_core.specs.World.{World}
use Rattle.slub_core.specs.Local.{Local}
use Rattle.slub_core.specs.Run.{System}
use Rattle.slub_law_opening.specs.Opening.{Beside, setup_of}
use Rattle.slub_law_alone.specs.Alone.{worker_at, known_at, known_after, IsAtRest, IsNext, Replies}
use Rattle.slub_law_alone.specs.Ready.{IsReady}
use Rattle.slub_law_alone.specs.Laws.{AllocatesAlone, FreesAlone, WritesAlone, ReadsAlone}

-- ---- words

-- a write that takes a step, in an object of a checked cache: it takes the node lock, writes eight
-- bytes of the slab at once, and gives the lock back
abbrev pub CheckedWritesAreStores : Type 0
CheckedWritesAreStores =
    (opening : World) (s : State) (b : Beside) (system : System) (worker : ℕ) (call : Call)
    → IsAtRest opening s b system → IsNext system worker call → call_kind call ≡ Write
    → IsSome (checked_of s (known_at (worker_at system worker) call).cache)
    → WritesAlone opening s b system worker call 2

-- and a read
abbrev pub CheckedReadsAreLoads : Type 0
CheckedReadsAreLoads =
    (opening : World) (s : State) (b : Beside) (system : System) (worker : ℕ) (call : Call)
    → IsAtRest opening s b system → IsNext system worker call → call_kind call ≡ Read
    → IsSome (checked_of s (known_at (worker_at system worker) call).cache)
    → ReadsAlone opening s b system worker call 2

-- ---- bytes

-- in two turns of the worker alone its poke is that of the lists; what it knows is as before
pub record PokesAlone (opening : World) (s : State) (b : Beside) (system : System)
    (worker : ℕ) (call : Call) : Type 0 where
  pub reply : Reply
  pub after : State
  pub pokes : Pokes s (worker_at system worker).worker (call_object call) (call_offset call)
      (call_byte call) reply after
  pub replies : Replies opening s b system worker call 2 reply after b
  pub known : known_after (setup_of s b) system worker 2 ≡ (worker_at system worker).known

-- the object that a worker knows, as the lists have it
abbrev pub held_known : ℕ → Known → Held
held_known worker known = record {
  frame = known.frame;
  index = known.index;
  cache = known.cache;
  worker = Some worker;
}

-- a poke that takes a step, in an object that the lists know as the worker does: one that it holds,
-- or freed in this round. It takes the node lock, writes one byte of the slab at once where the
-- byte lies in the slot and the slab is still there, and gives the lock back
abbrev pub PokesAreStores : Type 0
PokesAreStores =
    (opening : World) (s : State) (b : Beside) (system : System) (worker : ℕ) (call : Call)
    → let l = worker_at system worker in
    IsAtRest opening s b system → IsNext system worker call → call_kind call ≡ Poke
    → known_to s l.worker (call_object call) ≡ Some (held_known l.worker (known_at l call))
    → PokesAlone opening s b system worker call

-- ---- frees

-- the call frees an object that the worker holds, of a checked cache with these slabs
pub record IsCheckedFree (s : State) (l : Local) (call : Call) (slabs : CheckedState)
    : Type 0 where
  pub kind : call_kind call ≡ Free
  pub held : (known_at l call).held ≡ true
  pub checked : checked_of s (known_at l call).cache ≡ Some slabs

abbrev pub slot_known : Known → Slot
slot_known known = record { frame = known.frame; index = known.index }

-- a free of an object that is found damaged: the worker is told, and holds it still
-- (`free_debug_processing`)
abbrev pub DamagedFreesAreTold : Type 0
DamagedFreesAreTold =
    (opening : World) (s : State) (b : Beside) (system : System) (worker : ℕ) (call : Call)
    (slabs : CheckedState) (damage : Damage)
    → let l = worker_at system worker in
    IsReady opening s b system worker → IsNext system worker call → IsCheckedFree s l call slabs
    → damage_of_used slabs (slot_known (known_at l call)) ≡ Some damage
    → FreesAlone opening s b system worker call 2 b

-- with the object free again, its slab has no object in use, and the cache has enough slabs listed
abbrev pub BecomesSpare : State → CheckedState → Known → Type 0
BecomesSpare s slabs known =
    IsSpare (with_taken slabs (slot_known known)) known.frame
    (layout_at s known.cache).min_partial

-- a free of a whole object whose slab stays
abbrev pub CheckedFreesAreTaken : Type 0
CheckedFreesAreTaken =
    (opening : World) (s : State) (b : Beside) (system : System) (worker : ℕ) (call : Call)
    (slabs : CheckedState)
    → let l = worker_at system worker in
    IsReady opening s b system worker → IsNext system worker call → IsCheckedFree s l call slabs
    → damage_of_used slabs (slot_known (known_at l call)) ≡ None
    → ¬ BecomesSpare s slabs (known_at l call) → FreesAlone opening s b system worker call 2 b

-- and of one whose slab goes: its run of frames is put back under the pool's lock, which is taken
-- while the node lock is held (`discard_slab`)
abbrev pub SpareSlabsArePutBack : Type 0
SpareSlabsArePutBack =
    (opening : World) (s : State) (b : Beside) (system : System) (worker : ℕ) (call : Call)
    (slabs : CheckedState)
    → let l = worker_at system worker in
    IsReady opening s b system worker → IsNext system worker call → IsCheckedFree s l call slabs
    → damage_of_used slabs (slot_known (known_at l call)) ≡ None
    → BecomesSpare s slabs (known_at l call) → FreesAlone opening s b system worker call 4 b

-- ---- allocations

-- the call allocates from the checked cache, with these slabs, that the name at this place names
pub record IsCheckedAlloc (s : State) (call : Call) (place cache : ℕ) (slabs : CheckedState)
    : Type 0 where
  pub kind : call_kind call ≡ Alloc
  pub named : named s place ≡ Some cache
  pub asks : call_cache call ≡ Some cache
  pub checked : checked_of s cache ≡ Some slabs

-- an allocation where a listed slab has an object to give (`alloc_single_from_partial`)
abbrev pub CheckedObjectsAreGiven : Type 0
CheckedObjectsAreGiven =
    (opening : World) (s : State) (b : Beside) (system : System) (worker : ℕ) (call : Call)
    (place cache : ℕ) (slabs : CheckedState) (slot : Slot) → IsAtRest opening s b system
    → IsNext system worker call → IsCheckedAlloc s call place cache slabs
    → b.means.gave slabs ≡ give.Given slot
    → (done : AllocatesAlone opening s b system worker call place 2 b)
    × (done.reply ≡ Given (address_of slot.frame slot.index (layout_at s cache)))

-- an allocation where none has one, and the pool has a run of frames: a new slab is made of it
-- under the pool's lock, for which memory is not refused, and its first object is given
-- (`alloc_single_from_new_slab`)
abbrev pub CheckedSlabsAreMade : Type 0
CheckedSlabsAreMade =
    (opening : World) (s : State) (b : Beside) (system : System) (worker : ℕ) (call : Call)
    (place cache : ℕ) (slabs : CheckedState) (run : Run) (pool : FreeFrames)
    → IsAtRest opening s b system → IsNext system worker call
    → IsCheckedAlloc s call place cache slabs → b.means.gave slabs ≡ give.Empty
    → FindsRun s.pool (layout_at s cache) (Some run) pool
    → (done : AllocatesAlone opening s b system worker call place 4 b)
    × (done.reply ≡ Given (address_of run.frame 0 (layout_at s cache)))

-- and where the pool has none, which it counts (`allocate_slab`)
abbrev pub LackOfCheckedFramesIsTold : Type 0
LackOfCheckedFramesIsTold =
    (opening : World) (s : State) (b : Beside) (system : System) (worker : ℕ) (call : Call)
    (place cache : ℕ) (slabs : CheckedState) → IsAtRest opening s b system
    → IsNext system worker call → IsCheckedAlloc s call place cache slabs
    → b.means.gave slabs ≡ give.Empty
    → HasNoBlock s.pool.free (layout_at s cache).min_order
    → (done : AllocatesAlone opening s b system worker call place 4 b) × (done.reply ≡ NoFrames)
