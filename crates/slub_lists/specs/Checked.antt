-- `alloc_single_from_partial`, `alloc_single_from_new_slab`, `free_debug_processing` of Linux 6.1:
-- allocating from a checked cache and freeing to it.
use Rattle.std.specs.Prelude.{◌≡◌, ℕ, false, Option, Some, None, MatchOption, Result, Ok, Err, ◌⊎◌, sum_by, slice_set}
use Rattle.slub_page_pool.specs.FreeFrames.{FreeFrames}
use Rattle.slub_page_pool.specs.Block.{with_run}
use Rattle.slub_object_layout.specs.declared.layout.Layout.{Layout}
use Rattle.slub_object_layout.specs.Layout.{address_of}
use Rattle.slub_red_zone.specs.State.{CheckedState}
use Rattle.slub_red_zone.specs.Steps.{Gives as GivesObject, TakesBack, TakesEmpty, with_given as slab_given, with_new_slab}
use Rattle.slub_red_zone.specs.declared.checked.CheckedGive.{CheckedGive}
use Rattle.slub_red_zone.specs.declared.checked.CheckedGive.TheVariants as give
use Rattle.slub_red_zone.specs.declared.checked.Run.{Run as SlabRun}
use Rattle.slub_red_zone.specs.declared.checked.Slot.{Slot}
use Rattle.slub_trace.specs.declared.damage.Damage.{Damage}
use Rattle.slub_lists.specs.declared.lists.Held.{Held}
use Rattle.slub_lists.specs.declared.lists.Run.{Run}
use Rattle.slub_lists.specs.declared.lists.Slab.{Slab}
use Rattle.slub_trace.specs.declared.reply.Reply.{Reply}
use Rattle.slub_trace.specs.declared.reply.Reply.TheVariants.{Given, NoFrames, NoMemory, Freed, Corrupt}
use Rattle.slub_lists.specs.State.{State}
use Rattle.slub_lists.specs.Alloc.{FindsRun, held_here, with_held}
use Rattle.slub_lists.specs.Free.{discarded, with_gone, with_taken}

-- ---- changes

-- what a checked cache has
abbrev pub with_checked : State → ℕ → CheckedState → State
with_checked s cache slabs = record s { checked = slice_set s.checked cache (Some slabs) }

-- a run comes back to the pool
abbrev pub put_back : FreeFrames → Run → FreeFrames
put_back pool run = record pool { free = with_run pool.free run.frame run.order }

-- ---- giving

-- the object of a slot is given to a worker under a number; nobody has it
pub record GivesSlot (s : State) (layout : Layout) (cache worker object : ℕ) (slot : Slot)
    (reply : Reply) (after : State) : Type 0 where
  pub unheld : sum_by (held_here slot.frame slot.index) s.board ≡ 0
  pub address : reply ≡ Given (address_of slot.frame slot.index layout)
  pub given : after
      ≡ with_held s object
      (record { frame = slot.frame; index = slot.index; cache = cache; worker = Some worker })

-- the first object of a new slab
abbrev pub first_slot : Run → Slot
first_slot run = record { frame = run.frame; index = 0 }

-- a slab more, whose first object is given (`alloc_single_from_new_slab`)
abbrev pub new_given : CheckedState → Run → CheckedState
new_given slabs run =
    slab_given (with_new_slab slabs (record { frame = run.frame; order = run.order }) run.objects)
    (first_slot run)

-- the same of the machine: the slab is never frozen
abbrev pub with_checked_slab : State → ℕ → FreeFrames → Run → CheckedState → State
with_checked_slab s cache pool run slabs =
    let slab : Slab =
    record { cache = cache; order = run.order; objects = run.objects; frozen = false } in
    record s {
      pool = pool;
      slabs = slice_set s.slabs run.frame (Some slab);
      checked = slice_set s.checked cache (Some (new_given slabs run));
    }

-- no run is there for a slab
abbrev pub LacksRun : State → FreeFrames → Reply → State → Type 0
LacksRun s pool reply after = (reply ≡ NoFrames) × (after ≡ record s { pool = pool })

-- no memory is there for the bytes of a slab, and its run is put back
abbrev pub LacksMemory : State → FreeFrames → Run → Reply → State → Type 0
LacksMemory s pool run reply after =
    (reply ≡ NoMemory) × (after ≡ record s { pool = put_back pool run })

-- a new slab is made where a run and memory are there, and gives its first object
abbrev pub AllocatesNewChecked : State → Layout → ℕ → CheckedState → ℕ → ℕ → Reply → State → Type 0
AllocatesNewChecked s layout cache slabs worker object reply after =
    (run : Option Run) × (pool : FreeFrames) × FindsRun s.pool layout run pool
    × MatchOption run (LacksRun s pool reply after)
    (λ run.
    LacksMemory s pool run reply after
    ⊎ GivesSlot (with_checked_slab s cache pool run slabs) layout cache worker object
    (first_slot run) reply after)

-- what a listed slab gave; where none had an object to give, a new slab is asked for
abbrev pub GivesOrMakes : State → Layout → ℕ → CheckedState → ℕ → ℕ → CheckedGive → Reply
    → State → Type 0
GivesOrMakes s layout cache slabs worker object (give.Given slot) reply after =
    GivesSlot s layout cache worker object slot reply after
GivesOrMakes s layout cache slabs worker object give.Empty reply after =
    AllocatesNewChecked s layout cache slabs worker object reply after

-- an object of a checked cache is allocated by a worker under a number; slabs that are found
-- damaged are reported on the way
abbrev pub AllocatesChecked : State → Layout → ℕ → CheckedState → ℕ → ℕ → Reply → State → Type 0
AllocatesChecked s layout cache slabs worker object reply after =
    (answer : CheckedGive) × (rest : CheckedState) × GivesObject slabs answer rest
    × GivesOrMakes (with_checked s cache rest) layout cache rest worker object answer reply after

-- ---- freeing

-- where an object is
abbrev pub slot_of_held : Held → Slot
slot_of_held held = record { frame = held.frame; index = held.index }

-- the slab goes, where its run was taken out
abbrev pub discarded_where : State → ℕ → Option SlabRun → State
discarded_where s frame None = s
discarded_where s frame (Some run) = discarded s frame

-- a damaged object stays held, by the worker that would free it
abbrev pub kept_by : State → ℕ → ℕ → Held → State
kept_by s object worker held =
    record s { board = slice_set s.board object (Some (record held { worker = Some worker })) }

-- an object that was taken back is free; its slab goes where all of it is free and the cache has
-- enough slabs listed
abbrev pub IsFreedOrKept : State → Layout → CheckedState → ℕ → ℕ → Held
    → Result (Unit {0}) Damage → Reply → State → Type 0
IsFreedOrKept s layout rest worker object held (Err damage) reply after =
    (reply ≡ Corrupt damage) × (after ≡ kept_by s object worker held)
IsFreedOrKept s layout rest worker object held (Ok x) reply after =
    (reply ≡ Freed (address_of held.frame held.index layout))
    × (run : Option SlabRun) × (last : CheckedState)
    × TakesEmpty rest held.frame layout.min_partial run last
    × (after
    ≡ with_gone (discarded_where (with_checked (with_taken s object held.cache) held.cache last)
    held.frame run) object worker held)

-- the object of a checked cache under a number is freed, but where it is found damaged
abbrev pub FreesChecked : State → Layout → CheckedState → ℕ → ℕ → Held → Reply → State → Type 0
FreesChecked s layout slabs worker object held reply after =
    (answer : Result (Unit {0}) Damage) × (rest : CheckedState)
    × TakesBack slabs (slot_of_held held) answer rest
    × IsFreedOrKept s layout rest worker object held answer reply after
