-- The calls of a checked cache, under its lock: `alloc_single_from_partial` and
-- `free_debug_processing` of Linux 6.1; the rest is profile.
use Rattle.std.specs.Prelude.{ℕ, Bool, false, ◌&&◌, ◌==◌, nat_lt, nat_le, if◌then◌else◌, [], length, ℤ, pos, int_lt, int_le, Option, Some, None}
use Rattle.slub_page_pool.specs.FreeFrames.{FreeFrames}
use Rattle.slub_object_layout.specs.declared.layout.Layout.{Layout}
use Rattle.slub_object_layout.specs.Layout.{address_of}
use Rattle.slub_red_zone.specs.State.{CheckedState, slab_of, objects_in}
use Rattle.slub_red_zone.specs.Steps.{damage_of_used, with_taken, without_slab, with_new_slab, with_given, with_byte, with_word, word_of, place_of}
use Rattle.slub_trace.specs.declared.damage.Damage.{Damage}
use Rattle.slub_red_zone.specs.declared.checked.Slot.{Slot}
use Rattle.slub_red_zone.specs.declared.checked.CheckedGive.{CheckedGive}
use Rattle.slub_red_zone.specs.declared.checked.CheckedGive.TheVariants as give
use Rattle.slub_trace.specs.declared.reply.Reply.{Reply}
use Rattle.slub_trace.specs.declared.reply.Reply.TheVariants.{Given, NoMemory, Freed, NotHeld, Corrupt, Wrote, Value, Poked, OutOfSlot}
use Rattle.slub_core.specs.declared.call.CallKind.{CallKind}
use Rattle.slub_core.specs.declared.call.CallKind.TheVariants.{Alloc, Free, Write, Read, Poke}
use Rattle.slub_core.specs.declared.local.FrameRun.{FrameRun}
use Rattle.slub_core.specs.declared.step.Step.{Step}
use Rattle.slub_core.specs.declared.step.Answer.{Answer}
use Rattle.slub_core.specs.declared.step.Answer.TheVariants.{Done, Won}
use Rattle.slub_core.specs.declared.spot.Spot.{Spot}
use Rattle.slub_core.specs.declared.spot.Spot.TheVariants.{Between, InChecked}
use Rattle.slub_core.specs.declared.spot.CheckedSpot.{CheckedSpot}
use Rattle.slub_core.specs.declared.spot.CheckedSpot.TheVariants.{LockChecked, DoChecked, LockRun, MoveRun, AddSlab, GiveRun, GiveChecked}
use Rattle.slub_core.specs.Calls.{call_word, call_value, call_offset, call_byte}
use Rattle.slub_core.specs.Setup.{Setup, node_lock, pool_lock}
use Rattle.slub_core.specs.World.{LockValue, Nothing, Node, Checked, Pool, update, pool_in}
use Rattle.slub_core.specs.Local.{Local, Turn, Change, here, run_of, call_of, address_in, at, gets, loses, goes, stays}
use Rattle.slub_core.specs.Ops.{take_node, give_node, take_pool, give_pool, no_step}
use Rattle.slub_core.specs.Alloc.{run_taken, found_run, pool_with}
use Rattle.slub_core.specs.Discard.{with_put}

-- the slabs of a checked cache that are another's, or of no cache (profile)
abbrev pub no_checked : Layout → CheckedState
no_checked layout = record {
  layout = layout;
  flags = record {
    line = false;
    reclaim = false;
    checks = false;
    zones = false;
    poison = false;
    user = false;
    trace = false;
    fail = false;
  };
  cache = 0;
  slabs = [];
  listed = [];
  reports = [];
}

-- the checked slabs that stand behind a lock (profile: the kernel has its lists of a node)
abbrev pub slabs_in : Layout → LockValue → CheckedState
slabs_in layout Nothing = no_checked layout
slabs_in layout (Node frames) = no_checked layout
slabs_in layout (Checked slabs) = slabs
slabs_in layout (Pool pool) = no_checked layout

-- those of the call's cache (`get_node`)
abbrev pub slabs_of : Setup → (ℕ → LockValue) → Local → CheckedState
slabs_of m value l = slabs_in (m.layout l.cache) (value (node_lock l.cache))

-- the values of the locks with other such slabs (profile)
abbrev pub with_slabs : (ℕ → LockValue) → Local → CheckedState → ℕ → LockValue
with_slabs value l slabs = update value (node_lock l.cache) (Checked slabs)

-- the object of the call (profile)
abbrev pub slot_of : Local → Slot
slot_of l = record { frame = (here l).frame; index = (here l).index }

-- ---- an allocation (`alloc_single_from_partial`)

-- an object was given (`alloc_single_from_partial`); or no slab has one, and a new slab is looked
-- for (`___slab_alloc`)
abbrev pub gave : Setup → (ℕ → LockValue) → Local → CheckedState → CheckedGive → Change
gave m value l after (give.Given slot) =
    record {
      value = with_slabs value l after;
      local = at (gets l l.cache slot.frame slot.index) (InChecked GiveChecked Alloc);
      reply = Some (Given (address_of slot.frame slot.index (m.layout l.cache)));
    }
-- no slab has a free object: a new one is looked for
gave m value l after give.Empty = stays (with_slabs value l after) (at l (InChecked LockRun Alloc))

-- ---- a free (`free_debug_processing`)

-- an empty slab is taken out, where enough slabs are listed (`slab_free` of
-- `free_debug_processing`)
abbrev pub is_spare : Setup → CheckedState → ℕ → ℕ → Bool
is_spare m s cache frame =
    (length (slab_of s frame).free == objects_in (slab_of s frame))
    && nat_le (m.layout cache).min_partial (length s.listed)

-- the frames of such a slab (`free_slab`)
abbrev pub run_at : CheckedState → ℕ → FrameRun
run_at s frame = record {
  frame = frame;
  order = (slab_of s frame).order;
  objects = objects_in (slab_of s frame);
}

-- the object is free, and its slab may go (`free_debug_processing`)
abbrev pub taken_back : Setup → (ℕ → LockValue) → Local → CheckedState → Change
taken_back m value l s =
    let frame = (here l).frame in
    let spare = is_spare m s l.cache frame in
    record {
      value = with_slabs value l (if spare then without_slab s frame else s);
      local = record (loses l) {
        run = (if spare then Some (run_at s frame) else None);
        spot = (if spare then InChecked LockRun Free else InChecked GiveChecked Free);
      };
      reply = Some (Freed (address_in m (here l)));
    }

-- a damaged object is reported (`free_debug_processing`), and its worker holds it still (profile)
abbrev pub took_back : Setup → (ℕ → LockValue) → Local → CheckedState → Option Damage → Change
took_back m value l s None = taken_back m value l (with_taken s (slot_of l))
took_back m value l s (Some damage) =
    record {
      value = value;
      local = at l (InChecked GiveChecked Free);
      reply = Some (Corrupt damage);
    }

-- ---- a byte of the slot

-- the byte lies in the object's slot (profile: the kernel has no pokes)
abbrev pub is_offset : Layout → ℤ → Bool
is_offset layout offset =
    int_le (pos 0) (place_of layout offset) && int_lt (place_of layout offset) (pos layout.size)

-- the reply of a poke, in this order (profile): the byte lies outside of the slot, the slab is
-- there no more, it is written
abbrev pub poked_reply : Local → CheckedState → Reply
poked_reply l s =
    if is_offset s.layout (call_offset (call_of l))
    then (if nat_lt (here l).index (objects_in (slab_of s (here l).frame)) then Poked
    else NotHeld) else OutOfSlot

-- the slabs with that byte (profile)
abbrev pub poked : Local → CheckedState → CheckedState
poked l s =
    if is_offset s.layout (call_offset (call_of l))
    && nat_lt (here l).index (objects_in (slab_of s (here l).frame))
    then with_byte s (slot_of l) (call_offset (call_of l)) (call_byte (call_of l)) else s

-- ---- a new slab (`alloc_single_from_new_slab`)

-- the first object of a new slab is given (`alloc_single_from_new_slab`)
abbrev pub slab_added : Setup → (ℕ → LockValue) → Local → CheckedState → FrameRun → Change
slab_added m value l s run =
    let slot : Slot = record { frame = run.frame; index = 0 } in
    record {
      value = with_slabs value l (with_given (with_new_slab s (record {
        frame = run.frame;
        order = run.order;
      }) run.objects) slot);
      local = record (gets l l.cache run.frame 0) { run = None; spot = InChecked GiveRun Alloc };
      reply = Some (Given (address_of run.frame 0 (m.layout l.cache)));
    }

-- there is no memory for the bytes of a new slab, and the frames are put back (profile)
abbrev pub slab_refused : (ℕ → LockValue) → Local → FreeFrames → FrameRun → Change
slab_refused value l pool run =
    record {
      value = pool_with value (with_put pool run);
      local = record l { run = None; spot = InChecked GiveRun Alloc };
      reply = Some NoMemory;
    }

-- where a run that was found or not leads to (`new_slab` of `___slab_alloc`)
abbrev pub way_of_found : Option FrameRun → Spot
way_of_found None = InChecked GiveRun Alloc
way_of_found (Some run) = InChecked AddSlab Alloc

-- ---- spot by spot

-- the step at each spot of a call of a checked cache: locks alone (`get_partial_node`,
-- `free_debug_processing`; profile for the other calls)
abbrev pub checked_step : Local → CheckedSpot → Step
checked_step l LockChecked = take_node l
checked_step l DoChecked = no_step
checked_step l LockRun = take_pool l
checked_step l MoveRun = no_step
checked_step l AddSlab = no_step
checked_step l GiveRun = give_pool l
checked_step l GiveChecked = give_node l

-- where its answer leads (`get_partial_node`, `free_debug_processing`; profile for the other calls)
abbrev pub checked_advance : Local → CheckedSpot → CallKind → Answer → Turn
checked_advance l LockChecked kind Won = goes (at l (InChecked DoChecked kind))
checked_advance l LockRun kind Won = goes (at l (InChecked MoveRun kind))
checked_advance l GiveRun kind Done = goes (at l (InChecked GiveChecked kind))
checked_advance l GiveChecked kind Done = goes (at l Between)
checked_advance l s kind a = goes l

-- the call itself, under the lock: `alloc_single_from_partial`, `free_debug_processing`, and
-- writes, reads and pokes (profile)
abbrev pub do_checked : Setup → (ℕ → LockValue) → Local → CallKind → CheckedState → Change
do_checked m value l Alloc s = gave m value l (m.means.give s) (m.means.gave s)
do_checked m value l Free s = took_back m value l s (damage_of_used s (slot_of l))
do_checked m value l Write s =
    record {
      value = with_slabs value l
          (with_word s (slot_of l) (call_word (call_of l)) (call_value (call_of l)));
      local =
          at l (InChecked GiveChecked Write);
      reply = Some Wrote;
    }
do_checked m value l Read s =
    record {
      value = value;
      local = at l (InChecked GiveChecked Read);
      reply = Some (Value (word_of s (slot_of l) (call_word (call_of l))));
    }
do_checked m value l Poke s =
    record {
      value = with_slabs value l (poked l s);
      local = at l (InChecked GiveChecked Poke);
      reply = Some (poked_reply l s);
    }
do_checked m value l kind s = stays value l

-- a run is looked for (`allocate_slab`), or put back (`free_slab`)
abbrev pub move_run : Setup → (ℕ → LockValue) → Local → CallKind → FreeFrames → Change
move_run m value l Alloc pool =
    let found = found_run m pool (m.layout l.cache) in
    run_taken value pool (m.layout l.cache) (at l (way_of_found found)) found
move_run m value l kind pool =
    stays (pool_with value (with_put pool (run_of l))) (record l {
      run = None;
      spot = InChecked GiveRun kind;
    })

-- what is done under the locks (`alloc_single_from_partial`, `alloc_single_from_new_slab`,
-- `free_debug_processing`); `refused`: there was no memory for the bytes of a new slab (profile)
abbrev pub checked_at_once : Setup → Bool → (ℕ → LockValue) → Local → CheckedSpot → CallKind
    → Change
checked_at_once m refused value l DoChecked kind = do_checked m value l kind (slabs_of m value l)
checked_at_once m refused value l MoveRun kind = move_run m value l kind (pool_in (value pool_lock))
checked_at_once m refused value l AddSlab kind =
    if refused then slab_refused value l (pool_in (value pool_lock)) (run_of l)
    else slab_added m value l (slabs_of m value l) (run_of l)
checked_at_once m refused value l s kind = stays value l
