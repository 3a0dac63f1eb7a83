-- The step that a worker's spot calls for, and where each answer leads.
use Rattle.std.specs.Prelude.{ℕ, ◌+◌, ◌*◌, Bool, true, false, not, ◌==◌, nat_le, if◌then◌else◌, List, [], ◌∷◌, length, slice_index, slice_index_or, Option, Some, None, unwrap_or}
use Rattle.slub_object_layout.specs.declared.layout.Layout.{Layout}
use Rattle.slub_trace.specs.declared.reply.Reply.{Reply}
use Rattle.slub_trace.specs.declared.reply.Reply.TheVariants.{NoSuchCache, NotHeld, Wrote, Value, OutOfObject, NotChecked, Flushed}
use Rattle.slub_trace.specs.declared.reply.Reply.TheVariants as reply
use Rattle.slub_core.specs.declared.call.Call.{Call}
use Rattle.slub_core.specs.declared.call.CallKind.{CallKind}
use Rattle.slub_core.specs.declared.call.CallKind.TheVariants.{Alloc, Free, Write, Read, Poke, Trim, Flush}
use Rattle.slub_core.specs.declared.local.Known.{Known}
use Rattle.slub_core.specs.declared.step.Step.{Step}
use Rattle.slub_core.specs.declared.step.Answer.{Answer}
use Rattle.slub_core.specs.declared.step.Answer.TheVariants.{Word, Done}
use Rattle.slub_core.specs.declared.spot.Spot.{Spot}
use Rattle.slub_core.specs.declared.spot.Spot.TheVariants.{Between, InAlloc, InPutAway, InDiscard, InPutOnList, InFree, InMoveSet, InOffline, InTrim, WriteWord, ReadWord, InChecked}
use Rattle.slub_core.specs.declared.spot.AllocSpot.TheVariants.{LoadCpu}
use Rattle.slub_core.specs.declared.spot.FreeSpot.TheVariants.{TakeBoard, LoadOwn}
use Rattle.slub_core.specs.declared.spot.Sweep.TheVariants.{Trimming, Flushing}
use Rattle.slub_core.specs.declared.spot.OfflineSpot.TheVariants.{LoadCurrent}
use Rattle.slub_core.specs.declared.spot.CheckedSpot.TheVariants.{LockChecked}
use Rattle.slub_core.specs.Calls.{call_kind, call_cpu, call_cache, call_place, call_word, call_value}
use Rattle.slub_core.specs.Setup.{Setup}
use Rattle.slub_core.specs.World.{LockValue}
use Rattle.slub_core.specs.Local.{Local, Turn, Change, nobody, call_of, at, answered, noted, goes, tells, stays}
use Rattle.slub_core.specs.Ops.{store_word, load_word, no_step}
use Rattle.slub_core.specs.Alloc.{alloc_step, alloc_advance, alloc_at_once}
use Rattle.slub_core.specs.PutAway.{put_away_step, put_away_advance, put_away_at_once}
use Rattle.slub_core.specs.Discard.{discard_step, discard_advance, discard_at_once}
use Rattle.slub_core.specs.PutOnList.{put_on_list_step, put_on_list_advance}
use Rattle.slub_core.specs.Free.{free_step, free_advance, free_at_once}
use Rattle.slub_core.specs.MoveSet.{move_set_step, move_set_advance, move_set_at_once}
use Rattle.slub_core.specs.Offline.{offline_step, offline_advance, trim_step, trim_advance, trim_at_once}
use Rattle.slub_core.specs.Checked.{checked_step, checked_advance, checked_at_once}

-- ---- the step that a spot calls for; `value` has the values of the locks

-- the step of each path; that it is one word at a time is profile
abbrev pub step_at : Setup → (ℕ → LockValue) → Local → Spot → Step
step_at m value l Between = no_step
step_at m value l (InAlloc s) = alloc_step m l s
step_at m value l (InPutAway s away) = put_away_step m value l s
step_at m value l (InDiscard s discard) = discard_step l s
step_at m value l (InPutOnList s put) = put_on_list_step l s
step_at m value l (InFree s) = free_step m l s
step_at m value l (InMoveSet s move) = move_set_step l s
step_at m value l (InOffline s sweep) = offline_step m l s
step_at m value l (InTrim s) = trim_step value l s
step_at m value l WriteWord = store_word m l (call_word (call_of l)) (call_value (call_of l))
step_at m value l ReadWord = load_word m l (call_word (call_of l))
step_at m value l (InChecked s kind) = checked_step l s

-- the step of a worker, by its spot (profile)
abbrev pub step_of : Setup → (ℕ → LockValue) → Local → Step
step_of m value l = step_at m value l l.spot

-- ---- where an answer leads

-- where an answer leads, path by path (profile)
abbrev pub advance_at : Setup → (ℕ → LockValue) → Local → Spot → Answer → Turn
advance_at m value l (InAlloc s) a = alloc_advance m l s a
advance_at m value l (InPutAway s away) a = put_away_advance m value l s away a
advance_at m value l (InDiscard s discard) a = discard_advance m l s discard a
advance_at m value l (InPutOnList s put) a = put_on_list_advance l s put a
advance_at m value l (InFree s) a = free_advance m l s a
advance_at m value l (InMoveSet s move) a = move_set_advance m value l s move a
advance_at m value l (InOffline s sweep) a = offline_advance m l s sweep a
advance_at m value l (InTrim s) a = trim_advance l s a
advance_at m value l WriteWord Done = tells (at l Between) Wrote
advance_at m value l ReadWord (Word x) = tells (at l Between) (Value x)
advance_at m value l (InChecked s kind) a = checked_advance l s kind a
advance_at m value l s a = goes l

-- what is done at once at a spot that calls for no step (profile: between two steps under a lock)
abbrev pub at_once : Setup → Bool → (ℕ → LockValue) → Local → Spot → Change
at_once m refused value l (InAlloc s) = alloc_at_once m value l s
at_once m refused value l (InPutAway s away) = put_away_at_once value l s away
at_once m refused value l (InDiscard s discard) = discard_at_once value l s discard
at_once m refused value l (InFree s) = free_at_once m value l s
at_once m refused value l (InMoveSet s move) = move_set_at_once value l s move
at_once m refused value l (InTrim s) = trim_at_once m value l s
at_once m refused value l (InChecked s kind) = checked_at_once m refused value l s kind
at_once m refused value l s = stays value l

-- ---- between two calls

-- a word of an object lies outside of it (profile)
abbrev pub is_outside : Layout → ℕ → Bool
is_outside layout word = not (nat_le (8 * (word + 1)) layout.object_size)

-- replies to writes and reads that take no step (profile)
abbrev pub told_of_use : Setup → Known → ℕ → Option Reply
told_of_use m known word =
    if not known.held then Some NotHeld else if is_outside (m.layout known.cache) word
    then Some OutOfObject else None

-- and to pokes (profile)
abbrev pub told_of_poke : Setup → Known → Option Reply
told_of_poke m known = if known.frame == 0 then Some NotHeld else if not (m.checks known.cache)
    then Some NotChecked else None

-- an allocation from a cache that isn't live (profile: `slab_alloc_node` is given a cache)
abbrev pub told_of_alloc : Option ℕ → Option Reply
told_of_alloc None = Some NoSuchCache
told_of_alloc (Some cache) = None

-- a trim of a cache that isn't live, or is checked (profile)
abbrev pub told_of_trim : Setup → Option ℕ → Option Reply
told_of_trim m None = Some NoSuchCache
told_of_trim m (Some cache) = if m.checks cache then Some reply.Checked else None

-- the reply of a call that takes no step (profile)
abbrev pub told_at_once : Setup → Known → Call → CallKind → Option Reply
told_at_once m known call Alloc = told_of_alloc (call_cache call)
told_at_once m known call Free = None
told_at_once m known call Write = told_of_use m known (call_word call)
told_at_once m known call Read = told_of_use m known (call_word call)
told_at_once m known call Poke = told_of_poke m known
told_at_once m known call Trim = told_of_trim m (call_cache call)
told_at_once m known call Flush = if length m.plain == 0 then Some (Flushed 0) else None

-- the first call that takes a step is reached by the replies before it (profile)
abbrev pub or_step : Local → (Reply → Local) → Option Reply → Local
or_step l more None = l
or_step l more (Some reply) = more reply

-- the same, of a list of calls (profile)
abbrev pub rested_with : Setup → List Call → Local → Local
rested_with m [] l = l
rested_with m (call ∷ calls) l =
    or_step l (λ reply. rested_with m calls (answered l reply))
    (told_at_once m (slice_index_or l.known (call_place call) nobody) call (call_kind call))

-- the same, of a worker that is between two calls (profile)
abbrev pub rested_at : Setup → Local → Spot → Local
rested_at m l Between = rested_with m l.todo l
rested_at m l s = l

-- a worker between two calls has the replies that take no step (profile)
abbrev pub rested : Setup → Local → Local
rested m l = rested_at m l l.spot

-- ---- the begin of a call

-- the cache of a call: the one that it names (`slab_alloc_node`, `__kmem_cache_shrink`), or that of
-- its object (`do_slab_free`); a flush begins with the oldest (profile)
abbrev pub cache_for : Setup → Known → Option ℕ → CallKind → ℕ
cache_for m known named Alloc = unwrap_or named 0
cache_for m known named Free = known.cache
cache_for m known named Write = known.cache
cache_for m known named Read = known.cache
cache_for m known named Poke = known.cache
cache_for m known named Trim = unwrap_or named 0
cache_for m known named Flush = slice_index m.plain 0

-- the first spot of a call, by whether its cache is checked and whether the worker holds its object
-- (`slab_alloc_node`, `do_slab_free`, `__kmem_cache_shrink`, `slub_cpu_dead`; the board, writes,
-- reads and pokes are profile)
abbrev pub first_spot : CallKind → Bool → Bool → Spot
first_spot Alloc false held = InAlloc LoadCpu
first_spot Alloc true held = InChecked LockChecked Alloc
first_spot Free checked false = InFree TakeBoard
first_spot Free false true = InFree LoadOwn
first_spot Free true true = InChecked LockChecked Free
first_spot Write false held = WriteWord
first_spot Write true held = InChecked LockChecked Write
first_spot Read false held = ReadWord
first_spot Read true held = InChecked LockChecked Read
first_spot Poke checked held = InChecked LockChecked Poke
first_spot Trim checked held = InOffline LoadCurrent Trimming
first_spot Flush checked held = InOffline LoadCurrent Flushing

-- a trim begins with CPU 0 (`flush_all_cpus_locked`), and so does a call that asks for no CPU: a
-- write, a read and a poke (profile)
abbrev pub first_cpu : CallKind → ℕ → ℕ
first_cpu Trim cpu = 0
first_cpu kind cpu = cpu

-- a worker at the first spot of a call, with its cache, CPU and object (profile)
abbrev pub begun_call : Setup → Bool → Local → Call → Local
begun_call m fast l call =
    let known = slice_index_or l.known (call_place call) nobody in
    let cache = cache_for m known (call_cache call) (call_kind call) in
    record l {
      spot = first_spot (call_kind call) (m.checks cache) known.held;
      cache = cache;
      cpu = first_cpu (call_kind call) (call_cpu call);
      place = call_place call;
      fast = fast;
      turn = 0;
      count = 0;
    }

-- at that of the first call of a list (profile)
abbrev pub begun_with : Setup → Bool → Local → List Call → Local
begun_with m fast l [] = l
begun_with m fast l (call ∷ calls) = begun_call m fast l call

-- where it is in no call (profile)
abbrev pub begun_at : Setup → Bool → Local → Spot → Local
begun_at m fast l Between = begun_with m fast l l.todo
begun_at m fast l s = l

-- a worker between two calls begins its next one (profile)
abbrev pub begun : Setup → Bool → Local → Local
begun m fast l = begun_at m fast l l.spot

-- ---- all that comes with an answer

-- with the reply that the call has (profile)
abbrev pub told : Turn → Local
told turn = noted turn.local turn.reply

-- what is done at once, once (profile)
abbrev pub changed : Setup → Bool → Change → Change
changed m refused c =
    let l = noted c.local c.reply in at_once m refused c.value l l.spot

-- and up to a spot that calls for a step: never more than twice (profile)
abbrev pub settled : Setup → Bool → Change → Change
settled m refused c = changed m refused (changed m refused c)

-- where an answer leads to (profile): what is done at once belongs to the next step, and so do the
-- replies that take no step
abbrev pub advance_of : Setup → Bool → (ℕ → LockValue) → Local → Answer → Change
advance_of m refused value l a =
    let turn = advance_at m value l l.spot a in
    let c = settled m refused (record { value = value; local = turn.local; reply = turn.reply }) in
    record { value = c.value; local = rested m (noted c.local c.reply); reply = None }
