-- The allocation of an unchecked cache, step by step: `slab_alloc_node` and `___slab_alloc` of
-- Linux 6.1.
use Rattle.std.specs.Prelude.{ℕ, ◌+◌, ◌-◌, ◌*◌, ◌/◌, ◌%◌, ◌^◌, Bool, true, false, not, ◌&&◌, ◌||◌, ◌==◌, nat_lt, nat_le, if◌then◌else◌, List, [], ◌∷◌, length, slice_index, slice_set, min, Option, Some, None}
use Rattle.slub_page_pool.specs.FreeFrames.{FreeFrames}
use Rattle.slub_object_layout.specs.declared.layout.Layout.{Layout}
use Rattle.slub_object_layout.specs.Layout.{address_of}
use Rattle.slub_words.specs.declared.cpu.CpuWord.{CpuWord}
use Rattle.slub_words.specs.declared.slab.SlabWord.{SlabWord}
use Rattle.slub_cpu_partial.specs.declared.words.ListWord.{ListWord}
use Rattle.slub_trace.specs.declared.reply.Reply.{Reply}
use Rattle.slub_trace.specs.declared.reply.Reply.TheVariants.{Given, NoFrames, IdsSpent}
use Rattle.slub_core.specs.declared.local.Hand.{Hand}
use Rattle.slub_core.specs.declared.local.PartialString.{PartialString}
use Rattle.slub_core.specs.declared.local.FrameRun.{FrameRun}
use Rattle.slub_core.specs.declared.step.Step.{Step}
use Rattle.slub_core.specs.declared.step.Answer.{Answer}
use Rattle.slub_core.specs.declared.step.Answer.TheVariants.{Word, Done, Won, Lost}
use Rattle.slub_core.specs.declared.spot.Spot.{Spot}
use Rattle.slub_core.specs.declared.spot.Spot.TheVariants.{Between, InAlloc, InPutAway, InPutOnList}
use Rattle.slub_core.specs.declared.spot.AllocSpot.{AllocSpot}
use Rattle.slub_core.specs.declared.spot.AllocSpot.TheVariants.{LoadCpu, LoadNext, Pop, Detach, LoadTaken, TakeAll, MarkFull, TakeList, FollowFront, LoadKept, FreezeKept, LockNode, PopNode, LoadPopped, FreezePopped, Unlist, GiveNode, LockPool, TakeRun, GivePool, GiveDry, LinkNew, Make, LoadReady, LoadAgain, DetachOther, Install}
use Rattle.slub_core.specs.declared.spot.Away.{Away}
use Rattle.slub_core.specs.declared.spot.Away.TheVariants.{ForInstall, ForSpent}
use Rattle.slub_core.specs.declared.spot.PutAwaySpot.TheVariants.{WalkChain, LockAway}
use Rattle.slub_core.specs.declared.spot.PutOnListSpot.TheVariants.{LoadList}
use Rattle.slub_core.specs.declared.spot.PutOnList.TheVariants.{OfRest, OfNode}
use Rattle.slub_core.specs.Setup.{Setup, pointer_at, hardened, node_lock, pool_lock, pool_after}
use Rattle.slub_core.specs.Words.{cpu_in, slab_in, list_in}
use Rattle.slub_core.specs.World.{LockValue, Node, Pool, update, frames_in, pool_in}
use Rattle.slub_core.specs.Local.{Local, Turn, Change, hand_of, string_of, run_of, at, gets, with_hand, set_hand, less_hand, hand_from, bare_hand, goes, tells, stays}
use Rattle.slub_core.specs.Ops.{load_cpu, change_cpu, load_slab, change_slab, store_slab, load_pointer, store_pointer, take_list, load_link, take_node, give_node, take_pool, give_pool, no_step}

-- ---- the words that an allocation leaves

-- the head comes off the CPU freelist (`slab_alloc_node`); each change of a CPU word raises its
-- transaction id (`next_tid`)
abbrev pub popped_word : Setup → Local → CpuWord
popped_word m l = record { tid = l.cpu_word.tid + m.step; frame = l.cpu_word.frame; head = l.next }

-- the CPU has no slab, and no freelist of one (`c->slab = NULL` of `___slab_alloc` and
-- `flush_slab`)
abbrev pub detached_word : Setup → Local → CpuWord
detached_word m l = record { tid = l.cpu_word.tid + m.step; frame = 0; head = 0 }

-- the next of the first object of a chain in hand, once it was loaded: 0 where that is the only one
-- (`get_freepointer` at `load_freelist` of `___slab_alloc`)
abbrev pub second_of : Hand → ℕ
second_of hand = if hand.length == 2 then hand.last else 0

-- the slab in hand is current, and the CPU has its chain but for the first object (`load_freelist`
-- of `___slab_alloc`)
abbrev pub installed_word : Setup → Local → CpuWord
installed_word m l = record {
  tid = l.cpu_word.tid + m.step;
  frame = (hand_of l).frame;
  head = second_of (hand_of l);
}

-- all objects of a slab are in use once its freelist is taken (`get_freelist`, `acquire_slab`)
abbrev pub emptied_word : SlabWord → SlabWord
emptied_word s = record s { head = 0; inuse = s.objects }

-- a slab without a free object isn't frozen any more (`get_freelist`)
abbrev pub thawed_word : SlabWord → SlabWord
thawed_word s = record s { frozen = false }

-- a slab is frozen only as it becomes current, and comes off every list by it (profile:
-- `acquire_slab` freezes each slab that it takes, `__slab_free` a full one)
abbrev pub frozen_word : SlabWord → SlabWord
frozen_word s = record s { head = 0; inuse = s.objects; frozen = true; listed = false }

-- a slab that goes from the node list to a CPU's is unmarked and stays unfrozen (profile:
-- `acquire_slab` freezes it)
abbrev pub unlisted_word : SlabWord → SlabWord
unlisted_word s = record s { listed = false }

-- of a new slab all objects are in use and it is frozen (`___slab_alloc`, after `new_slab`); it has
-- no mark (profile)
abbrev pub made_word : Local → SlabWord
made_word l = record {
  head = 0;
  inuse = (run_of l).objects;
  objects = (run_of l).objects;
  frozen = true;
  listed = false;
  cache = l.cache;
}

-- ---- ways

-- no object is taken or put under a spent transaction id, so that a detach always has one more
-- (profile)
abbrev pub is_spent : Setup → CpuWord → Bool
is_spent m c = nat_lt (4294967295 - 2 * m.step) c.tid

-- where a CPU word leads: to the fast path (`slab_alloc_node`), to the slab's own freelist, to
-- another slab (`___slab_alloc`). A try ends where the fast path does (profile)
abbrev pub way_of_word : Setup → Bool → CpuWord → Spot
way_of_word m fast c =
    if is_spent m c then Between
    else if not (c.head == 0) then InAlloc LoadNext
    else if fast then Between
    else if not (c.frame == 0) then InAlloc Detach
    else InAlloc TakeList

-- the reply where the transaction ids are spent (profile)
abbrev pub told_of_word : Setup → Bool → CpuWord → Option Reply
told_of_word m fast c = if is_spent m c && not fast then Some (IdsSpent c.tid) else None

-- a pop that is lost begins again (`redo` of `slab_alloc_node`), but for a try (profile)
abbrev pub way_of_lost : Bool → Spot
way_of_lost fast = if fast then Between else InAlloc LoadCpu

-- to where a slab is put away: along its chain where the end isn't known (stage one of
-- `deactivate_slab`)
abbrev pub way_of_away : Hand → Away → Spot
way_of_away hand away = if (hand.head == 0) || hand.walked then InPutAway LockAway away
    else InPutAway WalkChain away

-- the slab's own freelist is taken, or it has none (`get_freelist`)
abbrev pub way_of_taken : SlabWord → Spot
way_of_taken s = if s.head == 0 then InAlloc MarkFull else InAlloc TakeAll

-- the CPU's partial list: nothing, one slab, which is kept, or a string (`new_slab:` of
-- `___slab_alloc`; that the whole list is taken is profile)
abbrev pub way_of_list : ListWord → Spot
way_of_list list = if list.count == 0 then InAlloc LockNode else if list.count == 1
    then InAlloc LoadKept else InAlloc FollowFront

-- the slab of a list of one is in hand (`slub_percpu_partial` of `___slab_alloc`)
abbrev pub hands_of_list : ListWord → List Hand → List Hand
hands_of_list list hands = if list.count == 1 then bare_hand list.front ∷ hands else hands

-- a string of so many slabs from a front on, of which the last leads to nothing: a list that was
-- taken whole (`unfreeze_partials`)
abbrev pub taken_string : ℕ → ℕ → PartialString
taken_string front count = record {
  front = front;
  count = count;
  cursor = front;
  place = 1;
  link = Some 0;
}

-- a string of one slab, of which nobody knows where it leads (what `put_cpu_partial` is called
-- with)
abbrev pub single_string : ℕ → PartialString
single_string frame = record { front = frame; count = 1; cursor = frame; place = 1; link = None }

-- of a list of more slabs the string is in hand (profile: `___slab_alloc` takes the front alone)
abbrev pub string_of_list : ListWord → Option PartialString
string_of_list list = if nat_lt 1 list.count then Some (taken_string list.front list.count)
    else None

-- the first popped slab is frozen, each later one goes to the CPU's partial list
-- (`get_partial_node`)
abbrev pub way_of_popped : List Hand → Spot
way_of_popped hands = if length hands == 1 then InAlloc FreezePopped else InAlloc Unlist

-- where the node had no slab, a new one is made (`new_objects:` of `___slab_alloc`)
abbrev pub way_of_node : List Hand → Spot
way_of_node hands = if length hands == 0 then InAlloc LockPool else InAlloc LoadReady

-- a run of frames was found, or none (`new_slab`)
abbrev pub way_of_run : Option FrameRun → Spot
way_of_run None = InAlloc GiveDry
way_of_run (Some run) = InAlloc GivePool

-- the objects of a new slab are linked one after the other (`allocate_slab`)
abbrev pub way_of_link : Local → ℕ → Spot
way_of_link l i = if nat_lt (i + 1) (run_of l).objects then InAlloc (LinkNew (i + 1))
    else InAlloc Make

-- before an install: spent (profile), another slab is current, or none (`retry_load_slab:` of
-- `___slab_alloc`)
abbrev pub way_of_again : Setup → Hand → CpuWord → Spot
way_of_again m hand c =
    if is_spent m c then way_of_away hand ForSpent
    else if c.frame == 0 then InAlloc Install else InAlloc DetachOther

-- ---- walks along a chain in hand

-- the object that a walk has come to, as an index plus one (`freelist_tail` of `deactivate_slab`)
abbrev pub reached : Hand → ℕ
reached hand = if hand.length == 0 then hand.head else hand.last

-- a walk finds what that object leads to: nothing, or one object more (stage one of
-- `deactivate_slab`)
abbrev pub walked_on : Hand → ℕ → Hand
walked_on hand found =
    if found == 0 then record hand {
      last = reached hand;
      length = (if hand.length == 0 then 1 else hand.length);
      walked = true;
    }
    else record hand { last = found; length = (if hand.length == 0 then 2 else hand.length + 1) }

-- what was loaded of an object's free pointer (`get_freepointer`, `freelist_ptr`)
abbrev pub found_at : Setup → ℕ → ℕ → ℕ → ℕ → ℕ
found_at m cache frame index x = hardened cache (pointer_at m cache frame index) x % 2 ^ 16

-- ---- under the locks, at once

-- the node list of the call's cache (`n->partial` of `get_node`)
abbrev pub node_of : (ℕ → LockValue) → Local → List ℕ
node_of value l = frames_in (value (node_lock l.cache))

-- the values of the locks with another such list (`add_partial`, `remove_partial`)
abbrev pub with_node : (ℕ → LockValue) → Local → List ℕ → ℕ → LockValue
with_node value l frames = update value (node_lock l.cache) (Node frames)

-- one slab is taken, and then up to half of what the CPU's list is to hold, and one
-- (`get_partial_node`)
abbrev pub asks_for_another : Setup → Local → Bool
asks_for_another m l =
    (length l.hands == 0) || nat_le l.put ((m.layout l.cache).cpu_partial_slabs / 2)

-- the head of the node list is taken off while a slab is asked for (`get_partial_node`,
-- `remove_partial` of `acquire_slab`)
abbrev pub pop_node : Setup → (ℕ → LockValue) → Local → List ℕ → Change
pop_node m value l [] = stays value (at l (InAlloc GiveNode))
pop_node m value l (frame ∷ frames) =
    if asks_for_another m l
    then stays (with_node value l frames)
    (at (with_hand l (bare_hand frame)) (InAlloc LoadPopped))
    else stays value (at l (InAlloc GiveNode))

-- a run that was found, and how many objects a slab of it has (`oo_objects` of `allocate_slab`)
abbrev pub run_found : Layout → ℕ → Option ℕ → Option FrameRun
run_found layout order None = None
run_found layout order (Some frame) =
    Some (record {
      frame = frame;
      order = order;
      objects = (if order == layout.order then layout.objects else layout.min_objects_slab);
    })

-- where the layout's order has no run, the least order is tried (`s->min` of `allocate_slab`)
abbrev pub or_least : Setup → FreeFrames → Layout → Option FrameRun → Option FrameRun
or_least m pool layout None = run_found layout layout.min_order (m.means.take pool layout.min_order)
or_least m pool layout (Some run) = Some run

-- a run of the layout's order, else one of the least order (`allocate_slab`)
abbrev pub found_run : Setup → FreeFrames → Layout → Option FrameRun
found_run m pool layout =
    or_least m pool layout (run_found layout layout.order (m.means.take pool layout.order))

-- a machine without such a run counts it, up to the counter's end (profile: `slab_out_of_memory`
-- prints a warning)
abbrev pub noted_dry : FreeFrames → ℕ → FreeFrames
noted_dry pool order =
    record pool {
      dry = slice_set pool.dry order
          (min (slice_index pool.dry order + 1) (2 ^ 64 - 1));
    }

-- the values of the locks with another pool (profile: the kernel's is its page allocator)
abbrev pub pool_with : (ℕ → LockValue) → FreeFrames → ℕ → LockValue
pool_with value pool = update value pool_lock (Pool pool)

-- a worker has the run in hand (`allocate_slab`), or the reply that there is none
-- (`slab_out_of_memory`)
abbrev pub run_taken : (ℕ → LockValue) → FreeFrames → Layout → Local → Option FrameRun → Change
run_taken value pool layout l None =
    record {
      value = pool_with value (noted_dry pool layout.min_order);
      local = l;
      reply = Some NoFrames;
    }
run_taken value pool layout l (Some run) =
    record {
      value = pool_with value (pool_after pool run.order (Some run.frame));
      local = record l { run = Some run };
      reply = None;
    }

-- a run for a new slab is looked for and taken (`allocate_slab`)
abbrev pub take_run : Setup → (ℕ → LockValue) → Local → FreeFrames → Change
take_run m value l pool =
    let found = found_run m pool (m.layout l.cache) in
    run_taken value pool (m.layout l.cache) (at l (way_of_run found)) found

-- ---- spot by spot

-- the step at each spot of an allocation (`slab_alloc_node`, `___slab_alloc`)
abbrev pub alloc_step : Setup → Local → AllocSpot → Step
-- the fast path
alloc_step m l LoadCpu = load_cpu l
alloc_step m l LoadNext = load_pointer m l.cache l.cpu_word.frame (l.cpu_word.head - 1)
alloc_step m l Pop = change_cpu l (popped_word m l)
-- the current slab's own freelist (`get_freelist`)
alloc_step m l Detach = change_cpu l (detached_word m l)
alloc_step m l LoadTaken = load_slab (hand_of l).frame
alloc_step m l TakeAll = change_slab l (hand_of l).frame (emptied_word l.slab_word)
alloc_step m l MarkFull = change_slab l (hand_of l).frame (thawed_word l.slab_word)
-- the CPU's partial list
alloc_step m l TakeList = take_list l
alloc_step m l FollowFront = load_link (string_of l).front
alloc_step m l LoadKept = load_slab (hand_of l).frame
alloc_step m l FreezeKept = change_slab l (hand_of l).frame (frozen_word l.slab_word)
-- the node list (`get_partial_node`)
alloc_step m l LockNode = take_node l
alloc_step m l PopNode = no_step
alloc_step m l LoadPopped = load_slab (hand_of l).frame
alloc_step m l FreezePopped = change_slab l (hand_of l).frame (frozen_word l.slab_word)
alloc_step m l Unlist = change_slab l (hand_of l).frame (unlisted_word l.slab_word)
alloc_step m l GiveNode = give_node l
-- a new slab (`new_slab`)
alloc_step m l LockPool = take_pool l
alloc_step m l TakeRun = no_step
alloc_step m l GivePool = give_pool l
alloc_step m l GiveDry = give_pool l
alloc_step m l (LinkNew i) =
    store_pointer m l.cache (run_of l).frame i (if nat_lt (i + 1) (run_of l).objects then i + 2
    else 0)
alloc_step m l Make = store_slab (run_of l).frame (made_word l)
-- the slab becomes current (`load_freelist`, `retry_load_slab`)
alloc_step m l LoadReady = load_pointer m l.cache (hand_of l).frame ((hand_of l).head - 1)
alloc_step m l LoadAgain = load_cpu l
alloc_step m l DetachOther = change_cpu l (detached_word m l)
alloc_step m l Install = change_cpu l (installed_word m l)

-- where its answer leads (`slab_alloc_node`, `___slab_alloc`)
abbrev pub alloc_advance : Setup → Local → AllocSpot → Answer → Turn
alloc_advance m l LoadCpu (Word x) =
    record {
      local = record l { cpu_word = cpu_in x; spot = way_of_word m l.fast (cpu_in x) };
      reply = told_of_word m l.fast (cpu_in x);
    }
alloc_advance m l LoadNext (Word x) =
    goes (record l {
      next = found_at m l.cache l.cpu_word.frame (l.cpu_word.head - 1) x;
      spot = InAlloc Pop;
    })
alloc_advance m l Pop Won =
    tells (at (gets l l.cache l.cpu_word.frame (l.cpu_word.head - 1)) Between)
    (Given (address_of l.cpu_word.frame (l.cpu_word.head - 1) (m.layout l.cache)))
alloc_advance m l Pop (Lost x) = goes (at l (way_of_lost l.fast))
alloc_advance m l Detach Won =
    goes (at (with_hand l (hand_from l.cpu_word.frame l.cpu_word.head)) (InAlloc LoadTaken))
alloc_advance m l Detach (Lost x) = goes (at l (InAlloc LoadCpu))
alloc_advance m l LoadTaken (Word x) =
    goes (record l { slab_word = slab_in x; spot = way_of_taken (slab_in x) })
alloc_advance m l TakeAll Won =
    goes (at (set_hand l (hand_from (hand_of l).frame l.slab_word.head)) (InAlloc LoadReady))
alloc_advance m l TakeAll (Lost x) = goes (at l (InAlloc LoadTaken))
alloc_advance m l MarkFull Won = goes (at (less_hand l) (InAlloc TakeList))
alloc_advance m l MarkFull (Lost x) = goes (at l (InAlloc LoadTaken))
alloc_advance m l TakeList (Word x) =
    goes (record l {
      hands = hands_of_list (list_in x) l.hands;
      string = string_of_list (list_in x);
      spot = way_of_list (list_in x);
    })
-- the front leaves the string only here, when the front of the rest is known
alloc_advance m l FollowFront (Word x) =
    goes (record (with_hand l (bare_hand (string_of l).front)) {
      string = Some
          (taken_string (x % 2 ^ 16) ((string_of l).count - 1));
      spot = InPutOnList LoadList OfRest;
    })
alloc_advance m l LoadKept (Word x) =
    goes (record l { slab_word = slab_in x; spot = InAlloc FreezeKept })
alloc_advance m l FreezeKept Won =
    goes (at (set_hand l (hand_from (hand_of l).frame l.slab_word.head)) (InAlloc LoadReady))
alloc_advance m l FreezeKept (Lost x) = goes (at l (InAlloc LoadKept))
alloc_advance m l LockNode Won = goes (record l { put = 0; spot = InAlloc PopNode })
alloc_advance m l LoadPopped (Word x) =
    goes (record l { slab_word = slab_in x; spot = way_of_popped l.hands })
alloc_advance m l FreezePopped Won =
    goes (at (set_hand l (hand_from (hand_of l).frame l.slab_word.head)) (InAlloc PopNode))
alloc_advance m l FreezePopped (Lost x) = goes (at l (InAlloc LoadPopped))
alloc_advance m l Unlist Won =
    goes (record (less_hand l) {
      string = Some (single_string (hand_of l).frame);
      spot = InPutOnList LoadList OfNode;
    })
alloc_advance m l Unlist (Lost x) = goes (at l (InAlloc LoadPopped))
alloc_advance m l GiveNode Done = goes (at l (way_of_node l.hands))
alloc_advance m l LockPool Won = goes (at l (InAlloc TakeRun))
alloc_advance m l GivePool Done = goes (at l (InAlloc (LinkNew 0)))
alloc_advance m l GiveDry Done = goes (at l Between)
alloc_advance m l (LinkNew i) Done = goes (at l (way_of_link l i))
alloc_advance m l Make Done =
    goes (record (with_hand l (hand_from (run_of l).frame 1)) {
      run = None;
      spot = InAlloc LoadReady;
    })
alloc_advance m l LoadReady (Word x) =
    goes (at (set_hand l (walked_on (hand_of l)
    (found_at m l.cache (hand_of l).frame ((hand_of l).head - 1) x))) (InAlloc LoadAgain))
alloc_advance m l LoadAgain (Word x) =
    record {
      local = record l { cpu_word = cpu_in x; spot = way_of_again m (hand_of l) (cpu_in x) };
      reply = told_of_word m false (cpu_in x);
    }
alloc_advance m l DetachOther Won =
    let hand = hand_from l.cpu_word.frame l.cpu_word.head in
    goes (at (with_hand l hand) (way_of_away hand ForInstall))
alloc_advance m l DetachOther (Lost x) = goes (at l (InAlloc LoadAgain))
alloc_advance m l Install Won =
    tells (at (less_hand (gets l l.cache (hand_of l).frame ((hand_of l).head - 1))) Between)
    (Given (address_of (hand_of l).frame ((hand_of l).head - 1) (m.layout l.cache)))
alloc_advance m l Install (Lost x) = goes (at l (InAlloc LoadAgain))
-- a lock that another worker has is tried again
alloc_advance m l s a = goes l

-- what is done under a lock without a step (`get_partial_node`, `allocate_slab`)
abbrev pub alloc_at_once : Setup → (ℕ → LockValue) → Local → AllocSpot → Change
alloc_at_once m value l PopNode = pop_node m value l (node_of value l)
alloc_at_once m value l TakeRun = take_run m value l (pool_in (value pool_lock))
alloc_at_once m value l s = stays value l
