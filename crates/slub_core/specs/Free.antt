-- The free of an object of an unchecked cache: `do_slab_free` and `__slab_free` of Linux 6.1.
use Rattle.std.specs.Prelude.{ℕ, ◌+◌, ◌-◌, Bool, not, ◌&&◌, ◌==◌, nat_lt, nat_le, if◌then◌else◌, List, ◌∷◌, filter, Option, Some, None}
use Rattle.slub_words.specs.declared.cpu.CpuWord.{CpuWord}
use Rattle.slub_words.specs.declared.slab.SlabWord.{SlabWord}
use Rattle.slub_words.specs.declared.board.BoardWord.{BoardWord}
use Rattle.slub_cpu_partial.specs.declared.words.ListWord.{ListWord}
use Rattle.slub_trace.specs.declared.reply.Reply.TheVariants.{Freed, NotHeld}
use Rattle.slub_core.specs.declared.call.CallKind.TheVariants as kind
use Rattle.slub_core.specs.declared.local.Hand.{Hand}
use Rattle.slub_core.specs.declared.step.Step.{Step}
use Rattle.slub_core.specs.declared.step.Answer.{Answer}
use Rattle.slub_core.specs.declared.step.Answer.TheVariants.{Word, Done, Won, Lost}
use Rattle.slub_core.specs.declared.spot.Spot.{Spot}
use Rattle.slub_core.specs.declared.spot.Spot.TheVariants.{Between, InDiscard, InPutOnList, InFree, InMoveSet, InChecked}
use Rattle.slub_core.specs.declared.spot.Discard.TheVariants.{FromFree}
use Rattle.slub_core.specs.declared.spot.DiscardSpot.TheVariants.{Unmake}
use Rattle.slub_core.specs.declared.spot.PutOnList.TheVariants.{OfFree}
use Rattle.slub_core.specs.declared.spot.PutOnListSpot.TheVariants.{LoadList}
use Rattle.slub_core.specs.declared.spot.MoveSet.TheVariants.{ForFree}
use Rattle.slub_core.specs.declared.spot.MoveSetSpot.TheVariants.{LockMove}
use Rattle.slub_core.specs.declared.spot.CheckedSpot.TheVariants.{LockChecked}
use Rattle.slub_core.specs.declared.spot.FreeSpot.{FreeSpot}
use Rattle.slub_core.specs.declared.spot.FreeSpot.TheVariants.{TakeBoard, LoadOwn, LinkOwn, Push, LoadSlab, LinkSlab, FreeSlab, LockFree, LoadLocked, GoBack, LinkLocked, FreeLocked, TakeOff, GiveFree, LoadCount, TakeSet}
use Rattle.slub_core.specs.Setup.{Setup}
use Rattle.slub_core.specs.Words.{cpu_in, slab_in, board_in, list_in}
use Rattle.slub_core.specs.World.{LockValue}
use Rattle.slub_core.specs.Local.{Local, Turn, Change, here, hand_of, address_in, at, gets, loses, with_hand, less_hand, bare_hand, goes, tells, stays}
use Rattle.slub_core.specs.Ops.{load_cpu, change_cpu, load_slab, change_slab, link_object, take_board, load_list, take_list, take_node, give_node, no_step}
use Rattle.slub_core.specs.Alloc.{is_spent, taken_string, single_string, node_of, with_node}
use Rattle.slub_core.specs.PutAway.{has_enough}

-- ---- the words that a free leaves

-- the object is the head of the CPU freelist (`do_slab_free`, `next_tid`)
abbrev pub pushed_word : Setup → Local → CpuWord
pushed_word m l = record {
  tid = l.cpu_word.tid + m.step;
  frame = l.cpu_word.frame;
  head = (here l).index + 1;
}

-- the object is the head of its slab's freelist, and one object less is in use (`__slab_free`)
abbrev pub freed_word : Local → SlabWord
freed_word l = record l.slab_word { head = (here l).index + 1; inuse = l.slab_word.inuse - 1 }

-- ---- what a free looks at

-- the last object in use of a listed slab: only under the node lock may it be freed, since the slab
-- may have to go (`was_frozen`, `prior` of `__slab_free`)
abbrev pub is_last_listed : SlabWord → Bool
is_last_listed s = not s.frozen && s.listed && not (s.head == 0) && (s.inuse == 1)

-- a full slab that is on no list: the free takes it in hand, for the CPU's partial list (`!prior`
-- of `__slab_free`, which freezes it: not to is profile)
abbrev pub was_full : SlabWord → Bool
was_full s = not s.frozen && (s.head == 0)

-- ---- ways

-- what was on the board goes the way of its cache (profile)
abbrev pub board_taken : Setup → Local → Option BoardWord → Turn
board_taken m l None = tells (at l Between) NotHeld
board_taken m l (Some b) =
    goes (record (gets l b.cache b.frame b.index) {
      cache = b.cache;
      spot = (if m.checks b.cache then InChecked LockChecked kind.Free else InFree LoadOwn);
    })

-- to the CPU freelist, where the object's slab is current (`slab != c->slab` of `do_slab_free`) and
-- the transaction ids aren't spent (profile)
abbrev pub way_of_own : Setup → Local → CpuWord → Spot
way_of_own m l c = if (c.frame == (here l).frame) && not (is_spent m c) then InFree LinkOwn
    else InFree LoadSlab

-- the node lock is taken first for the last object of a listed slab (`__slab_free`)
abbrev pub way_of_slab : SlabWord → Spot
way_of_slab s = if is_last_listed s then InFree LockFree else InFree LinkSlab

-- the second look at the slab word, under the node lock: where the slab changed the lock is given
-- back (profile: `__slab_free` doesn't load the word again before its exchange)
abbrev pub way_of_locked : SlabWord → Spot
way_of_locked s = if is_last_listed s then InFree LinkLocked else InFree GoBack

-- a slab that was full goes on to the CPU's partial list (`__slab_free`)
abbrev pub way_of_freed : SlabWord → Spot
way_of_freed s = if was_full s then InFree LoadCount else Between

-- a slab that was full is in hand (`__slab_free` freezes it: profile)
abbrev pub hands_of_freed : Local → List Hand
hands_of_freed l = if was_full l.slab_word then bare_hand (here l).frame ∷ l.hands else l.hands

-- the freed slab in hand becomes a string of one (`put_cpu_partial`)
abbrev pub alone : Local → Local
alone l = record (less_hand l) {
  string = Some (single_string (hand_of l).frame);
  spot = InPutOnList LoadList OfFree;
}

-- a list that holds enough is moved to the node before the slab is put on it (`oldslab->slabs >=
-- s->cpu_partial_slabs` of `put_cpu_partial`; that it is moved first is profile)
abbrev pub is_long : Setup → Local → ListWord → Bool
is_long m l list = nat_lt 0 list.count && nat_le (m.layout l.cache).cpu_partial_slabs list.count

-- the list is taken where it is long, else the slab is put on it (`put_cpu_partial`)
abbrev pub count_loaded : Setup → Local → ListWord → Local
count_loaded m l list = if is_long m l list
    then record l { list_word = list; spot = InFree TakeSet }
    else alone (record l { list_word = list })

-- the slabs that were taken are moved to the node (`slab_to_unfreeze` of `put_cpu_partial`)
abbrev pub set_taken : Local → ListWord → Local
set_taken l list =
    if list.count == 0 then alone l
    else record l {
      string = Some (taken_string list.front list.count);
      spot = InMoveSet LockMove ForFree;
    }

-- ---- spot by spot

-- the step at each spot of a free (`do_slab_free`, `__slab_free`)
abbrev pub free_step : Setup → Local → FreeSpot → Step
free_step m l TakeBoard = take_board l
-- the fast path
free_step m l LoadOwn = load_cpu l
free_step m l LinkOwn = link_object m l l.cpu_word.head
free_step m l Push = change_cpu l (pushed_word m l)
-- the slab's own freelist
free_step m l LoadSlab = load_slab (here l).frame
free_step m l LinkSlab = link_object m l l.slab_word.head
free_step m l FreeSlab = change_slab l (here l).frame (freed_word l)
-- the same under the node lock
free_step m l LockFree = take_node l
free_step m l LoadLocked = load_slab (here l).frame
free_step m l GoBack = give_node l
free_step m l LinkLocked = link_object m l l.slab_word.head
free_step m l FreeLocked = change_slab l (here l).frame (freed_word l)
free_step m l TakeOff = no_step
free_step m l GiveFree = give_node l
-- a full slab becomes partial (`put_cpu_partial`)
free_step m l LoadCount = load_list l
free_step m l TakeSet = take_list l

-- where its answer leads (`do_slab_free`, `__slab_free`)
abbrev pub free_advance : Setup → Local → FreeSpot → Answer → Turn
free_advance m l TakeBoard (Word x) = board_taken m l (board_in x)
free_advance m l LoadOwn (Word x) =
    goes (record l { cpu_word = cpu_in x; spot = way_of_own m l (cpu_in x) })
free_advance m l LinkOwn Done = goes (at l (InFree Push))
free_advance m l Push Won = tells (at (loses l) Between) (Freed (address_in m (here l)))
free_advance m l Push (Lost x) = goes (at l (InFree LoadOwn))
free_advance m l LoadSlab (Word x) =
    goes (record l { slab_word = slab_in x; spot = way_of_slab (slab_in x) })
free_advance m l LinkSlab Done = goes (at l (InFree FreeSlab))
free_advance m l FreeSlab Won =
    tells (record (loses l) {
      hands = hands_of_freed l;
      spot = way_of_freed l.slab_word;
    }) (Freed (address_in m (here l)))
free_advance m l FreeSlab (Lost x) = goes (at l (InFree LoadSlab))
free_advance m l LockFree Won = goes (at l (InFree LoadLocked))
-- a second look under the lock
free_advance m l LoadLocked (Word x) =
    goes (record l { slab_word = slab_in x; spot = way_of_locked (slab_in x) })
free_advance m l GoBack Done = goes (at l (InFree LoadSlab))
free_advance m l LinkLocked Done = goes (at l (InFree FreeLocked))
free_advance m l FreeLocked Won =
    tells (at (loses l) (InFree TakeOff)) (Freed (address_in m (here l)))
free_advance m l FreeLocked (Lost x) = goes (at l (InFree LoadLocked))
free_advance m l GiveFree Done = goes (at l Between)
free_advance m l LoadCount (Word x) = goes (count_loaded m l (list_in x))
free_advance m l TakeSet (Word x) = goes (set_taken l (list_in x))
free_advance m l s a = goes l

-- the list without a slab (`remove_partial`)
abbrev pub without : List ℕ → ℕ → List ℕ
without frames frame = filter (λ other. not (other == frame)) frames

-- an empty slab is taken off and discarded, where the list has enough (`slab_empty` of
-- `__slab_free`)
abbrev pub free_at_once : Setup → (ℕ → LockValue) → Local → FreeSpot → Change
free_at_once m value l TakeOff =
    let off = has_enough m value l in
    record {
      value = (if off then with_node value l (without (node_of value l) (here l).frame) else value);
      local = (if off then at (with_hand l (bare_hand (here l).frame)) (InDiscard Unmake FromFree)
          else at l (InFree GiveFree));
      reply = None;
    }
free_at_once m value l s = stays value l
