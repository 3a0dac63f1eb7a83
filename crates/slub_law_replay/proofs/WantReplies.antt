-- Which steps, and what is done at once, answer that no frames are there.
use Rattle.std.proofs.Common.{◌≡◌, ℕ, eqb, ◌+◌, ◌≤◌, ◌∙◌, ap, subst, Bool, true, false, not, ◌&&◌, if◌then◌else◌, Option, Some, None, List, [], ◌∷◌, length, refl, sym, inl, inr}
use Rattle.std.specs.Prelude.{nat_lt}
use Rattle.std.proofs.lemmas.Bool.{cases_Bool, false≢true}
use Rattle.slub_trace.specs.declared.reply.Reply.{Reply}
use Rattle.slub_trace.specs.declared.reply.Reply.TheVariants as reply
use Rattle.slub_words.specs.declared.board.BoardWord.{BoardWord}
use Rattle.slub_words.specs.declared.cpu.CpuWord.{CpuWord}
use Rattle.slub_cpu_partial.specs.declared.words.ListWord.{ListWord}
use Rattle.slub_page_pool.specs.FreeFrames.{FreeFrames}
use Rattle.slub_object_layout.specs.declared.layout.Layout.{Layout}
use Rattle.slub_core.specs.declared.call.Call.{Call}
use Rattle.slub_core.specs.declared.call.CallKind.{CallKind}
use Rattle.slub_core.specs.declared.call.CallKind.TheVariants.{Alloc, Free, Write, Read, Poke, Trim, Flush}
use Rattle.slub_core.specs.declared.local.FrameRun.{FrameRun}
use Rattle.slub_core.specs.declared.local.Known.{Known}
use Rattle.slub_core.specs.declared.local.PartialString.{PartialString}
use Rattle.slub_core.specs.declared.step.Answer.{Answer}
use Rattle.slub_core.specs.declared.step.Answer.TheVariants.{Word, Done, Won, Lost}
use Rattle.slub_core.specs.declared.spot.Spot.{Spot}
use Rattle.slub_core.specs.declared.spot.Spot.TheVariants.{InAlloc, InPutAway, InDiscard, InPutOnList, InFree, InMoveSet, InOffline, InTrim, WriteWord, ReadWord, InChecked}
use Rattle.slub_core.specs.declared.spot.Away.{Away}
use Rattle.slub_core.specs.declared.spot.Discard.{Discard}
use Rattle.slub_core.specs.declared.spot.PutOnList.{PutOnList}
use Rattle.slub_core.specs.declared.spot.MoveSet.{MoveSet}
use Rattle.slub_core.specs.declared.spot.Sweep.{Sweep}
use Rattle.slub_core.specs.declared.spot.MoveSet.TheVariants.{ForFree, ForOffline}
use Rattle.slub_core.specs.declared.spot.Sweep.TheVariants.{Trimming, Flushing}
use Rattle.slub_core.specs.declared.spot.AllocSpot.{AllocSpot}
use Rattle.slub_core.specs.declared.spot.AllocSpot.TheVariants.{LoadCpu, LoadNext, Pop, Detach, LoadTaken, TakeAll, MarkFull, TakeList, FollowFront, LoadKept, FreezeKept, LockNode, LoadPopped, FreezePopped, Unlist, GiveNode, LockPool, GivePool, GiveDry, LinkNew, Make, LoadReady, LoadAgain, DetachOther, Install, PopNode, TakeRun}
use Rattle.slub_core.specs.declared.spot.PutAwaySpot.{PutAwaySpot}
use Rattle.slub_core.specs.declared.spot.PutAwaySpot.TheVariants.{WalkChain, LockAway, LoadAway, LinkLast, Unfreeze, GiveAway, PutNode}
use Rattle.slub_core.specs.declared.spot.DiscardSpot.{DiscardSpot}
use Rattle.slub_core.specs.declared.spot.DiscardSpot.TheVariants.{Unmake, LockDiscard, GiveDiscard, PutRun}
use Rattle.slub_core.specs.declared.spot.PutOnListSpot.{PutOnListSpot}
use Rattle.slub_core.specs.declared.spot.PutOnListSpot.TheVariants.{LoadList, WalkString, LinkString, PushString}
use Rattle.slub_core.specs.declared.spot.FreeSpot.{FreeSpot}
use Rattle.slub_core.specs.declared.spot.FreeSpot.TheVariants.{TakeBoard, LoadOwn, LinkOwn, Push, LoadSlab, LinkSlab, FreeSlab, LockFree, LoadLocked, GoBack, LinkLocked, FreeLocked, GiveFree, LoadCount, TakeSet, TakeOff}
use Rattle.slub_core.specs.declared.spot.MoveSetSpot.{MoveSetSpot}
use Rattle.slub_core.specs.declared.spot.MoveSetSpot.TheVariants.{LockMove, FollowSet, LoadMoved, ListSlab, GiveMove, ChooseFront, PutTail}
use Rattle.slub_core.specs.declared.spot.OfflineSpot.{OfflineSpot}
use Rattle.slub_core.specs.declared.spot.OfflineSpot.TheVariants.{LoadCurrent, DetachCurrent, TakeCurrent}
use Rattle.slub_core.specs.declared.spot.TrimSpot.{TrimSpot}
use Rattle.slub_core.specs.declared.spot.TrimSpot.TheVariants.{LockTrim, LoadScanned, GiveTrim, ScanNode, DropScanned}
use Rattle.slub_core.specs.declared.spot.CheckedSpot.{CheckedSpot}
use Rattle.slub_core.specs.declared.spot.CheckedSpot.TheVariants.{LockChecked, LockRun, GiveRun, GiveChecked, DoChecked, MoveRun, AddSlab}
use Rattle.slub_core.specs.Calls.{call_cache, call_word}
use Rattle.slub_core.specs.Setup.{Setup, pool_lock}
use Rattle.slub_core.specs.Words.{cpu_in, board_in, list_in}
use Rattle.slub_core.specs.World.{LockValue, pool_in}
use Rattle.slub_core.specs.Local.{Local, Change, at, with_hand, bare_hand, stays, here}
use Rattle.slub_core.specs.Spots.{doing, of_sweep}
use Rattle.slub_core.specs.Alloc.{told_of_word, is_spent, found_run, run_taken, way_of_run, alloc_advance, pop_node, node_of, with_node, asks_for_another}
use Rattle.slub_core.specs.PutAway.{put_away_advance, has_enough}
use Rattle.slub_core.specs.Discard.{discard_advance}
use Rattle.slub_core.specs.PutOnList.{put_on_list_advance}
use Rattle.slub_core.specs.Free.{free_advance, board_taken}
use Rattle.slub_core.specs.MoveSet.{move_set_advance, after_move, front_taken}
use Rattle.slub_core.specs.Offline.{offline_advance, trim_advance, scan_node, next_swept, list_swept}
use Rattle.slub_core.specs.Checked.{checked_advance, move_run, way_of_found}
use Rattle.slub_core.specs.Steps.{advance_at, at_once, told_of_use, told_of_alloc, told_of_trim, told_at_once, is_outside}
use Rattle.slub_page_pool.specs.Block.{HasNoBlock, Takes}
use Rattle.slub_page_pool.specs.FreeFrames.{IsPool}
use Rattle.slub_red_zone.specs.State.{CheckedState}
use Rattle.slub_red_zone.specs.Steps.{damage_of_used}
use Rattle.slub_red_zone.specs.declared.checked.CheckedGive.{CheckedGive}
use Rattle.slub_red_zone.specs.declared.checked.CheckedGive.TheVariants as give
use Rattle.slub_trace.specs.declared.damage.Damage.{Damage}
use Rattle.slub_core.specs.Local.{noted}
use Rattle.slub_core.specs.Alloc.{or_least, run_found}
use Rattle.slub_core.specs.Checked.{checked_at_once, do_checked, gave, is_spare, slabs_of, slot_of, took_back}
use Rattle.slub_red_zone.specs.Steps.{with_taken}
use Rattle.slub_core.specs.Setup.{pool_after}

-- a reply that isn't that
abbrev pub WantsNone : Spot → Option Reply → Type 0
WantsNone s (Some reply.NoFrames) = ⊥
WantsNone s r = Unit {0}

-- ---- ways

word-wants : (s : Spot) (m : Setup) (fast : Bool) (c : CpuWord) → WantsNone s (told_of_word m fast c)
word-wants s m fast c = by (is_spent m c && not fast)
  where
    by : (b : Bool) → WantsNone s (if b then Some (reply.IdsSpent c.tid) else None)
    by true = tt
    by false = tt

flush-wants : (s : Spot) (m : Setup) (l : Local) → WantsNone s (next_swept m l Flushing).reply
flush-wants s m l = by (nat_lt (l.turn + 1) (length m.plain))
  where
    by : (b : Bool) → WantsNone s (if b then None else Some (reply.Flushed l.count))
    by true = tt
    by false = tt

board-wants : (m : Setup) (l : Local) (b : Option BoardWord) → WantsNone (InFree TakeBoard) (board_taken m l b).reply
board-wants m l None = tt
board-wants m l (Some b) = tt

next-wants : (m : Setup) (l : Local) (s : Spot) (sweep : Sweep) → doing s ≡ of_sweep sweep → WantsNone s (next_swept m l sweep).reply
next-wants m l s Trimming at = tt
next-wants m l s Flushing at = flush-wants s m l

move-wants : (m : Setup) (l : Local) (move : MoveSet) → WantsNone (InMoveSet GiveMove move) (after_move m l move).reply
move-wants m l ForFree = tt
move-wants m l (ForOffline sweep) = next-wants m l (InMoveSet GiveMove (ForOffline sweep)) sweep refl

swept-wants : (m : Setup) (l : Local) (sweep : Sweep) (list : ListWord) → WantsNone (InOffline TakeCurrent sweep) (list_swept m l sweep list).reply
swept-wants m l sweep list = elim (cases_Bool (eqb list.count 0)) [
  | inl e ↦ rw e (next-wants m l (InOffline TakeCurrent sweep) sweep refl)
  | inr e ↦ rw e tt
]

-- ---- steps, by path

alloc-wants : (m : Setup) (l : Local) (s : AllocSpot) (a : Answer) → WantsNone (InAlloc s) (alloc_advance m l s a).reply
alloc-wants m l LoadCpu (Word x) = word-wants (InAlloc LoadCpu) m l.fast (cpu_in x)
alloc-wants m l LoadNext (Word x) = tt
alloc-wants m l Pop Won = tt
alloc-wants m l Pop (Lost x) = tt
alloc-wants m l Detach Won = tt
alloc-wants m l Detach (Lost x) = tt
alloc-wants m l LoadTaken (Word x) = tt
alloc-wants m l TakeAll Won = tt
alloc-wants m l TakeAll (Lost x) = tt
alloc-wants m l MarkFull Won = tt
alloc-wants m l MarkFull (Lost x) = tt
alloc-wants m l TakeList (Word x) = tt
alloc-wants m l FollowFront (Word x) = tt
alloc-wants m l LoadKept (Word x) = tt
alloc-wants m l FreezeKept Won = tt
alloc-wants m l FreezeKept (Lost x) = tt
alloc-wants m l LockNode Won = tt
alloc-wants m l LoadPopped (Word x) = tt
alloc-wants m l FreezePopped Won = tt
alloc-wants m l FreezePopped (Lost x) = tt
alloc-wants m l Unlist Won = tt
alloc-wants m l Unlist (Lost x) = tt
alloc-wants m l GiveNode Done = tt
alloc-wants m l LockPool Won = tt
alloc-wants m l GivePool Done = tt
alloc-wants m l GiveDry Done = tt
alloc-wants m l (LinkNew i) Done = tt
alloc-wants m l Make Done = tt
alloc-wants m l LoadReady (Word x) = tt
alloc-wants m l LoadAgain (Word x) = word-wants (InAlloc LoadAgain) m false (cpu_in x)
alloc-wants m l DetachOther Won = tt
alloc-wants m l DetachOther (Lost x) = tt
alloc-wants m l Install Won = tt
alloc-wants m l Install (Lost x) = tt
alloc-wants m l s a = tt

put_away-wants : (m : Setup) (value : ℕ → LockValue) (l : Local) (s : PutAwaySpot) (away : Away) (a : Answer) → WantsNone (InPutAway s away) (put_away_advance m value l s away a).reply
put_away-wants m value l WalkChain away (Word x) = tt
put_away-wants m value l LockAway away Won = tt
put_away-wants m value l LoadAway away (Word x) = tt
put_away-wants m value l LinkLast away Done = tt
put_away-wants m value l Unfreeze away Won = tt
put_away-wants m value l Unfreeze away (Lost x) = tt
put_away-wants m value l GiveAway away Done = tt
put_away-wants m value l s away a = tt

discard-wants : (m : Setup) (l : Local) (s : DiscardSpot) (discard : Discard) (a : Answer) → WantsNone (InDiscard s discard) (discard_advance m l s discard a).reply
discard-wants m l Unmake discard Done = tt
discard-wants m l LockDiscard discard Won = tt
discard-wants m l GiveDiscard discard Done = tt
discard-wants m l s discard a = tt

put_on_list-wants : (l : Local) (s : PutOnListSpot) (put : PutOnList) (a : Answer) → WantsNone (InPutOnList s put) (put_on_list_advance l s put a).reply
put_on_list-wants l LoadList put (Word x) = tt
put_on_list-wants l WalkString put (Word x) = tt
put_on_list-wants l LinkString put Done = tt
put_on_list-wants l PushString put Won = tt
put_on_list-wants l PushString put (Lost x) = tt
put_on_list-wants l s put a = tt

free-wants : (m : Setup) (l : Local) (s : FreeSpot) (a : Answer) → WantsNone (InFree s) (free_advance m l s a).reply
free-wants m l TakeBoard (Word x) = board-wants m l (board_in x)
free-wants m l LoadOwn (Word x) = tt
free-wants m l LinkOwn Done = tt
free-wants m l Push Won = tt
free-wants m l Push (Lost x) = tt
free-wants m l LoadSlab (Word x) = tt
free-wants m l LinkSlab Done = tt
free-wants m l FreeSlab Won = tt
free-wants m l FreeSlab (Lost x) = tt
free-wants m l LockFree Won = tt
free-wants m l LoadLocked (Word x) = tt
free-wants m l GoBack Done = tt
free-wants m l LinkLocked Done = tt
free-wants m l FreeLocked Won = tt
free-wants m l FreeLocked (Lost x) = tt
free-wants m l GiveFree Done = tt
free-wants m l LoadCount (Word x) = tt
free-wants m l TakeSet (Word x) = tt
free-wants m l s a = tt

move_set-wants : (m : Setup) (value : ℕ → LockValue) (l : Local) (s : MoveSetSpot) (move : MoveSet) (a : Answer) → WantsNone (InMoveSet s move) (move_set_advance m value l s move a).reply
move_set-wants m value l LockMove move Won = tt
move_set-wants m value l FollowSet move (Word x) = tt
move_set-wants m value l LoadMoved move (Word x) = tt
move_set-wants m value l ListSlab move Won = tt
move_set-wants m value l ListSlab move (Lost x) = tt
move_set-wants m value l GiveMove move Done = move-wants m l move
move_set-wants m value l s move a = tt

offline-wants : (m : Setup) (l : Local) (s : OfflineSpot) (sweep : Sweep) (a : Answer) → WantsNone (InOffline s sweep) (offline_advance m l s sweep a).reply
offline-wants m l LoadCurrent sweep (Word x) = tt
offline-wants m l DetachCurrent sweep Won = tt
offline-wants m l DetachCurrent sweep (Lost x) = tt
offline-wants m l TakeCurrent sweep (Word x) = swept-wants m l sweep (list_in x)
offline-wants m l s sweep a = tt

trim-wants : (l : Local) (s : TrimSpot) (a : Answer) → WantsNone (InTrim s) (trim_advance l s a).reply
trim-wants l LockTrim Won = tt
trim-wants l LoadScanned (Word x) = tt
trim-wants l GiveTrim Done = tt
trim-wants l s a = tt

checked-wants : (l : Local) (s : CheckedSpot) (kind : CallKind) (a : Answer) → WantsNone (InChecked s kind) (checked_advance l s kind a).reply
checked-wants l LockChecked kind Won = tt
checked-wants l LockRun kind Won = tt
checked-wants l GiveRun kind Done = tt
checked-wants l GiveChecked kind Done = tt
checked-wants l s kind a = tt

pub turn-wants : (m : Setup) (value : ℕ → LockValue) (l : Local) (s : Spot) (a : Answer) → WantsNone s (advance_at m value l s a).reply
turn-wants m value l (InAlloc s) a = alloc-wants m l s a
turn-wants m value l (InPutAway s away) a = put_away-wants m value l s away a
turn-wants m value l (InDiscard s discard) a = discard-wants m l s discard a
turn-wants m value l (InPutOnList s put) a = put_on_list-wants l s put a
turn-wants m value l (InFree s) a = free-wants m l s a
turn-wants m value l (InMoveSet s move) a = move_set-wants m value l s move a
turn-wants m value l (InOffline s sweep) a = offline-wants m l s sweep a
turn-wants m value l (InTrim s) a = trim-wants l s a
turn-wants m value l WriteWord Done = tt
turn-wants m value l ReadWord (Word x) = tt
turn-wants m value l (InChecked s kind) a = checked-wants l s kind a
turn-wants m value l s a = tt

-- ---- replies that take no step

use-wants : (s : Spot) (m : Setup) (known : Known) (call : Call) → WantsNone s (told_of_use m known (call_word call))
use-wants s m known call = by (not known.held) (is_outside (m.layout known.cache) (call_word call))
  where
    by : (a b : Bool) → WantsNone s (if a then Some reply.NotHeld else if b then Some reply.OutOfObject else None)
    by true b = tt
    by false true = tt
    by false false = tt

pub rest-wants : (s : Spot) (m : Setup) (known : Known) (call : Call) (kind : CallKind) → WantsNone s (told_at_once m known call kind)
rest-wants s m known call Alloc = by (call_cache call)
  where
    by : (cache : Option ℕ) → WantsNone s (told_of_alloc cache)
    by None = tt
    by (Some cache) = tt
rest-wants s m known call Free = tt
rest-wants s m known call Write = use-wants s m known call
rest-wants s m known call Read = use-wants s m known call
rest-wants s m known call Poke = by (eqb known.frame 0) (not (m.checks known.cache))
  where
    by : (a b : Bool) → WantsNone s (if a then Some reply.NotHeld else if b then Some reply.NotChecked else None)
    by true b = tt
    by false true = tt
    by false false = tt
rest-wants s m known call Trim = by (call_cache call)
  where
    checked : (b : Bool) → WantsNone s (if b then Some reply.Checked else None)
    checked true = tt
    checked false = tt

    by : (cache : Option ℕ) → WantsNone s (told_of_trim m cache)
    by None = tt
    by (Some cache) = checked (m.checks cache)
rest-wants s m known call Flush = by (eqb (length m.plain) 0)
  where
    by : (b : Bool) → WantsNone s (if b then Some (reply.Flushed 0) else None)
    by true = tt
    by false = tt

-- ---- what is done at once

-- the spots at which a run of frames is looked for, or the object of a poke
abbrev pub is_wanting : Spot → Bool
is_wanting (InAlloc TakeRun) = true
is_wanting (InChecked MoveRun Alloc) = true
is_wanting (InChecked DoChecked Poke) = true
is_wanting _ = false

pop-wants : (s : Spot) (m : Setup) (value : ℕ → LockValue) (l : Local) (frames : List ℕ) → WantsNone s (pop_node m value l frames).reply
pop-wants s m value l [] = tt
pop-wants s m value l (frame ∷ frames) = by (asks_for_another m l)
  where
    by : (b : Bool) → WantsNone s (if b then stays (with_node value l frames) (at (with_hand l (bare_hand frame)) (InAlloc LoadPopped)) else stays value (at l (InAlloc GiveNode))).reply
    by true = tt
    by false = tt

scan-wants : (s : Spot) (m : Setup) (value : ℕ → LockValue) (l : Local) (frames : List ℕ) → WantsNone s (scan_node m value l frames).reply
scan-wants s m value l frames = by (nat_lt (length l.scanned) (length frames))
  where
    by : (b : Bool) → WantsNone s (if b then stays value (at l (InTrim LoadScanned)) else stays (with_node value l (m.means.promote frames l.scanned)) (at l (InTrim GiveTrim))).reply
    by true = tt
    by false = tt

gave-wants : (s : Spot) (m : Setup) (value : ℕ → LockValue) (l : Local) (slabs : CheckedState) (given : CheckedGive) → WantsNone s (gave m value l slabs given).reply
gave-wants s m value l slabs (give.Given slot) = tt
gave-wants s m value l slabs give.Empty = tt

took-wants : (s : Spot) (m : Setup) (value : ℕ → LockValue) (l : Local) (slabs : CheckedState) (damage : Option Damage) → WantsNone s (took_back m value l slabs damage).reply
took-wants s m value l slabs None = tt
took-wants s m value l slabs (Some damage) = tt

poked-wants : (s : Spot) (a b : Bool) → WantsNone s (Some (if a then (if b then reply.Poked else reply.NotHeld) else reply.OutOfSlot))
poked-wants s true true = tt
poked-wants s true false = tt
poked-wants s false b = tt

do-wants : (s : Spot) (m : Setup) (value : ℕ → LockValue) (l : Local) (kind : CallKind) (slabs : CheckedState) → WantsNone s (do_checked m value l kind slabs).reply
do-wants s m value l Alloc slabs = gave-wants s m value l (m.means.give slabs) (m.means.gave slabs)
do-wants s m value l Free slabs = took-wants s m value l slabs (damage_of_used slabs (slot_of l))
do-wants s m value l Write slabs = tt
do-wants s m value l Read slabs = tt
do-wants s m value l Poke slabs = poked-wants s _ _
do-wants s m value l Trim slabs = tt
do-wants s m value l Flush slabs = tt

add-wants : (s : Spot) (m : Setup) (refused : Bool) (value : ℕ → LockValue) (l : Local) (kind : CallKind) → WantsNone s (checked_at_once m refused value l AddSlab kind).reply
add-wants s m true value l kind = tt
add-wants s m false value l kind = tt

-- what a poke is answered
pub poke-wants : (m : Setup) (value : ℕ → LockValue) (l : Local) (slabs : CheckedState) → WantsNone (InChecked DoChecked Poke) (do_checked m value l Poke slabs).reply
poke-wants m value l slabs = poked-wants (InChecked DoChecked Poke) _ _

pub once-wants : (m : Setup) (refused : Bool) (value : ℕ → LockValue) (l : Local) (s : Spot) → is_wanting s ≡ false → WantsNone s (at_once m refused value l s).reply
once-wants m refused value l (InAlloc PopNode) is = pop-wants (InAlloc PopNode) m value l (node_of value l)
once-wants m refused value l (InAlloc TakeRun) is = absurd (false≢true (sym is))
once-wants m refused value l (InTrim ScanNode) is = scan-wants (InTrim ScanNode) m value l (node_of value l)
once-wants m refused value l (InChecked DoChecked kind) is = do-wants (InChecked DoChecked kind) m value l kind (slabs_of m value l)
once-wants m refused value l (InChecked MoveRun Alloc) is = absurd (false≢true (sym is))
once-wants m refused value l (InChecked AddSlab kind) is = add-wants (InChecked AddSlab kind) m refused value l kind
once-wants m refused value l (InPutAway PutNode away) is = tt
once-wants m refused value l (InDiscard PutRun discard) is = tt
once-wants m refused value l (InFree TakeOff) is = tt
once-wants m refused value l (InMoveSet ChooseFront move) is = tt
once-wants m refused value l (InMoveSet PutTail move) is = tt
once-wants m refused value l (InTrim DropScanned) is = tt
once-wants m refused value l s is = tt

-- where it is answered so, no run was found
pub run-wants : (value : ℕ → LockValue) (pool : FreeFrames) (layout : Layout) (l : Local) (found : Option FrameRun) → (run_taken value pool layout l found).reply ≡ Some reply.NoFrames → found ≡ None
run-wants value pool layout l None is = refl
run-wants value pool layout l (Some run) is = absurd (cc)

-- ---- where it leads

if-spot : (b : Bool) (s t : Spot) → is_wanting s ≡ false → is_wanting t ≡ false → is_wanting (if b then s else t) ≡ false
if-spot true s t a c = a
if-spot false s t a c = c

if-local : (b : Bool) (l n : Local) → is_wanting l.spot ≡ false → is_wanting n.spot ≡ false → is_wanting (if b then l else n).spot ≡ false
if-local true l n a c = a
if-local false l n a c = c

if-change : (b : Bool) (c d : Change) → is_wanting c.local.spot ≡ false → is_wanting d.local.spot ≡ false → is_wanting (if b then c else d).local.spot ≡ false
if-change true c d a e = a
if-change false c d a e = e

pop-leads : (m : Setup) (value : ℕ → LockValue) (l : Local) (frames : List ℕ) → is_wanting (pop_node m value l frames).local.spot ≡ false
pop-leads m value l [] = refl
pop-leads m value l (frame ∷ frames) = if-change (asks_for_another m l) _ _ refl refl

run-leads : (value : ℕ → LockValue) (pool : FreeFrames) (layout : Layout) (l : Local) (found : Option FrameRun) → is_wanting l.spot ≡ false → is_wanting (run_taken value pool layout l found).local.spot ≡ false
run-leads value pool layout l None is = is
run-leads value pool layout l (Some run) is = is

way-leads : (found : Option FrameRun) → is_wanting (way_of_run found) ≡ false
way-leads None = refl
way-leads (Some run) = refl

found-leads : (found : Option FrameRun) → is_wanting (way_of_found found) ≡ false
found-leads None = refl
found-leads (Some run) = refl

front-leads : (l : Local) (move : MoveSet) (string : Option PartialString) → is_wanting (front_taken l move string).spot ≡ false
front-leads l move None = refl
front-leads l move (Some string) = if-local (eqb string.count 1) _ _ refl refl

gave-leads : (m : Setup) (value : ℕ → LockValue) (l : Local) (slabs : CheckedState) (given : CheckedGive) → is_wanting (gave m value l slabs given).local.spot ≡ false
gave-leads m value l slabs (give.Given slot) = refl
gave-leads m value l slabs give.Empty = refl

took-leads : (m : Setup) (value : ℕ → LockValue) (l : Local) (slabs : CheckedState) (damage : Option Damage) → is_wanting (took_back m value l slabs damage).local.spot ≡ false
took-leads m value l slabs None = if-spot (is_spare m (with_taken slabs (slot_of l)) l.cache (here l).frame) _ _ refl refl
took-leads m value l slabs (Some damage) = refl

do-leads : (m : Setup) (value : ℕ → LockValue) (l : Local) (kind : CallKind) (slabs : CheckedState) → l.spot ≡ InChecked DoChecked kind → is_wanting (do_checked m value l kind slabs).local.spot ≡ false
do-leads m value l Alloc slabs is = gave-leads m value l (m.means.give slabs) (m.means.gave slabs)
do-leads m value l Free slabs is = took-leads m value l slabs (damage_of_used slabs (slot_of l))
do-leads m value l Write slabs is = refl
do-leads m value l Read slabs is = refl
do-leads m value l Poke slabs is = refl
do-leads m value l Trim slabs is = ap is_wanting is
do-leads m value l Flush slabs is = ap is_wanting is

moved-leads : (m : Setup) (value : ℕ → LockValue) (l : Local) (kind : CallKind) (pool : FreeFrames) → is_wanting (move_run m value l kind pool).local.spot ≡ false
moved-leads m value l Alloc pool = run-leads value pool (m.layout l.cache) (at l (way_of_found (found_run m pool (m.layout l.cache)))) (found_run m pool (m.layout l.cache)) (found-leads (found_run m pool (m.layout l.cache)))
moved-leads m value l kind pool = refl

add-leads : (m : Setup) (refused : Bool) (value : ℕ → LockValue) (l : Local) (kind : CallKind) → is_wanting (checked_at_once m refused value l AddSlab kind).local.spot ≡ false
add-leads m true value l kind = refl
add-leads m false value l kind = refl

-- nothing is looked for next
pub once-leads : (m : Setup) (refused : Bool) (value : ℕ → LockValue) (l : Local) (s : Spot) → l.spot ≡ s → is_wanting (at_once m refused value l s).local.spot ≡ false
once-leads m refused value l (InAlloc PopNode) is = pop-leads m value l (node_of value l)
once-leads m refused value l (InAlloc TakeRun) is =
    let found = found_run m (pool_in (value pool_lock)) (m.layout l.cache) in
    run-leads value (pool_in (value pool_lock)) (m.layout l.cache) (at l (way_of_run found)) found (way-leads found)
once-leads m refused value l (InPutAway PutNode away) is = refl
once-leads m refused value l (InDiscard PutRun discard) is = refl
once-leads m refused value l (InFree TakeOff) is = if-local (has_enough m value l) _ _ refl refl
once-leads m refused value l (InMoveSet ChooseFront move) is = front-leads l move l.string
once-leads m refused value l (InMoveSet PutTail move) is = refl
once-leads m refused value l (InTrim ScanNode) is = if-change (nat_lt (length l.scanned) (length (node_of value l))) _ _ refl refl
once-leads m refused value l (InTrim DropScanned) is = refl
once-leads m refused value l (InChecked DoChecked kind) is = do-leads m value l kind (slabs_of m value l) is
once-leads m refused value l (InChecked MoveRun kind) is = moved-leads m value l kind (pool_in (value pool_lock))
once-leads m refused value l (InChecked AddSlab kind) is = add-leads m refused value l kind
once-leads m refused value l s is = ap is_wanting is

pub noted-spot : (l : Local) (r : Option Reply) → (noted l r).spot ≡ l.spot
noted-spot l None = refl
noted-spot l (Some r) = refl

-- ---- no run is found where there is no block

pub none-block : (m : Setup) (pool : FreeFrames) (layout : Layout) → IsPool pool → layout.min_order ≤ 10 → found_run m pool layout ≡ None → HasNoBlock pool.free layout.min_order
none-block m pool layout good small none = by (m.means.take pool layout.order) (m.means.take pool layout.min_order) refl refl (m.means.takes pool layout.min_order good small)
  where
    by : (one least : Option ℕ) → m.means.take pool layout.order ≡ one → m.means.take pool layout.min_order ≡ least → Takes pool layout.min_order (m.means.take pool layout.min_order) (pool_after pool layout.min_order (m.means.take pool layout.min_order)) → HasNoBlock pool.free layout.min_order
    by (Some frame) least is also takes = absurd (let some = sym none ∙ ap (λ t. or_least m pool layout (run_found layout layout.order t)) is in cc)
    by None (Some frame) is also takes = absurd (let some = sym none ∙ ap (λ t. or_least m pool layout (run_found layout layout.order t)) is ∙ ap (run_found layout layout.min_order) also in cc)
    by None None is also takes = (subst (λ t. Takes pool layout.min_order t (pool_after pool layout.min_order t)) also takes).1
