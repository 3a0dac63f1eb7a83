-- A call has a reply only by a step that ends its use of an object's words: no worker with a reply stands at a load or a store of such a word.
use Rattle.std.proofs.Common.{◌≡◌, ℕ, ◌+◌, ◌⊎◌, ◌==◌, Bool, true, false, not, ◌||◌, if◌then◌else◌, Option, Some, None, List, [], ◌∷◌, length, refl, inl, inr}
use Rattle.std.specs.Prelude.{nat_lt}
use Rattle.std.proofs.lemmas.Bool.{cases_Bool}
use Rattle.slub_trace.specs.declared.reply.Reply.{Reply}
use Rattle.slub_words.specs.declared.cpu.CpuWord.{CpuWord}
use Rattle.slub_words.specs.declared.slab.SlabWord.{SlabWord}
use Rattle.slub_words.specs.declared.board.BoardWord.{BoardWord}
use Rattle.slub_cpu_partial.specs.declared.words.ListWord.{ListWord}
use Rattle.slub_page_pool.specs.FreeFrames.{FreeFrames}
use Rattle.slub_object_layout.specs.declared.layout.Layout.{Layout}
use Rattle.slub_red_zone.specs.State.{CheckedState}
use Rattle.slub_red_zone.specs.declared.checked.CheckedGive.{CheckedGive}
use Rattle.slub_red_zone.specs.declared.checked.CheckedGive.TheVariants as give
use Rattle.slub_trace.specs.declared.damage.Damage.{Damage}
use Rattle.slub_red_zone.specs.Steps.{damage_of_used, with_taken}
use Rattle.slub_core.specs.declared.call.CallKind.{CallKind}
use Rattle.slub_core.specs.declared.call.CallKind.TheVariants.{Alloc, Free, Write, Read, Poke}
use Rattle.slub_core.specs.declared.local.Hand.{Hand}
use Rattle.slub_core.specs.declared.local.FrameRun.{FrameRun}
use Rattle.slub_core.specs.declared.step.Answer.{Answer}
use Rattle.slub_core.specs.declared.step.Answer.TheVariants.{Word, Done, Won, Lost}
use Rattle.slub_core.specs.declared.spot.Spot.{Spot}
use Rattle.slub_core.specs.declared.spot.Spot.TheVariants.{InAlloc, InPutAway, InDiscard, InPutOnList, InFree, InMoveSet, InOffline, InTrim, WriteWord, ReadWord, InChecked}
use Rattle.slub_core.specs.declared.spot.Away.{Away}
use Rattle.slub_core.specs.declared.spot.Discard.{Discard}
use Rattle.slub_core.specs.declared.spot.PutOnList.{PutOnList}
use Rattle.slub_core.specs.declared.spot.MoveSet.{MoveSet}
use Rattle.slub_core.specs.declared.spot.Sweep.{Sweep}
use Rattle.slub_core.specs.declared.spot.MoveSet.TheVariants.{ForFree, ForOffline}
use Rattle.slub_core.specs.declared.spot.Sweep.TheVariants.{Trimming, Flushing}
use Rattle.slub_core.specs.declared.spot.AllocSpot.{AllocSpot}
use Rattle.slub_core.specs.declared.spot.AllocSpot.TheVariants.{LoadCpu, LoadNext, Pop, Detach, LoadTaken, TakeAll, MarkFull, TakeList, FollowFront, LoadKept, FreezeKept, LockNode, LoadPopped, FreezePopped, Unlist, GiveNode, LockPool, GivePool, GiveDry, LinkNew, Make, LoadReady, LoadAgain, DetachOther, Install, PopNode, TakeRun}
use Rattle.slub_core.specs.declared.spot.PutAwaySpot.{PutAwaySpot}
use Rattle.slub_core.specs.declared.spot.PutAwaySpot.TheVariants.{WalkChain, LockAway, LoadAway, LinkLast, Unfreeze, GiveAway, PutNode}
use Rattle.slub_core.specs.declared.spot.DiscardSpot.{DiscardSpot}
use Rattle.slub_core.specs.declared.spot.DiscardSpot.TheVariants.{Unmake, LockDiscard, GiveDiscard, PutRun}
use Rattle.slub_core.specs.declared.spot.PutOnListSpot.{PutOnListSpot}
use Rattle.slub_core.specs.declared.spot.PutOnListSpot.TheVariants.{LoadList, WalkString, LinkString, PushString}
use Rattle.slub_core.specs.declared.spot.FreeSpot.{FreeSpot}
use Rattle.slub_core.specs.declared.spot.FreeSpot.TheVariants.{TakeBoard, LoadOwn, LinkOwn, Push, LoadSlab, LinkSlab, FreeSlab, LockFree, LoadLocked, GoBack, LinkLocked, FreeLocked, GiveFree, LoadCount, TakeSet, TakeOff}
use Rattle.slub_core.specs.declared.spot.MoveSetSpot.{MoveSetSpot}
use Rattle.slub_core.specs.declared.spot.MoveSetSpot.TheVariants.{LockMove, FollowSet, LoadMoved, ListSlab, GiveMove, ChooseFront, PutTail}
use Rattle.slub_core.specs.declared.spot.OfflineSpot.{OfflineSpot}
use Rattle.slub_core.specs.declared.spot.OfflineSpot.TheVariants.{LoadCurrent, DetachCurrent, TakeCurrent}
use Rattle.slub_core.specs.declared.spot.TrimSpot.{TrimSpot}
use Rattle.slub_core.specs.declared.spot.TrimSpot.TheVariants.{LockTrim, LoadScanned, GiveTrim, ScanNode, DropScanned}
use Rattle.slub_core.specs.declared.spot.CheckedSpot.{CheckedSpot}
use Rattle.slub_core.specs.declared.spot.CheckedSpot.TheVariants.{LockChecked, LockRun, GiveRun, GiveChecked, DoChecked, MoveRun, AddSlab}
use Rattle.slub_core.specs.Setup.{Setup, pool_lock}
use Rattle.slub_core.specs.Words.{cpu_in, board_in, list_in}
use Rattle.slub_core.specs.World.{LockValue, pool_in}
use Rattle.slub_core.specs.Local.{Local, Turn, Change, here, hand_of, at, with_hand, bare_hand, stays}
use Rattle.slub_core.specs.Alloc.{is_spent, way_of_word, told_of_word, way_of_again, way_of_away, way_of_run, found_run, run_taken, alloc_advance, pop_node, node_of, with_node, asks_for_another}
use Rattle.slub_core.specs.PutAway.{put_away_advance}
use Rattle.slub_core.specs.Discard.{discard_advance}
use Rattle.slub_core.specs.PutOnList.{put_on_list_advance}
use Rattle.slub_core.specs.Free.{free_advance, board_taken, way_of_freed, was_full}
use Rattle.slub_core.specs.MoveSet.{move_set_advance, after_move}
use Rattle.slub_core.specs.Offline.{offline_advance, trim_advance, scan_node, next_swept, list_swept}
use Rattle.slub_core.specs.Checked.{checked_advance, do_checked, gave, took_back, is_spare, move_run, way_of_found, slabs_of, slot_of}
use Rattle.slub_core.specs.Spots.{uses_word}
use Rattle.slub_core.specs.Steps.{advance_at, at_once}

-- without a reply, or at a spot without such a word
abbrev pub Quiet : Option Reply → Spot → Type 0
Quiet reply spot = (reply ≡ None) ⊎ (uses_word spot ≡ false)

abbrev pub Tells : Turn → Type 0
Tells turn = Quiet turn.reply turn.local.spot

abbrev pub Quits : Change → Type 0
Quits c = Quiet c.reply c.local.spot

-- ---- ways

if-unused : (b : Bool) (s t : Spot) → uses_word s ≡ false → uses_word t ≡ false → uses_word (if b then s else t) ≡ false
if-unused true s t a c = a
if-unused false s t a c = c

away-unused : (h : Hand) (away : Away) → uses_word (way_of_away h away) ≡ false
away-unused h away = if-unused ((h.head == 0) || h.walked) _ _ refl refl

word-tells : (m : Setup) (fast : Bool) (l : Local) (c : CpuWord) → l.spot ≡ way_of_word m fast c → Quiet (told_of_word m fast c) l.spot
word-tells m fast l c e = inr (rw e (if-unused (is_spent m c) _ _ refl (if-unused (not (c.head == 0)) _ _ refl (if-unused fast _ _ refl (if-unused (not (c.frame == 0)) _ _ refl refl)))))

again-tells : (m : Setup) (l : Local) (h : Hand) (c : CpuWord) → l.spot ≡ way_of_again m h c → Quiet (told_of_word m false c) l.spot
again-tells m l h c e = inr (rw e (if-unused (is_spent m c) _ _ (if-unused ((h.head == 0) || h.walked) _ _ refl refl) (if-unused (c.frame == 0) _ _ refl refl)))

board-tells : (m : Setup) (l : Local) (b : Option BoardWord) → Tells (board_taken m l b)
board-tells m l None = inr refl
board-tells m l (Some b) = inl refl

freed-unused : (s : SlabWord) → uses_word (way_of_freed s) ≡ false
freed-unused s = if-unused (was_full s) _ _ refl refl

next-tells : (m : Setup) (l : Local) (sweep : Sweep) → Tells (next_swept m l sweep)
next-tells m l Trimming = inl refl
next-tells m l Flushing = inr (if-unused (nat_lt (l.turn + 1) (length m.plain)) _ _ refl refl)

move-tells : (m : Setup) (l : Local) (move : MoveSet) → Tells (after_move m l move)
move-tells m l ForFree = inl refl
move-tells m l (ForOffline sweep) = next-tells m l sweep

swept-tells : (m : Setup) (l : Local) (sweep : Sweep) (list : ListWord) → Tells (list_swept m l sweep list)
swept-tells m l sweep list = elim (cases_Bool (list.count == 0)) [
  | inl e ↦ rw e (next-tells m l sweep)
  | inr e ↦ rw e (inl refl)
]

-- ---- steps, by path

alloc-tells : (m : Setup) (l : Local) (s : AllocSpot) (a : Answer) → Tells (alloc_advance m l s a)
alloc-tells m l LoadCpu (Word x) = word-tells m l.fast (record l { cpu_word = cpu_in x; spot = way_of_word m l.fast (cpu_in x) }) (cpu_in x) refl
alloc-tells m l LoadNext (Word x) = inl refl
alloc-tells m l Pop Won = inr refl
alloc-tells m l Pop (Lost x) = inl refl
alloc-tells m l Detach Won = inl refl
alloc-tells m l Detach (Lost x) = inl refl
alloc-tells m l LoadTaken (Word x) = inl refl
alloc-tells m l TakeAll Won = inl refl
alloc-tells m l TakeAll (Lost x) = inl refl
alloc-tells m l MarkFull Won = inl refl
alloc-tells m l MarkFull (Lost x) = inl refl
alloc-tells m l TakeList (Word x) = inl refl
alloc-tells m l FollowFront (Word x) = inl refl
alloc-tells m l LoadKept (Word x) = inl refl
alloc-tells m l FreezeKept Won = inl refl
alloc-tells m l FreezeKept (Lost x) = inl refl
alloc-tells m l LockNode Won = inl refl
alloc-tells m l LoadPopped (Word x) = inl refl
alloc-tells m l FreezePopped Won = inl refl
alloc-tells m l FreezePopped (Lost x) = inl refl
alloc-tells m l Unlist Won = inl refl
alloc-tells m l Unlist (Lost x) = inl refl
alloc-tells m l GiveNode Done = inl refl
alloc-tells m l LockPool Won = inl refl
alloc-tells m l GivePool Done = inl refl
alloc-tells m l GiveDry Done = inl refl
alloc-tells m l (LinkNew i) Done = inl refl
alloc-tells m l Make Done = inl refl
alloc-tells m l LoadReady (Word x) = inl refl
alloc-tells m l LoadAgain (Word x) = again-tells m (record l { cpu_word = cpu_in x; spot = way_of_again m (hand_of l) (cpu_in x) }) (hand_of l) (cpu_in x) refl
alloc-tells m l DetachOther Won = inl refl
alloc-tells m l DetachOther (Lost x) = inl refl
alloc-tells m l Install Won = inr refl
alloc-tells m l Install (Lost x) = inl refl
alloc-tells m l s a = inl refl

put_away-tells : (m : Setup) (value : ℕ → LockValue) (l : Local) (s : PutAwaySpot) (away : Away) (a : Answer) → Tells (put_away_advance m value l s away a)
put_away-tells m value l WalkChain away (Word x) = inl refl
put_away-tells m value l LockAway away Won = inl refl
put_away-tells m value l LoadAway away (Word x) = inl refl
put_away-tells m value l LinkLast away Done = inl refl
put_away-tells m value l Unfreeze away Won = inl refl
put_away-tells m value l Unfreeze away (Lost x) = inl refl
put_away-tells m value l GiveAway away Done = inl refl
put_away-tells m value l s away a = inl refl

discard-tells : (m : Setup) (l : Local) (s : DiscardSpot) (discard : Discard) (a : Answer) → Tells (discard_advance m l s discard a)
discard-tells m l Unmake discard Done = inl refl
discard-tells m l LockDiscard discard Won = inl refl
discard-tells m l GiveDiscard discard Done = inl refl
discard-tells m l s discard a = inl refl

put_on_list-tells : (l : Local) (s : PutOnListSpot) (put : PutOnList) (a : Answer) → Tells (put_on_list_advance l s put a)
put_on_list-tells l LoadList put (Word x) = inl refl
put_on_list-tells l WalkString put (Word x) = inl refl
put_on_list-tells l LinkString put Done = inl refl
put_on_list-tells l PushString put Won = inl refl
put_on_list-tells l PushString put (Lost x) = inl refl
put_on_list-tells l s put a = inl refl

free-tells : (m : Setup) (l : Local) (s : FreeSpot) (a : Answer) → Tells (free_advance m l s a)
free-tells m l TakeBoard (Word x) = board-tells m l (board_in x)
free-tells m l LoadOwn (Word x) = inl refl
free-tells m l LinkOwn Done = inl refl
free-tells m l Push Won = inr refl
free-tells m l Push (Lost x) = inl refl
free-tells m l LoadSlab (Word x) = inl refl
free-tells m l LinkSlab Done = inl refl
free-tells m l FreeSlab Won = inr (freed-unused l.slab_word)
free-tells m l FreeSlab (Lost x) = inl refl
free-tells m l LockFree Won = inl refl
free-tells m l LoadLocked (Word x) = inl refl
free-tells m l GoBack Done = inl refl
free-tells m l LinkLocked Done = inl refl
free-tells m l FreeLocked Won = inr refl
free-tells m l FreeLocked (Lost x) = inl refl
free-tells m l GiveFree Done = inl refl
free-tells m l LoadCount (Word x) = inl refl
free-tells m l TakeSet (Word x) = inl refl
free-tells m l s a = inl refl

move_set-tells : (m : Setup) (value : ℕ → LockValue) (l : Local) (s : MoveSetSpot) (move : MoveSet) (a : Answer) → Tells (move_set_advance m value l s move a)
move_set-tells m value l LockMove move Won = inl refl
move_set-tells m value l FollowSet move (Word x) = inl refl
move_set-tells m value l LoadMoved move (Word x) = inl refl
move_set-tells m value l ListSlab move Won = inl refl
move_set-tells m value l ListSlab move (Lost x) = inl refl
move_set-tells m value l GiveMove move Done = move-tells m l move
move_set-tells m value l s move a = inl refl

offline-tells : (m : Setup) (l : Local) (s : OfflineSpot) (sweep : Sweep) (a : Answer) → Tells (offline_advance m l s sweep a)
offline-tells m l LoadCurrent sweep (Word x) = inl refl
offline-tells m l DetachCurrent sweep Won = inl refl
offline-tells m l DetachCurrent sweep (Lost x) = inl refl
offline-tells m l TakeCurrent sweep (Word x) = swept-tells m l sweep (list_in x)
offline-tells m l s sweep a = inl refl

trim-tells : (l : Local) (s : TrimSpot) (a : Answer) → Tells (trim_advance l s a)
trim-tells l LockTrim Won = inl refl
trim-tells l LoadScanned (Word x) = inl refl
trim-tells l GiveTrim Done = inr refl
trim-tells l s a = inl refl

checked-tells : (l : Local) (s : CheckedSpot) (kind : CallKind) (a : Answer) → Tells (checked_advance l s kind a)
checked-tells l LockChecked kind Won = inl refl
checked-tells l LockRun kind Won = inl refl
checked-tells l GiveRun kind Done = inl refl
checked-tells l GiveChecked kind Done = inl refl
checked-tells l s kind a = inl refl

pub turn-tells : (m : Setup) (value : ℕ → LockValue) (l : Local) (s : Spot) (a : Answer) → Tells (advance_at m value l s a)
turn-tells m value l (InAlloc s) a = alloc-tells m l s a
turn-tells m value l (InPutAway s away) a = put_away-tells m value l s away a
turn-tells m value l (InDiscard s discard) a = discard-tells m l s discard a
turn-tells m value l (InPutOnList s put) a = put_on_list-tells l s put a
turn-tells m value l (InFree s) a = free-tells m l s a
turn-tells m value l (InMoveSet s move) a = move_set-tells m value l s move a
turn-tells m value l (InOffline s sweep) a = offline-tells m l s sweep a
turn-tells m value l (InTrim s) a = trim-tells l s a
turn-tells m value l WriteWord Done = inr refl
turn-tells m value l ReadWord (Word x) = inr refl
turn-tells m value l (InChecked s kind) a = checked-tells l s kind a
turn-tells m value l s a = inl refl

-- ---- changes at once

pop-quits : (m : Setup) (value : ℕ → LockValue) (l : Local) (frames : List ℕ) → Quits (pop_node m value l frames)
pop-quits m value l [] = inl refl
pop-quits m value l (frame ∷ frames) = inl (either (asks_for_another m l))
  where
    either : (b : Bool) → (if b then stays (with_node value l frames) (at (with_hand l (bare_hand frame)) (InAlloc LoadPopped)) else stays value (at l (InAlloc GiveNode))).reply ≡ None
    either true = refl
    either false = refl

run-quits : (value : ℕ → LockValue) (pool : FreeFrames) (layout : Layout) (l : Local) (run : Option FrameRun) → uses_word l.spot ≡ false → Quits (run_taken value pool layout l run)
run-quits value pool layout l None e = inr e
run-quits value pool layout l (Some run) e = inl refl

way-unused : (run : Option FrameRun) → uses_word (way_of_run run) ≡ false
way-unused None = refl
way-unused (Some run) = refl

found-unused : (run : Option FrameRun) → uses_word (way_of_found run) ≡ false
found-unused None = refl
found-unused (Some run) = refl

scan-quits : (m : Setup) (value : ℕ → LockValue) (l : Local) (frames : List ℕ) → Quits (scan_node m value l frames)
scan-quits m value l frames = elim (cases_Bool (nat_lt (length l.scanned) (length frames))) [
  | inl e ↦ rw e (inl refl)
  | inr e ↦ rw e (inl refl)
]

gave-quits : (m : Setup) (value : ℕ → LockValue) (l : Local) (after : CheckedState) (g : CheckedGive) → Quits (gave m value l after g)
gave-quits m value l after (give.Given slot) = inr refl
gave-quits m value l after give.Empty = inl refl

took-quits : (m : Setup) (value : ℕ → LockValue) (l : Local) (s : CheckedState) (d : Option Damage) → Quits (took_back m value l s d)
took-quits m value l s None = inr (if-unused (is_spare m (with_taken s (slot_of l)) l.cache (here l).frame) _ _ refl refl)
took-quits m value l s (Some damage) = inr refl

do-quits : (m : Setup) (value : ℕ → LockValue) (l : Local) (kind : CallKind) (s : CheckedState) → Quits (do_checked m value l kind s)
do-quits m value l Alloc s = gave-quits m value l (m.means.give s) (m.means.gave s)
do-quits m value l Free s = took-quits m value l s (damage_of_used s (slot_of l))
do-quits m value l Write s = inr refl
do-quits m value l Read s = inr refl
do-quits m value l Poke s = inr refl
do-quits m value l kind s = inl refl

move-quits : (m : Setup) (value : ℕ → LockValue) (l : Local) (kind : CallKind) (pool : FreeFrames) → Quits (move_run m value l kind pool)
move-quits m value l Alloc pool =
    let found = found_run m pool (m.layout l.cache) in run-quits value pool (m.layout l.cache) (at l (way_of_found found)) found (found-unused found)
move-quits m value l kind pool = inl refl

pub change-quits : (m : Setup) (refused : Bool) (value : ℕ → LockValue) (l : Local) (s : Spot) → Quits (at_once m refused value l s)
change-quits m refused value l (InAlloc PopNode) = pop-quits m value l (node_of value l)
change-quits m refused value l (InAlloc TakeRun) =
    let pool = pool_in (value pool_lock) in
    let found = found_run m pool (m.layout l.cache) in run-quits value pool (m.layout l.cache) (at l (way_of_run found)) found (way-unused found)
change-quits m refused value l (InPutAway PutNode away) = inl refl
change-quits m refused value l (InDiscard PutRun discard) = inl refl
change-quits m refused value l (InFree TakeOff) = inl refl
change-quits m refused value l (InMoveSet ChooseFront move) = inl refl
change-quits m refused value l (InMoveSet PutTail move) = inl refl
change-quits m refused value l (InTrim ScanNode) = scan-quits m value l (node_of value l)
change-quits m refused value l (InTrim DropScanned) = inl refl
change-quits m refused value l (InChecked DoChecked kind) = do-quits m value l kind (slabs_of m value l)
change-quits m refused value l (InChecked MoveRun kind) = move-quits m value l kind (pool_in (value pool_lock))
change-quits m true value l (InChecked AddSlab kind) = inr refl
change-quits m false value l (InChecked AddSlab kind) = inr refl
change-quits m refused value l s = inl refl
