-- A step or a change at once leaves a worker's calls as they are, and a reply is to the call that it is in.
use Rattle.std.proofs.Common.{◌≡◌, ℕ, ◌⊎◌, ◌==◌, Bool, true, false, Option, Some, None, List, [], ◌∷◌, length, refl, inl, inr}
use Rattle.std.specs.Prelude.{nat_lt, IsSome}
use Rattle.std.proofs.lemmas.Bool.{cases_Bool}
use Rattle.slub_trace.specs.declared.reply.Reply.{Reply}
use Rattle.slub_words.specs.declared.board.BoardWord.{BoardWord}
use Rattle.slub_cpu_partial.specs.declared.words.ListWord.{ListWord}
use Rattle.slub_page_pool.specs.FreeFrames.{FreeFrames}
use Rattle.slub_object_layout.specs.declared.layout.Layout.{Layout}
use Rattle.slub_red_zone.specs.State.{CheckedState}
use Rattle.slub_red_zone.specs.declared.checked.CheckedGive.{CheckedGive}
use Rattle.slub_red_zone.specs.declared.checked.CheckedGive.TheVariants as give
use Rattle.slub_trace.specs.declared.damage.Damage.{Damage}
use Rattle.slub_red_zone.specs.Steps.{damage_of_used}
use Rattle.slub_core.specs.declared.call.CallKind.{CallKind}
use Rattle.slub_core.specs.declared.call.CallKind.TheVariants.{Alloc, Free, Write, Read, Poke}
use Rattle.slub_core.specs.declared.local.FrameRun.{FrameRun}
use Rattle.slub_core.specs.declared.local.PartialString.{PartialString}
use Rattle.slub_core.specs.declared.step.Answer.{Answer}
use Rattle.slub_core.specs.declared.step.Answer.TheVariants.{Word, Done, Won, Lost}
use Rattle.slub_core.specs.declared.spot.Spot.{Spot}
use Rattle.slub_core.specs.declared.spot.Spot.TheVariants.{InAlloc, InPutAway, InDiscard, InPutOnList, InFree, InMoveSet, InOffline, InTrim, WriteWord, ReadWord, InChecked}
use Rattle.slub_core.specs.declared.spot.Away.{Away}
use Rattle.slub_core.specs.declared.spot.Discard.{Discard}
use Rattle.slub_core.specs.declared.spot.PutOnList.{PutOnList}
use Rattle.slub_core.specs.declared.spot.MoveSet.{MoveSet}
use Rattle.slub_core.specs.declared.spot.Sweep.{Sweep}
use Rattle.slub_core.specs.declared.spot.MoveSet.TheVariants.{ForFree, ForOffline}
use Rattle.slub_core.specs.declared.spot.Sweep.TheVariants.{Trimming, Flushing}
use Rattle.slub_core.specs.declared.spot.AllocSpot.{AllocSpot}
use Rattle.slub_core.specs.declared.spot.AllocSpot.TheVariants.{LoadCpu, LoadNext, Pop, Detach, LoadTaken, TakeAll, MarkFull, TakeList, FollowFront, LoadKept, FreezeKept, LockNode, LoadPopped, FreezePopped, Unlist, GiveNode, LockPool, GivePool, GiveDry, LinkNew, Make, LoadReady, LoadAgain, DetachOther, Install, PopNode, TakeRun}
use Rattle.slub_core.specs.declared.spot.PutAwaySpot.{PutAwaySpot}
use Rattle.slub_core.specs.declared.spot.PutAwaySpot.TheVariants.{WalkChain, LockAway, LoadAway, LinkLast, Unfreeze, GiveAway, PutNode}
use Rattle.slub_core.specs.declared.spot.DiscardSpot.{DiscardSpot}
use Rattle.slub_core.specs.declared.spot.DiscardSpot.TheVariants.{Unmake, LockDiscard, GiveDiscard, PutRun}
use Rattle.slub_core.specs.declared.spot.PutOnListSpot.{PutOnListSpot}
use Rattle.slub_core.specs.declared.spot.PutOnListSpot.TheVariants.{LoadList, WalkString, LinkString, PushString}
use Rattle.slub_core.specs.declared.spot.FreeSpot.{FreeSpot}
use Rattle.slub_core.specs.declared.spot.FreeSpot.TheVariants.{TakeBoard, LoadOwn, LinkOwn, Push, LoadSlab, LinkSlab, FreeSlab, LockFree, LoadLocked, GoBack, LinkLocked, FreeLocked, GiveFree, LoadCount, TakeSet, TakeOff}
use Rattle.slub_core.specs.declared.spot.MoveSetSpot.{MoveSetSpot}
use Rattle.slub_core.specs.declared.spot.MoveSetSpot.TheVariants.{LockMove, FollowSet, LoadMoved, ListSlab, GiveMove, ChooseFront, PutTail}
use Rattle.slub_core.specs.declared.spot.OfflineSpot.{OfflineSpot}
use Rattle.slub_core.specs.declared.spot.OfflineSpot.TheVariants.{LoadCurrent, DetachCurrent, TakeCurrent}
use Rattle.slub_core.specs.declared.spot.TrimSpot.{TrimSpot}
use Rattle.slub_core.specs.declared.spot.TrimSpot.TheVariants.{LockTrim, LoadScanned, GiveTrim, ScanNode, DropScanned}
use Rattle.slub_core.specs.declared.spot.CheckedSpot.{CheckedSpot}
use Rattle.slub_core.specs.declared.spot.CheckedSpot.TheVariants.{LockChecked, LockRun, GiveRun, GiveChecked, DoChecked, MoveRun, AddSlab}
use Rattle.slub_core.specs.Setup.{Setup, pool_lock}
use Rattle.slub_core.specs.Words.{board_in, list_in}
use Rattle.slub_core.specs.World.{LockValue, pool_in}
use Rattle.slub_core.specs.Local.{Local, Turn, Change, hand_of, at}
use Rattle.slub_core.specs.Alloc.{way_of_run, found_run, run_taken, alloc_advance, pop_node, node_of, asks_for_another}
use Rattle.slub_core.specs.PutAway.{put_away_advance, has_enough, head_away, unfrozen}
use Rattle.slub_core.specs.Discard.{discard_advance}
use Rattle.slub_core.specs.PutOnList.{put_on_list_advance}
use Rattle.slub_core.specs.Free.{free_advance, board_taken, is_long, count_loaded, set_taken}
use Rattle.slub_core.specs.MoveSet.{front_taken, move_set_advance, after_move}
use Rattle.slub_core.specs.Offline.{offline_advance, trim_advance, scan_node, next_swept, list_swept}
use Rattle.slub_core.specs.Checked.{checked_advance, do_checked, gave, took_back, move_run, way_of_found, slabs_of, slot_of}
use Rattle.slub_core.specs.Spots.{doing, of_sweep}
use Rattle.slub_core.specs.Steps.{advance_at, at_once}

-- the calls and the replies stay, and a reply is there only in a call that has none yet
abbrev pub Leaves : Local → Spot → Local → Option Reply → Type 0
Leaves l s n r = (n.todo ≡ l.todo) × (n.done ≡ l.done) × ((r ≡ None) ⊎ IsSome (doing s))

abbrev pub Says : Local → Spot → Turn → Type 0
Says l s turn = Leaves l s turn.local turn.reply

abbrev pub Changes : Local → Spot → Change → Type 0
Changes l s c = Leaves l s c.local c.reply

-- ---- ways

unfrozen-keeps : (m : Setup) (value : ℕ → LockValue) (l : Local) (away : Away) → ((unfrozen m value l away).todo ≡ l.todo) × ((unfrozen m value l away).done ≡ l.done)
unfrozen-keeps m value l away = elim (cases_Bool (head_away (hand_of l) l.slab_word == 0)) [ inl e ↦ rw e (refl, refl) | inr e ↦ rw e (refl, refl) ]

counted-keeps : (m : Setup) (l : Local) (list : ListWord) → ((count_loaded m l list).todo ≡ l.todo) × ((count_loaded m l list).done ≡ l.done)
counted-keeps m l list = elim (cases_Bool (is_long m l list)) [ inl e ↦ rw e (refl, refl) | inr e ↦ rw e (refl, refl) ]

taken-keeps : (l : Local) (list : ListWord) → ((set_taken l list).todo ≡ l.todo) × ((set_taken l list).done ≡ l.done)
taken-keeps l list = elim (cases_Bool (list.count == 0)) [ inl e ↦ rw e (refl, refl) | inr e ↦ rw e (refl, refl) ]

board-says : (m : Setup) (l : Local) (b : Option BoardWord) → Says l (InFree TakeBoard) (board_taken m l b)
board-says m l None = (refl, refl, inr refl)
board-says m l (Some b) = (refl, refl, inl refl)

next-says : (m : Setup) (l : Local) (s : Spot) (sweep : Sweep) → doing s ≡ of_sweep sweep → Says l s (next_swept m l sweep)
next-says m l s Trimming at = (refl, refl, inl refl)
next-says m l s Flushing at = (refl, refl, inr (rw at refl))

move-says : (m : Setup) (l : Local) (move : MoveSet) → Says l (InMoveSet GiveMove move) (after_move m l move)
move-says m l ForFree = (refl, refl, inl refl)
move-says m l (ForOffline sweep) = next-says m l (InMoveSet GiveMove (ForOffline sweep)) sweep refl

swept-says : (m : Setup) (l : Local) (sweep : Sweep) (list : ListWord) → Says l (InOffline TakeCurrent sweep) (list_swept m l sweep list)
swept-says m l sweep list = elim (cases_Bool (list.count == 0)) [
  | inl e ↦ rw e (next-says m l (InOffline TakeCurrent sweep) sweep refl)
  | inr e ↦ rw e (refl, refl, inl refl)
]

-- ---- steps, by path

alloc-says : (m : Setup) (l : Local) (s : AllocSpot) (a : Answer) → Says l (InAlloc s) (alloc_advance m l s a)
alloc-says m l LoadCpu (Word x) = (refl, refl, inr refl)
alloc-says m l LoadNext (Word x) = (refl, refl, inl refl)
alloc-says m l Pop Won = (refl, refl, inr refl)
alloc-says m l Pop (Lost x) = (refl, refl, inl refl)
alloc-says m l Detach Won = (refl, refl, inl refl)
alloc-says m l Detach (Lost x) = (refl, refl, inl refl)
alloc-says m l LoadTaken (Word x) = (refl, refl, inl refl)
alloc-says m l TakeAll Won = (refl, refl, inl refl)
alloc-says m l TakeAll (Lost x) = (refl, refl, inl refl)
alloc-says m l MarkFull Won = (refl, refl, inl refl)
alloc-says m l MarkFull (Lost x) = (refl, refl, inl refl)
alloc-says m l TakeList (Word x) = (refl, refl, inl refl)
alloc-says m l FollowFront (Word x) = (refl, refl, inl refl)
alloc-says m l LoadKept (Word x) = (refl, refl, inl refl)
alloc-says m l FreezeKept Won = (refl, refl, inl refl)
alloc-says m l FreezeKept (Lost x) = (refl, refl, inl refl)
alloc-says m l LockNode Won = (refl, refl, inl refl)
alloc-says m l LoadPopped (Word x) = (refl, refl, inl refl)
alloc-says m l FreezePopped Won = (refl, refl, inl refl)
alloc-says m l FreezePopped (Lost x) = (refl, refl, inl refl)
alloc-says m l Unlist Won = (refl, refl, inl refl)
alloc-says m l Unlist (Lost x) = (refl, refl, inl refl)
alloc-says m l GiveNode Done = (refl, refl, inl refl)
alloc-says m l LockPool Won = (refl, refl, inl refl)
alloc-says m l GivePool Done = (refl, refl, inl refl)
alloc-says m l GiveDry Done = (refl, refl, inl refl)
alloc-says m l (LinkNew i) Done = (refl, refl, inl refl)
alloc-says m l Make Done = (refl, refl, inl refl)
alloc-says m l LoadReady (Word x) = (refl, refl, inl refl)
alloc-says m l LoadAgain (Word x) = (refl, refl, inr refl)
alloc-says m l DetachOther Won = (refl, refl, inl refl)
alloc-says m l DetachOther (Lost x) = (refl, refl, inl refl)
alloc-says m l Install Won = (refl, refl, inr refl)
alloc-says m l Install (Lost x) = (refl, refl, inl refl)
alloc-says m l s a = (refl, refl, inl refl)

put_away-says : (m : Setup) (value : ℕ → LockValue) (l : Local) (s : PutAwaySpot) (away : Away) (a : Answer) → Says l (InPutAway s away) (put_away_advance m value l s away a)
put_away-says m value l WalkChain away (Word x) = (refl, refl, inl refl)
put_away-says m value l LockAway away Won = (refl, refl, inl refl)
put_away-says m value l LoadAway away (Word x) = (refl, refl, inl refl)
put_away-says m value l LinkLast away Done = (refl, refl, inl refl)
put_away-says m value l Unfreeze away Won = let k = unfrozen-keeps m value l away in (k.0, k.1, inl refl)
put_away-says m value l Unfreeze away (Lost x) = (refl, refl, inl refl)
put_away-says m value l GiveAway away Done = (refl, refl, inl refl)
put_away-says m value l s away a = (refl, refl, inl refl)

discard-says : (m : Setup) (l : Local) (s : DiscardSpot) (discard : Discard) (a : Answer) → Says l (InDiscard s discard) (discard_advance m l s discard a)
discard-says m l Unmake discard Done = (refl, refl, inl refl)
discard-says m l LockDiscard discard Won = (refl, refl, inl refl)
discard-says m l GiveDiscard discard Done = (refl, refl, inl refl)
discard-says m l s discard a = (refl, refl, inl refl)

put_on_list-says : (l : Local) (s : PutOnListSpot) (put : PutOnList) (a : Answer) → Says l (InPutOnList s put) (put_on_list_advance l s put a)
put_on_list-says l LoadList put (Word x) = (refl, refl, inl refl)
put_on_list-says l WalkString put (Word x) = (refl, refl, inl refl)
put_on_list-says l LinkString put Done = (refl, refl, inl refl)
put_on_list-says l PushString put Won = (refl, refl, inl refl)
put_on_list-says l PushString put (Lost x) = (refl, refl, inl refl)
put_on_list-says l s put a = (refl, refl, inl refl)

free-says : (m : Setup) (l : Local) (s : FreeSpot) (a : Answer) → Says l (InFree s) (free_advance m l s a)
free-says m l TakeBoard (Word x) = board-says m l (board_in x)
free-says m l LoadOwn (Word x) = (refl, refl, inl refl)
free-says m l LinkOwn Done = (refl, refl, inl refl)
free-says m l Push Won = (refl, refl, inr refl)
free-says m l Push (Lost x) = (refl, refl, inl refl)
free-says m l LoadSlab (Word x) = (refl, refl, inl refl)
free-says m l LinkSlab Done = (refl, refl, inl refl)
free-says m l FreeSlab Won = (refl, refl, inr refl)
free-says m l FreeSlab (Lost x) = (refl, refl, inl refl)
free-says m l LockFree Won = (refl, refl, inl refl)
free-says m l LoadLocked (Word x) = (refl, refl, inl refl)
free-says m l GoBack Done = (refl, refl, inl refl)
free-says m l LinkLocked Done = (refl, refl, inl refl)
free-says m l FreeLocked Won = (refl, refl, inr refl)
free-says m l FreeLocked (Lost x) = (refl, refl, inl refl)
free-says m l GiveFree Done = (refl, refl, inl refl)
free-says m l LoadCount (Word x) = let k = counted-keeps m l (list_in x) in (k.0, k.1, inl refl)
free-says m l TakeSet (Word x) = let k = taken-keeps l (list_in x) in (k.0, k.1, inl refl)
free-says m l s a = (refl, refl, inl refl)

move_set-says : (m : Setup) (value : ℕ → LockValue) (l : Local) (s : MoveSetSpot) (move : MoveSet) (a : Answer) → Says l (InMoveSet s move) (move_set_advance m value l s move a)
move_set-says m value l LockMove move Won = (refl, refl, inl refl)
move_set-says m value l FollowSet move (Word x) = (refl, refl, inl refl)
move_set-says m value l LoadMoved move (Word x) = (refl, refl, inl refl)
move_set-says m value l ListSlab move Won = (refl, refl, inl refl)
move_set-says m value l ListSlab move (Lost x) = (refl, refl, inl refl)
move_set-says m value l GiveMove move Done = move-says m l move
move_set-says m value l s move a = (refl, refl, inl refl)

offline-says : (m : Setup) (l : Local) (s : OfflineSpot) (sweep : Sweep) (a : Answer) → Says l (InOffline s sweep) (offline_advance m l s sweep a)
offline-says m l LoadCurrent sweep (Word x) = (refl, refl, inl refl)
offline-says m l DetachCurrent sweep Won = (refl, refl, inl refl)
offline-says m l DetachCurrent sweep (Lost x) = (refl, refl, inl refl)
offline-says m l TakeCurrent sweep (Word x) = swept-says m l sweep (list_in x)
offline-says m l s sweep a = (refl, refl, inl refl)

trim-says : (l : Local) (s : TrimSpot) (a : Answer) → Says l (InTrim s) (trim_advance l s a)
trim-says l LockTrim Won = (refl, refl, inl refl)
trim-says l LoadScanned (Word x) = (refl, refl, inl refl)
trim-says l GiveTrim Done = (refl, refl, inr refl)
trim-says l s a = (refl, refl, inl refl)

checked-says : (l : Local) (s : CheckedSpot) (kind : CallKind) (a : Answer) → Says l (InChecked s kind) (checked_advance l s kind a)
checked-says l LockChecked kind Won = (refl, refl, inl refl)
checked-says l LockRun kind Won = (refl, refl, inl refl)
checked-says l GiveRun kind Done = (refl, refl, inl refl)
checked-says l GiveChecked kind Done = (refl, refl, inl refl)
checked-says l s kind a = (refl, refl, inl refl)

pub turn-says : (m : Setup) (value : ℕ → LockValue) (l : Local) (s : Spot) (a : Answer) → Says l s (advance_at m value l s a)
turn-says m value l (InAlloc s) a = alloc-says m l s a
turn-says m value l (InPutAway s away) a = put_away-says m value l s away a
turn-says m value l (InDiscard s discard) a = discard-says m l s discard a
turn-says m value l (InPutOnList s put) a = put_on_list-says l s put a
turn-says m value l (InFree s) a = free-says m l s a
turn-says m value l (InMoveSet s move) a = move_set-says m value l s move a
turn-says m value l (InOffline s sweep) a = offline-says m l s sweep a
turn-says m value l (InTrim s) a = trim-says l s a
turn-says m value l WriteWord Done = (refl, refl, inr refl)
turn-says m value l ReadWord (Word x) = (refl, refl, inr refl)
turn-says m value l (InChecked s kind) a = checked-says l s kind a
turn-says m value l s a = (refl, refl, inl refl)

-- ---- changes at once

pop-leaves : (m : Setup) (value : ℕ → LockValue) (l : Local) (frames : List ℕ) → Changes l (InAlloc PopNode) (pop_node m value l frames)
pop-leaves m value l [] = (refl, refl, inl refl)
pop-leaves m value l (frame ∷ frames) = elim (cases_Bool (asks_for_another m l)) [ inl e ↦ rw e (refl, refl, inl refl) | inr e ↦ rw e (refl, refl, inl refl) ]

run-leaves : (value : ℕ → LockValue) (pool : FreeFrames) (layout : Layout) (l n : Local) (s : Spot) (run : Option FrameRun) → IsSome (doing s) → n.todo ≡ l.todo → n.done ≡ l.done → Changes l s (run_taken value pool layout n run)
run-leaves value pool layout l n s None at todo done = (todo, done, inr at)
run-leaves value pool layout l n s (Some run) at todo done = (todo, done, inl refl)

scan-leaves : (m : Setup) (value : ℕ → LockValue) (l : Local) (frames : List ℕ) → Changes l (InTrim ScanNode) (scan_node m value l frames)
scan-leaves m value l frames = elim (cases_Bool (nat_lt (length l.scanned) (length frames))) [
  | inl e ↦ rw e (refl, refl, inl refl)
  | inr e ↦ rw e (refl, refl, inl refl)
]

front-leaves : (l : Local) (move : MoveSet) (string : Option PartialString) → Leaves l (InMoveSet ChooseFront move) (front_taken l move string) None
front-leaves l move None = (refl, refl, inl refl)
front-leaves l move (Some string) = elim (cases_Bool (string.count == 1)) [ inl e ↦ rw e (refl, refl, inl refl) | inr e ↦ rw e (refl, refl, inl refl) ]

gave-leaves : (m : Setup) (value : ℕ → LockValue) (l : Local) (after : CheckedState) (g : CheckedGive) → Changes l (InChecked DoChecked Alloc) (gave m value l after g)
gave-leaves m value l after (give.Given slot) = (refl, refl, inr refl)
gave-leaves m value l after give.Empty = (refl, refl, inl refl)

took-leaves : (m : Setup) (value : ℕ → LockValue) (l : Local) (s : CheckedState) (d : Option Damage) → Changes l (InChecked DoChecked Free) (took_back m value l s d)
took-leaves m value l s None = (refl, refl, inr refl)
took-leaves m value l s (Some damage) = (refl, refl, inr refl)

do-leaves : (m : Setup) (value : ℕ → LockValue) (l : Local) (kind : CallKind) (s : CheckedState) → Changes l (InChecked DoChecked kind) (do_checked m value l kind s)
do-leaves m value l Alloc s = gave-leaves m value l (m.means.give s) (m.means.gave s)
do-leaves m value l Free s = took-leaves m value l s (damage_of_used s (slot_of l))
do-leaves m value l Write s = (refl, refl, inr refl)
do-leaves m value l Read s = (refl, refl, inr refl)
do-leaves m value l Poke s = (refl, refl, inr refl)
do-leaves m value l kind s = (refl, refl, inl refl)

move-leaves : (m : Setup) (value : ℕ → LockValue) (l : Local) (kind : CallKind) (pool : FreeFrames) → Changes l (InChecked MoveRun kind) (move_run m value l kind pool)
move-leaves m value l Alloc pool =
    let found = found_run m pool (m.layout l.cache) in run-leaves value pool (m.layout l.cache) l (at l (way_of_found found)) (InChecked MoveRun Alloc) found refl refl refl
move-leaves m value l kind pool = (refl, refl, inl refl)

pub change-leaves : (m : Setup) (refused : Bool) (value : ℕ → LockValue) (l : Local) (s : Spot) → Changes l s (at_once m refused value l s)
change-leaves m refused value l (InAlloc PopNode) = pop-leaves m value l (node_of value l)
change-leaves m refused value l (InAlloc TakeRun) =
    let pool = pool_in (value pool_lock) in
    let found = found_run m pool (m.layout l.cache) in run-leaves value pool (m.layout l.cache) l (at l (way_of_run found)) (InAlloc TakeRun) found refl refl refl
change-leaves m refused value l (InPutAway PutNode away) = (refl, refl, inl refl)
change-leaves m refused value l (InDiscard PutRun discard) = (refl, refl, inl refl)
change-leaves m refused value l (InFree TakeOff) = elim (cases_Bool (has_enough m value l)) [ inl e ↦ rw e (refl, refl, inl refl) | inr e ↦ rw e (refl, refl, inl refl) ]
change-leaves m refused value l (InMoveSet ChooseFront move) = front-leaves l move l.string
change-leaves m refused value l (InMoveSet PutTail move) = (refl, refl, inl refl)
change-leaves m refused value l (InTrim ScanNode) = scan-leaves m value l (node_of value l)
change-leaves m refused value l (InTrim DropScanned) = (refl, refl, inl refl)
change-leaves m refused value l (InChecked DoChecked kind) = do-leaves m value l kind (slabs_of m value l)
change-leaves m refused value l (InChecked MoveRun kind) = move-leaves m value l kind (pool_in (value pool_lock))
change-leaves m true value l (InChecked AddSlab kind) = (refl, refl, inr refl)
change-leaves m false value l (InChecked AddSlab kind) = (refl, refl, inr refl)
change-leaves m refused value l s = (refl, refl, inl refl)
