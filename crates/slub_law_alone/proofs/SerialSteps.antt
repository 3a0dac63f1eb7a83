-- A step or a change at once leaves a worker its number, and the numbers of the objects that it knows.
use Rattle.std.proofs.Common.{◌≡◌, ℕ, zero, suc, ◌-◌, ◌==◌, Bool, true, false, Option, Some, None, List, [], ◌∷◌, length, map, get_or, set, refl, ap, inl, inr}
use Rattle.std.specs.Prelude.{nat_lt}
use Rattle.std.proofs.lemmas.Bool.{cases_Bool}
use Rattle.slub_words.specs.declared.board.BoardWord.{BoardWord}
use Rattle.slub_cpu_partial.specs.declared.words.ListWord.{ListWord}
use Rattle.slub_page_pool.specs.FreeFrames.{FreeFrames}
use Rattle.slub_object_layout.specs.declared.layout.Layout.{Layout}
use Rattle.slub_red_zone.specs.State.{CheckedState}
use Rattle.slub_red_zone.specs.declared.checked.CheckedGive.{CheckedGive}
use Rattle.slub_red_zone.specs.declared.checked.CheckedGive.TheVariants as give
use Rattle.slub_trace.specs.declared.damage.Damage.{Damage}
use Rattle.slub_red_zone.specs.Steps.{damage_of_used}
use Rattle.slub_core.specs.declared.call.CallKind.{CallKind}
use Rattle.slub_core.specs.declared.call.CallKind.TheVariants.{Alloc, Free, Write, Read, Poke}
use Rattle.slub_core.specs.declared.local.FrameRun.{FrameRun}
use Rattle.slub_core.specs.declared.local.PartialString.{PartialString}
use Rattle.slub_core.specs.declared.step.Answer.{Answer}
use Rattle.slub_core.specs.declared.step.Answer.TheVariants.{Word, Done, Won, Lost}
use Rattle.slub_core.specs.declared.spot.Spot.{Spot}
use Rattle.slub_core.specs.declared.spot.Spot.TheVariants.{InAlloc, InPutAway, InDiscard, InPutOnList, InFree, InMoveSet, InOffline, InTrim, WriteWord, ReadWord, InChecked}
use Rattle.slub_core.specs.declared.spot.Away.{Away}
use Rattle.slub_core.specs.declared.spot.Discard.{Discard}
use Rattle.slub_core.specs.declared.spot.PutOnList.{PutOnList}
use Rattle.slub_core.specs.declared.spot.MoveSet.{MoveSet}
use Rattle.slub_core.specs.declared.spot.Sweep.{Sweep}
use Rattle.slub_core.specs.declared.spot.MoveSet.TheVariants.{ForFree, ForOffline}
use Rattle.slub_core.specs.declared.spot.Sweep.TheVariants.{Trimming, Flushing}
use Rattle.slub_core.specs.declared.spot.AllocSpot.{AllocSpot}
use Rattle.slub_core.specs.declared.spot.AllocSpot.TheVariants.{LoadCpu, LoadNext, Pop, Detach, LoadTaken, TakeAll, MarkFull, TakeList, FollowFront, LoadKept, FreezeKept, LockNode, LoadPopped, FreezePopped, Unlist, GiveNode, LockPool, GivePool, GiveDry, LinkNew, Make, LoadReady, LoadAgain, DetachOther, Install, PopNode, TakeRun}
use Rattle.slub_core.specs.declared.spot.PutAwaySpot.{PutAwaySpot}
use Rattle.slub_core.specs.declared.spot.PutAwaySpot.TheVariants.{WalkChain, LockAway, LoadAway, LinkLast, Unfreeze, GiveAway, PutNode}
use Rattle.slub_core.specs.declared.spot.DiscardSpot.{DiscardSpot}
use Rattle.slub_core.specs.declared.spot.DiscardSpot.TheVariants.{Unmake, LockDiscard, GiveDiscard, PutRun}
use Rattle.slub_core.specs.declared.spot.PutOnListSpot.{PutOnListSpot}
use Rattle.slub_core.specs.declared.spot.PutOnListSpot.TheVariants.{LoadList, WalkString, LinkString, PushString}
use Rattle.slub_core.specs.declared.spot.FreeSpot.{FreeSpot}
use Rattle.slub_core.specs.declared.spot.FreeSpot.TheVariants.{TakeBoard, LoadOwn, LinkOwn, Push, LoadSlab, LinkSlab, FreeSlab, LockFree, LoadLocked, GoBack, LinkLocked, FreeLocked, GiveFree, LoadCount, TakeSet, TakeOff}
use Rattle.slub_core.specs.declared.spot.MoveSetSpot.{MoveSetSpot}
use Rattle.slub_core.specs.declared.spot.MoveSetSpot.TheVariants.{LockMove, FollowSet, LoadMoved, ListSlab, GiveMove, ChooseFront, PutTail}
use Rattle.slub_core.specs.declared.spot.OfflineSpot.{OfflineSpot}
use Rattle.slub_core.specs.declared.spot.OfflineSpot.TheVariants.{LoadCurrent, DetachCurrent, TakeCurrent}
use Rattle.slub_core.specs.declared.spot.TrimSpot.{TrimSpot}
use Rattle.slub_core.specs.declared.spot.TrimSpot.TheVariants.{LockTrim, LoadScanned, GiveTrim, ScanNode, DropScanned}
use Rattle.slub_core.specs.declared.spot.CheckedSpot.{CheckedSpot}
use Rattle.slub_core.specs.declared.spot.CheckedSpot.TheVariants.{LockChecked, LockRun, GiveRun, GiveChecked, DoChecked, MoveRun, AddSlab}
use Rattle.slub_core.specs.Setup.{Setup, pool_lock}
use Rattle.slub_core.specs.Words.{board_in, list_in}
use Rattle.slub_core.specs.World.{LockValue, pool_in}
use Rattle.slub_core.specs.declared.local.Known.{Known}
use Rattle.slub_core.specs.Local.{Local, Turn, Change, nobody, here, hand_of, run_of, at}
use Rattle.slub_core.specs.Alloc.{way_of_run, found_run, run_taken, alloc_advance, pop_node, node_of, asks_for_another}
use Rattle.slub_core.specs.PutAway.{put_away_advance, has_enough, head_away, unfrozen}
use Rattle.slub_core.specs.Discard.{discard_advance}
use Rattle.slub_core.specs.PutOnList.{put_on_list_advance}
use Rattle.slub_core.specs.Free.{free_advance, board_taken, is_long, count_loaded, set_taken}
use Rattle.slub_core.specs.MoveSet.{front_taken, move_set_advance, after_move}
use Rattle.slub_core.specs.Offline.{offline_advance, trim_advance, scan_node, next_swept, list_swept}
use Rattle.slub_core.specs.Checked.{checked_advance, do_checked, gave, took_back, move_run, way_of_found, slabs_of, slot_of}
use Rattle.slub_core.specs.Steps.{advance_at, at_once}

-- the numbers of the objects that a worker knows, by place
abbrev pub rooms_of : Local → List ℕ
rooms_of l = map (λ (k : Known). k.object) l.known

-- the number stays, and the numbers of the objects
abbrev pub Keeps : Local → Local → Type 0
Keeps l n = (n.worker ≡ l.worker) × (rooms_of n ≡ rooms_of l)

abbrev pub Says : Local → Turn → Type 0
Says l turn = Keeps l turn.local

abbrev pub Changes : Local → Change → Type 0
Changes l c = Keeps l c.local

-- what is known of an object is known under the same number
set-rooms : (ks : List Known) (p : ℕ) (k : Known) → k.object ≡ (get_or ks p nobody).object → map (λ (k : Known). k.object) (set ks p k) ≡ map (λ (k : Known). k.object) ks
set-rooms [] p k same = refl
set-rooms (x ∷ ks) zero k same = ap (λ o. o ∷ map (λ (k : Known). k.object) ks) same
set-rooms (x ∷ ks) (suc p) k same = ap (λ os. x.object ∷ os) (set-rooms ks p k same)

-- the worker knows something else of the object of its call
here-keeps : (l : Local) (cache frame index : ℕ) (held : Bool) → map (λ (k : Known). k.object) (set l.known l.place (record { object = (here l).object; frame = frame; index = index; cache = cache; held = held })) ≡ rooms_of l
here-keeps l cache frame index held = set-rooms l.known l.place (record { object = (here l).object; frame = frame; index = index; cache = cache; held = held }) refl

-- ---- ways

unfrozen-keeps : (m : Setup) (value : ℕ → LockValue) (l : Local) (away : Away) → Keeps l (unfrozen m value l away)
unfrozen-keeps m value l away = elim (cases_Bool (head_away (hand_of l) l.slab_word == 0)) [ inl e ↦ rw e (refl, refl) | inr e ↦ rw e (refl, refl) ]

counted-keeps : (m : Setup) (l : Local) (list : ListWord) → Keeps l (count_loaded m l list)
counted-keeps m l list = elim (cases_Bool (is_long m l list)) [ inl e ↦ rw e (refl, refl) | inr e ↦ rw e (refl, refl) ]

taken-keeps : (l : Local) (list : ListWord) → Keeps l (set_taken l list)
taken-keeps l list = elim (cases_Bool (list.count == 0)) [ inl e ↦ rw e (refl, refl) | inr e ↦ rw e (refl, refl) ]

board-says : (m : Setup) (l : Local) (b : Option BoardWord) → Says l (board_taken m l b)
board-says m l None = (refl, refl)
board-says m l (Some b) = (refl, here-keeps l b.cache b.frame b.index true)

next-says : (m : Setup) (l : Local) (sweep : Sweep) → Says l (next_swept m l sweep)
next-says m l Trimming = (refl, refl)
next-says m l Flushing = (refl, refl)

move-says : (m : Setup) (l : Local) (move : MoveSet) → Says l (after_move m l move)
move-says m l ForFree = (refl, refl)
move-says m l (ForOffline sweep) = next-says m l sweep

swept-says : (m : Setup) (l : Local) (sweep : Sweep) (list : ListWord) → Says l (list_swept m l sweep list)
swept-says m l sweep list = elim (cases_Bool (list.count == 0)) [
  | inl e ↦ rw e (next-says m l sweep)
  | inr e ↦ rw e (refl, refl)
]

-- ---- steps, by path

alloc-says : (m : Setup) (l : Local) (s : AllocSpot) (a : Answer) → Says l (alloc_advance m l s a)
alloc-says m l LoadCpu (Word x) = (refl, refl)
alloc-says m l LoadNext (Word x) = (refl, refl)
alloc-says m l Pop Won = (refl, here-keeps l l.cache l.cpu_word.frame (l.cpu_word.head - 1) true)
alloc-says m l Pop (Lost x) = (refl, refl)
alloc-says m l Detach Won = (refl, refl)
alloc-says m l Detach (Lost x) = (refl, refl)
alloc-says m l LoadTaken (Word x) = (refl, refl)
alloc-says m l TakeAll Won = (refl, refl)
alloc-says m l TakeAll (Lost x) = (refl, refl)
alloc-says m l MarkFull Won = (refl, refl)
alloc-says m l MarkFull (Lost x) = (refl, refl)
alloc-says m l TakeList (Word x) = (refl, refl)
alloc-says m l FollowFront (Word x) = (refl, refl)
alloc-says m l LoadKept (Word x) = (refl, refl)
alloc-says m l FreezeKept Won = (refl, refl)
alloc-says m l FreezeKept (Lost x) = (refl, refl)
alloc-says m l LockNode Won = (refl, refl)
alloc-says m l LoadPopped (Word x) = (refl, refl)
alloc-says m l FreezePopped Won = (refl, refl)
alloc-says m l FreezePopped (Lost x) = (refl, refl)
alloc-says m l Unlist Won = (refl, refl)
alloc-says m l Unlist (Lost x) = (refl, refl)
alloc-says m l GiveNode Done = (refl, refl)
alloc-says m l LockPool Won = (refl, refl)
alloc-says m l GivePool Done = (refl, refl)
alloc-says m l GiveDry Done = (refl, refl)
alloc-says m l (LinkNew i) Done = (refl, refl)
alloc-says m l Make Done = (refl, refl)
alloc-says m l LoadReady (Word x) = (refl, refl)
alloc-says m l LoadAgain (Word x) = (refl, refl)
alloc-says m l DetachOther Won = (refl, refl)
alloc-says m l DetachOther (Lost x) = (refl, refl)
alloc-says m l Install Won = (refl, here-keeps l l.cache (hand_of l).frame ((hand_of l).head - 1) true)
alloc-says m l Install (Lost x) = (refl, refl)
alloc-says m l s a = (refl, refl)

put_away-says : (m : Setup) (value : ℕ → LockValue) (l : Local) (s : PutAwaySpot) (away : Away) (a : Answer) → Says l (put_away_advance m value l s away a)
put_away-says m value l WalkChain away (Word x) = (refl, refl)
put_away-says m value l LockAway away Won = (refl, refl)
put_away-says m value l LoadAway away (Word x) = (refl, refl)
put_away-says m value l LinkLast away Done = (refl, refl)
put_away-says m value l Unfreeze away Won = unfrozen-keeps m value l away
put_away-says m value l Unfreeze away (Lost x) = (refl, refl)
put_away-says m value l GiveAway away Done = (refl, refl)
put_away-says m value l s away a = (refl, refl)

discard-says : (m : Setup) (l : Local) (s : DiscardSpot) (discard : Discard) (a : Answer) → Says l (discard_advance m l s discard a)
discard-says m l Unmake discard Done = (refl, refl)
discard-says m l LockDiscard discard Won = (refl, refl)
discard-says m l GiveDiscard discard Done = (refl, refl)
discard-says m l s discard a = (refl, refl)

put_on_list-says : (l : Local) (s : PutOnListSpot) (put : PutOnList) (a : Answer) → Says l (put_on_list_advance l s put a)
put_on_list-says l LoadList put (Word x) = (refl, refl)
put_on_list-says l WalkString put (Word x) = (refl, refl)
put_on_list-says l LinkString put Done = (refl, refl)
put_on_list-says l PushString put Won = (refl, refl)
put_on_list-says l PushString put (Lost x) = (refl, refl)
put_on_list-says l s put a = (refl, refl)

free-says : (m : Setup) (l : Local) (s : FreeSpot) (a : Answer) → Says l (free_advance m l s a)
free-says m l TakeBoard (Word x) = board-says m l (board_in x)
free-says m l LoadOwn (Word x) = (refl, refl)
free-says m l LinkOwn Done = (refl, refl)
free-says m l Push Won = (refl, here-keeps l (here l).cache (here l).frame (here l).index false)
free-says m l Push (Lost x) = (refl, refl)
free-says m l LoadSlab (Word x) = (refl, refl)
free-says m l LinkSlab Done = (refl, refl)
free-says m l FreeSlab Won = (refl, here-keeps l (here l).cache (here l).frame (here l).index false)
free-says m l FreeSlab (Lost x) = (refl, refl)
free-says m l LockFree Won = (refl, refl)
free-says m l LoadLocked (Word x) = (refl, refl)
free-says m l GoBack Done = (refl, refl)
free-says m l LinkLocked Done = (refl, refl)
free-says m l FreeLocked Won = (refl, here-keeps l (here l).cache (here l).frame (here l).index false)
free-says m l FreeLocked (Lost x) = (refl, refl)
free-says m l GiveFree Done = (refl, refl)
free-says m l LoadCount (Word x) = counted-keeps m l (list_in x)
free-says m l TakeSet (Word x) = taken-keeps l (list_in x)
free-says m l s a = (refl, refl)

move_set-says : (m : Setup) (value : ℕ → LockValue) (l : Local) (s : MoveSetSpot) (move : MoveSet) (a : Answer) → Says l (move_set_advance m value l s move a)
move_set-says m value l LockMove move Won = (refl, refl)
move_set-says m value l FollowSet move (Word x) = (refl, refl)
move_set-says m value l LoadMoved move (Word x) = (refl, refl)
move_set-says m value l ListSlab move Won = (refl, refl)
move_set-says m value l ListSlab move (Lost x) = (refl, refl)
move_set-says m value l GiveMove move Done = move-says m l move
move_set-says m value l s move a = (refl, refl)

offline-says : (m : Setup) (l : Local) (s : OfflineSpot) (sweep : Sweep) (a : Answer) → Says l (offline_advance m l s sweep a)
offline-says m l LoadCurrent sweep (Word x) = (refl, refl)
offline-says m l DetachCurrent sweep Won = (refl, refl)
offline-says m l DetachCurrent sweep (Lost x) = (refl, refl)
offline-says m l TakeCurrent sweep (Word x) = swept-says m l sweep (list_in x)
offline-says m l s sweep a = (refl, refl)

trim-says : (l : Local) (s : TrimSpot) (a : Answer) → Says l (trim_advance l s a)
trim-says l LockTrim Won = (refl, refl)
trim-says l LoadScanned (Word x) = (refl, refl)
trim-says l GiveTrim Done = (refl, refl)
trim-says l s a = (refl, refl)

checked-says : (l : Local) (s : CheckedSpot) (kind : CallKind) (a : Answer) → Says l (checked_advance l s kind a)
checked-says l LockChecked kind Won = (refl, refl)
checked-says l LockRun kind Won = (refl, refl)
checked-says l GiveRun kind Done = (refl, refl)
checked-says l GiveChecked kind Done = (refl, refl)
checked-says l s kind a = (refl, refl)

pub turn-says : (m : Setup) (value : ℕ → LockValue) (l : Local) (s : Spot) (a : Answer) → Says l (advance_at m value l s a)
turn-says m value l (InAlloc s) a = alloc-says m l s a
turn-says m value l (InPutAway s away) a = put_away-says m value l s away a
turn-says m value l (InDiscard s discard) a = discard-says m l s discard a
turn-says m value l (InPutOnList s put) a = put_on_list-says l s put a
turn-says m value l (InFree s) a = free-says m l s a
turn-says m value l (InMoveSet s move) a = move_set-says m value l s move a
turn-says m value l (InOffline s sweep) a = offline-says m l s sweep a
turn-says m value l (InTrim s) a = trim-says l s a
turn-says m value l WriteWord Done = (refl, refl)
turn-says m value l ReadWord (Word x) = (refl, refl)
turn-says m value l (InChecked s kind) a = checked-says l s kind a
turn-says m value l s a = (refl, refl)

-- ---- changes at once

pop-leaves : (m : Setup) (value : ℕ → LockValue) (l : Local) (frames : List ℕ) → Changes l (pop_node m value l frames)
pop-leaves m value l [] = (refl, refl)
pop-leaves m value l (frame ∷ frames) = elim (cases_Bool (asks_for_another m l)) [ inl e ↦ rw e (refl, refl) | inr e ↦ rw e (refl, refl) ]

run-leaves : (value : ℕ → LockValue) (pool : FreeFrames) (layout : Layout) (l n : Local) (run : Option FrameRun) → Keeps l n → Changes l (run_taken value pool layout n run)
run-leaves value pool layout l n None keeps = keeps
run-leaves value pool layout l n (Some run) keeps = keeps

scan-leaves : (m : Setup) (value : ℕ → LockValue) (l : Local) (frames : List ℕ) → Changes l (scan_node m value l frames)
scan-leaves m value l frames = elim (cases_Bool (nat_lt (length l.scanned) (length frames))) [
  | inl e ↦ rw e (refl, refl)
  | inr e ↦ rw e (refl, refl)
]

front-leaves : (l : Local) (move : MoveSet) (string : Option PartialString) → Keeps l (front_taken l move string)
front-leaves l move None = (refl, refl)
front-leaves l move (Some string) = elim (cases_Bool (string.count == 1)) [ inl e ↦ rw e (refl, refl) | inr e ↦ rw e (refl, refl) ]

gave-leaves : (m : Setup) (value : ℕ → LockValue) (l : Local) (after : CheckedState) (g : CheckedGive) → Changes l (gave m value l after g)
gave-leaves m value l after (give.Given slot) = (refl, here-keeps l l.cache slot.frame slot.index true)
gave-leaves m value l after give.Empty = (refl, refl)

took-leaves : (m : Setup) (value : ℕ → LockValue) (l : Local) (s : CheckedState) (d : Option Damage) → Changes l (took_back m value l s d)
took-leaves m value l s None = (refl, here-keeps l (here l).cache (here l).frame (here l).index false)
took-leaves m value l s (Some damage) = (refl, refl)

do-leaves : (m : Setup) (value : ℕ → LockValue) (l : Local) (kind : CallKind) (s : CheckedState) → Changes l (do_checked m value l kind s)
do-leaves m value l Alloc s = gave-leaves m value l (m.means.give s) (m.means.gave s)
do-leaves m value l Free s = took-leaves m value l s (damage_of_used s (slot_of l))
do-leaves m value l Write s = (refl, refl)
do-leaves m value l Read s = (refl, refl)
do-leaves m value l Poke s = (refl, refl)
do-leaves m value l kind s = (refl, refl)

move-leaves : (m : Setup) (value : ℕ → LockValue) (l : Local) (kind : CallKind) (pool : FreeFrames) → Changes l (move_run m value l kind pool)
move-leaves m value l Alloc pool =
    let found = found_run m pool (m.layout l.cache) in run-leaves value pool (m.layout l.cache) l (at l (way_of_found found)) found (refl, refl)
move-leaves m value l kind pool = (refl, refl)

pub change-leaves : (m : Setup) (refused : Bool) (value : ℕ → LockValue) (l : Local) (s : Spot) → Changes l (at_once m refused value l s)
change-leaves m refused value l (InAlloc PopNode) = pop-leaves m value l (node_of value l)
change-leaves m refused value l (InAlloc TakeRun) =
    let pool = pool_in (value pool_lock) in
    let found = found_run m pool (m.layout l.cache) in run-leaves value pool (m.layout l.cache) l (at l (way_of_run found)) found (refl, refl)
change-leaves m refused value l (InPutAway PutNode away) = (refl, refl)
change-leaves m refused value l (InDiscard PutRun discard) = (refl, refl)
change-leaves m refused value l (InFree TakeOff) = elim (cases_Bool (has_enough m value l)) [ inl e ↦ rw e (refl, refl) | inr e ↦ rw e (refl, refl) ]
change-leaves m refused value l (InMoveSet ChooseFront move) = front-leaves l move l.string
change-leaves m refused value l (InMoveSet PutTail move) = (refl, refl)
change-leaves m refused value l (InTrim ScanNode) = scan-leaves m value l (node_of value l)
change-leaves m refused value l (InTrim DropScanned) = (refl, refl)
change-leaves m refused value l (InChecked DoChecked kind) = do-leaves m value l kind (slabs_of m value l)
change-leaves m refused value l (InChecked MoveRun kind) = move-leaves m value l kind (pool_in (value pool_lock))
change-leaves m true value l (InChecked AddSlab kind) = (refl, refl)
change-leaves m false value l (InChecked AddSlab kind) = (refl, here-keeps l l.cache (run_of l).frame 0 true)
change-leaves m refused value l s = (refl, refl)
