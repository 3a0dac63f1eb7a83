-- A step or a change at once leaves a worker its number, and of what it knows it changes at most the object of its call.
use Rattle.std.proofs.Common.{◌≡◌, ℕ, ◌-◌, ◌⊎◌, ◌==◌, Bool, true, false, Option, Some, None, List, [], ◌∷◌, length, set, refl, inl, inr}
use Rattle.std.specs.Prelude.{nat_lt}
use Rattle.std.proofs.lemmas.Bool.{cases_Bool, false≢true}
use Rattle.slub_words.specs.declared.board.BoardWord.{BoardWord}
use Rattle.slub_cpu_partial.specs.declared.words.ListWord.{ListWord}
use Rattle.slub_page_pool.specs.FreeFrames.{FreeFrames}
use Rattle.slub_object_layout.specs.declared.layout.Layout.{Layout}
use Rattle.slub_red_zone.specs.State.{CheckedState}
use Rattle.slub_red_zone.specs.declared.checked.CheckedGive.{CheckedGive}
use Rattle.slub_red_zone.specs.declared.checked.CheckedGive.TheVariants as give
use Rattle.slub_trace.specs.declared.damage.Damage.{Damage}
use Rattle.slub_red_zone.specs.Steps.{damage_of_used}
use Rattle.slub_core.specs.declared.call.CallKind.{CallKind}
use Rattle.slub_core.specs.declared.call.CallKind.TheVariants.{Alloc, Free, Write, Read, Poke}
use Rattle.slub_core.specs.declared.local.FrameRun.{FrameRun}
use Rattle.slub_core.specs.declared.local.PartialString.{PartialString}
use Rattle.slub_core.specs.declared.step.Answer.{Answer}
use Rattle.slub_core.specs.declared.step.Answer.TheVariants.{Word, Done, Won, Lost}
use Rattle.slub_core.specs.declared.spot.Spot.{Spot}
use Rattle.slub_core.specs.declared.spot.Spot.TheVariants.{InAlloc, InPutAway, InDiscard, InPutOnList, InFree, InMoveSet, InOffline, InTrim, WriteWord, ReadWord, InChecked}
use Rattle.slub_core.specs.declared.spot.Away.{Away}
use Rattle.slub_core.specs.declared.spot.Discard.{Discard}
use Rattle.slub_core.specs.declared.spot.PutOnList.{PutOnList}
use Rattle.slub_core.specs.declared.spot.MoveSet.{MoveSet}
use Rattle.slub_core.specs.declared.spot.Sweep.{Sweep}
use Rattle.slub_core.specs.declared.spot.MoveSet.TheVariants.{ForFree, ForOffline}
use Rattle.slub_core.specs.declared.spot.Sweep.TheVariants.{Trimming, Flushing}
use Rattle.slub_core.specs.declared.spot.AllocSpot.{AllocSpot}
use Rattle.slub_core.specs.declared.spot.AllocSpot.TheVariants.{LoadCpu, LoadNext, Pop, Detach, LoadTaken, TakeAll, MarkFull, TakeList, FollowFront, LoadKept, FreezeKept, LockNode, LoadPopped, FreezePopped, Unlist, GiveNode, LockPool, GivePool, GiveDry, LinkNew, Make, LoadReady, LoadAgain, DetachOther, Install, PopNode, TakeRun}
use Rattle.slub_core.specs.declared.spot.PutAwaySpot.{PutAwaySpot}
use Rattle.slub_core.specs.declared.spot.PutAwaySpot.TheVariants.{WalkChain, LockAway, LoadAway, LinkLast, Unfreeze, GiveAway, PutNode}
use Rattle.slub_core.specs.declared.spot.DiscardSpot.{DiscardSpot}
use Rattle.slub_core.specs.declared.spot.DiscardSpot.TheVariants.{Unmake, LockDiscard, GiveDiscard, PutRun}
use Rattle.slub_core.specs.declared.spot.PutOnListSpot.{PutOnListSpot}
use Rattle.slub_core.specs.declared.spot.PutOnListSpot.TheVariants.{LoadList, WalkString, LinkString, PushString}
use Rattle.slub_core.specs.declared.spot.FreeSpot.{FreeSpot}
use Rattle.slub_core.specs.declared.spot.FreeSpot.TheVariants.{TakeBoard, LoadOwn, LinkOwn, Push, LoadSlab, LinkSlab, FreeSlab, LockFree, LoadLocked, GoBack, LinkLocked, FreeLocked, GiveFree, LoadCount, TakeSet, TakeOff}
use Rattle.slub_core.specs.declared.spot.MoveSetSpot.{MoveSetSpot}
use Rattle.slub_core.specs.declared.spot.MoveSetSpot.TheVariants.{LockMove, FollowSet, LoadMoved, ListSlab, GiveMove, ChooseFront, PutTail}
use Rattle.slub_core.specs.declared.spot.OfflineSpot.{OfflineSpot}
use Rattle.slub_core.specs.declared.spot.OfflineSpot.TheVariants.{LoadCurrent, DetachCurrent, TakeCurrent}
use Rattle.slub_core.specs.declared.spot.TrimSpot.{TrimSpot}
use Rattle.slub_core.specs.declared.spot.TrimSpot.TheVariants.{LockTrim, LoadScanned, GiveTrim, ScanNode, DropScanned}
use Rattle.slub_core.specs.declared.spot.CheckedSpot.{CheckedSpot}
use Rattle.slub_core.specs.declared.spot.CheckedSpot.TheVariants.{LockChecked, LockRun, GiveRun, GiveChecked, DoChecked, MoveRun, AddSlab}
use Rattle.slub_core.specs.Setup.{Setup, pool_lock}
use Rattle.slub_core.specs.Words.{board_in, list_in}
use Rattle.slub_core.specs.World.{LockValue, pool_in}
use Rattle.slub_core.specs.declared.local.Known.{Known}
use Rattle.slub_core.specs.Local.{Local, Turn, Change, here, hand_of, run_of, at, gets, loses}
use Rattle.slub_core.specs.Replies.{names_object}
use Rattle.slub_core.specs.Alloc.{way_of_run, found_run, run_taken, alloc_advance, pop_node, node_of, asks_for_another}
use Rattle.slub_core.specs.PutAway.{put_away_advance, has_enough, head_away, unfrozen}
use Rattle.slub_core.specs.Discard.{discard_advance}
use Rattle.slub_core.specs.PutOnList.{put_on_list_advance}
use Rattle.slub_core.specs.Free.{free_advance, board_taken, is_long, count_loaded, set_taken}
use Rattle.slub_core.specs.MoveSet.{front_taken, move_set_advance, after_move}
use Rattle.slub_core.specs.Offline.{offline_advance, trim_advance, scan_node, next_swept, list_swept}
use Rattle.slub_core.specs.Checked.{checked_advance, do_checked, gave, took_back, move_run, way_of_found, slabs_of, slot_of}
use Rattle.slub_core.specs.Spots.{doing, of_sweep}
use Rattle.slub_core.specs.Steps.{advance_at, at_once}

-- the worker is in a call of an object
abbrev pub IsOfObject : Spot → Type 0
IsOfObject s = (kind : CallKind) × (doing s ≡ Some kind) × (names_object kind ≡ true)

-- what it knows of the object of its call is set: where it holds it by then, it is under the same number
pub record SetsHere (l : Local) (s : Spot) (known : List Known) : Type 0 where
  pub mine : Known
  pub is_set : known ≡ set l.known l.place mine
  pub object : mine.held ≡ true → (mine.object ≡ (here l).object) × IsOfObject s

abbrev pub KeepsLocal : Local → Spot → Local → Type 0
KeepsLocal l s n = (n.worker ≡ l.worker) × ((n.known ≡ l.known) ⊎ SetsHere l s n.known)

abbrev pub Keeps : Local → Spot → Turn → Type 0
Keeps l s turn = KeepsLocal l s turn.local

abbrev pub KeepsOnce : Local → Spot → Change → Type 0
KeepsOnce l s c = KeepsLocal l s c.local

gets-sets : (l : Local) (s : Spot) (cache frame index : ℕ) → IsOfObject s → SetsHere l s (gets l cache frame index).known
gets-sets l s cache frame index of = record { mine = record { object = (here l).object; frame = frame; index = index; cache = cache; held = true }; is_set = refl; object = λ held. (refl, of) }

loses-sets : (l : Local) (s : Spot) → SetsHere l s (loses l).known
loses-sets l s = record { mine = record (here l) { held = false }; is_set = refl; object = λ held. absurd (false≢true held) }

-- ---- ways

unfrozen-keeps : (m : Setup) (value : ℕ → LockValue) (l : Local) (away : Away) → ((unfrozen m value l away).worker ≡ l.worker) × ((unfrozen m value l away).known ≡ l.known)
unfrozen-keeps m value l away = elim (cases_Bool (head_away (hand_of l) l.slab_word == 0)) [ inl e ↦ rw e (refl, refl) | inr e ↦ rw e (refl, refl) ]

counted-keeps : (m : Setup) (l : Local) (list : ListWord) → ((count_loaded m l list).worker ≡ l.worker) × ((count_loaded m l list).known ≡ l.known)
counted-keeps m l list = elim (cases_Bool (is_long m l list)) [ inl e ↦ rw e (refl, refl) | inr e ↦ rw e (refl, refl) ]

taken-keeps : (l : Local) (list : ListWord) → ((set_taken l list).worker ≡ l.worker) × ((set_taken l list).known ≡ l.known)
taken-keeps l list = elim (cases_Bool (list.count == 0)) [ inl e ↦ rw e (refl, refl) | inr e ↦ rw e (refl, refl) ]

board-keeps : (m : Setup) (l : Local) (b : Option BoardWord) → Keeps l (InFree TakeBoard) (board_taken m l b)
board-keeps m l None = (refl, inl refl)
board-keeps m l (Some b) = (refl, inr (gets-sets l (InFree TakeBoard) b.cache b.frame b.index (Free, refl, refl)))

next-keeps : (m : Setup) (l : Local) (s : Spot) (sweep : Sweep) → doing s ≡ of_sweep sweep → Keeps l s (next_swept m l sweep)
next-keeps m l s Trimming at = (refl, inl refl)
next-keeps m l s Flushing at = (refl, inl refl)

move-keeps : (m : Setup) (l : Local) (move : MoveSet) → Keeps l (InMoveSet GiveMove move) (after_move m l move)
move-keeps m l ForFree = (refl, inl refl)
move-keeps m l (ForOffline sweep) = next-keeps m l (InMoveSet GiveMove (ForOffline sweep)) sweep refl

swept-keeps : (m : Setup) (l : Local) (sweep : Sweep) (list : ListWord) → Keeps l (InOffline TakeCurrent sweep) (list_swept m l sweep list)
swept-keeps m l sweep list = elim (cases_Bool (list.count == 0)) [
  | inl e ↦ rw e (next-keeps m l (InOffline TakeCurrent sweep) sweep refl)
  | inr e ↦ rw e (refl, inl refl)
]

-- ---- steps, by path

alloc-keeps : (m : Setup) (l : Local) (s : AllocSpot) (a : Answer) → Keeps l (InAlloc s) (alloc_advance m l s a)
alloc-keeps m l LoadCpu (Word x) = (refl, inl refl)
alloc-keeps m l LoadNext (Word x) = (refl, inl refl)
alloc-keeps m l Pop Won = (refl, inr (gets-sets l (InAlloc Pop) l.cache l.cpu_word.frame (l.cpu_word.head - 1) (Alloc, refl, refl)))
alloc-keeps m l Pop (Lost x) = (refl, inl refl)
alloc-keeps m l Detach Won = (refl, inl refl)
alloc-keeps m l Detach (Lost x) = (refl, inl refl)
alloc-keeps m l LoadTaken (Word x) = (refl, inl refl)
alloc-keeps m l TakeAll Won = (refl, inl refl)
alloc-keeps m l TakeAll (Lost x) = (refl, inl refl)
alloc-keeps m l MarkFull Won = (refl, inl refl)
alloc-keeps m l MarkFull (Lost x) = (refl, inl refl)
alloc-keeps m l TakeList (Word x) = (refl, inl refl)
alloc-keeps m l FollowFront (Word x) = (refl, inl refl)
alloc-keeps m l LoadKept (Word x) = (refl, inl refl)
alloc-keeps m l FreezeKept Won = (refl, inl refl)
alloc-keeps m l FreezeKept (Lost x) = (refl, inl refl)
alloc-keeps m l LockNode Won = (refl, inl refl)
alloc-keeps m l LoadPopped (Word x) = (refl, inl refl)
alloc-keeps m l FreezePopped Won = (refl, inl refl)
alloc-keeps m l FreezePopped (Lost x) = (refl, inl refl)
alloc-keeps m l Unlist Won = (refl, inl refl)
alloc-keeps m l Unlist (Lost x) = (refl, inl refl)
alloc-keeps m l GiveNode Done = (refl, inl refl)
alloc-keeps m l LockPool Won = (refl, inl refl)
alloc-keeps m l GivePool Done = (refl, inl refl)
alloc-keeps m l GiveDry Done = (refl, inl refl)
alloc-keeps m l (LinkNew i) Done = (refl, inl refl)
alloc-keeps m l Make Done = (refl, inl refl)
alloc-keeps m l LoadReady (Word x) = (refl, inl refl)
alloc-keeps m l LoadAgain (Word x) = (refl, inl refl)
alloc-keeps m l DetachOther Won = (refl, inl refl)
alloc-keeps m l DetachOther (Lost x) = (refl, inl refl)
alloc-keeps m l Install Won = (refl, inr (gets-sets l (InAlloc Install) l.cache (hand_of l).frame ((hand_of l).head - 1) (Alloc, refl, refl)))
alloc-keeps m l Install (Lost x) = (refl, inl refl)
alloc-keeps m l s a = (refl, inl refl)

put_away-keeps : (m : Setup) (value : ℕ → LockValue) (l : Local) (s : PutAwaySpot) (away : Away) (a : Answer) → Keeps l (InPutAway s away) (put_away_advance m value l s away a)
put_away-keeps m value l WalkChain away (Word x) = (refl, inl refl)
put_away-keeps m value l LockAway away Won = (refl, inl refl)
put_away-keeps m value l LoadAway away (Word x) = (refl, inl refl)
put_away-keeps m value l LinkLast away Done = (refl, inl refl)
put_away-keeps m value l Unfreeze away Won = let k = unfrozen-keeps m value l away in (k.0, inl k.1)
put_away-keeps m value l Unfreeze away (Lost x) = (refl, inl refl)
put_away-keeps m value l GiveAway away Done = (refl, inl refl)
put_away-keeps m value l s away a = (refl, inl refl)

discard-keeps : (m : Setup) (l : Local) (s : DiscardSpot) (discard : Discard) (a : Answer) → Keeps l (InDiscard s discard) (discard_advance m l s discard a)
discard-keeps m l Unmake discard Done = (refl, inl refl)
discard-keeps m l LockDiscard discard Won = (refl, inl refl)
discard-keeps m l GiveDiscard discard Done = (refl, inl refl)
discard-keeps m l s discard a = (refl, inl refl)

put_on_list-keeps : (l : Local) (s : PutOnListSpot) (put : PutOnList) (a : Answer) → Keeps l (InPutOnList s put) (put_on_list_advance l s put a)
put_on_list-keeps l LoadList put (Word x) = (refl, inl refl)
put_on_list-keeps l WalkString put (Word x) = (refl, inl refl)
put_on_list-keeps l LinkString put Done = (refl, inl refl)
put_on_list-keeps l PushString put Won = (refl, inl refl)
put_on_list-keeps l PushString put (Lost x) = (refl, inl refl)
put_on_list-keeps l s put a = (refl, inl refl)

free-keeps : (m : Setup) (l : Local) (s : FreeSpot) (a : Answer) → Keeps l (InFree s) (free_advance m l s a)
free-keeps m l TakeBoard (Word x) = board-keeps m l (board_in x)
free-keeps m l LoadOwn (Word x) = (refl, inl refl)
free-keeps m l LinkOwn Done = (refl, inl refl)
free-keeps m l Push Won = (refl, inr (loses-sets l (InFree Push)))
free-keeps m l Push (Lost x) = (refl, inl refl)
free-keeps m l LoadSlab (Word x) = (refl, inl refl)
free-keeps m l LinkSlab Done = (refl, inl refl)
free-keeps m l FreeSlab Won = (refl, inr (loses-sets l (InFree FreeSlab)))
free-keeps m l FreeSlab (Lost x) = (refl, inl refl)
free-keeps m l LockFree Won = (refl, inl refl)
free-keeps m l LoadLocked (Word x) = (refl, inl refl)
free-keeps m l GoBack Done = (refl, inl refl)
free-keeps m l LinkLocked Done = (refl, inl refl)
free-keeps m l FreeLocked Won = (refl, inr (loses-sets l (InFree FreeLocked)))
free-keeps m l FreeLocked (Lost x) = (refl, inl refl)
free-keeps m l GiveFree Done = (refl, inl refl)
free-keeps m l LoadCount (Word x) = let k = counted-keeps m l (list_in x) in (k.0, inl k.1)
free-keeps m l TakeSet (Word x) = let k = taken-keeps l (list_in x) in (k.0, inl k.1)
free-keeps m l s a = (refl, inl refl)

move_set-keeps : (m : Setup) (value : ℕ → LockValue) (l : Local) (s : MoveSetSpot) (move : MoveSet) (a : Answer) → Keeps l (InMoveSet s move) (move_set_advance m value l s move a)
move_set-keeps m value l LockMove move Won = (refl, inl refl)
move_set-keeps m value l FollowSet move (Word x) = (refl, inl refl)
move_set-keeps m value l LoadMoved move (Word x) = (refl, inl refl)
move_set-keeps m value l ListSlab move Won = (refl, inl refl)
move_set-keeps m value l ListSlab move (Lost x) = (refl, inl refl)
move_set-keeps m value l GiveMove move Done = move-keeps m l move
move_set-keeps m value l s move a = (refl, inl refl)

offline-keeps : (m : Setup) (l : Local) (s : OfflineSpot) (sweep : Sweep) (a : Answer) → Keeps l (InOffline s sweep) (offline_advance m l s sweep a)
offline-keeps m l LoadCurrent sweep (Word x) = (refl, inl refl)
offline-keeps m l DetachCurrent sweep Won = (refl, inl refl)
offline-keeps m l DetachCurrent sweep (Lost x) = (refl, inl refl)
offline-keeps m l TakeCurrent sweep (Word x) = swept-keeps m l sweep (list_in x)
offline-keeps m l s sweep a = (refl, inl refl)

trim-keeps : (l : Local) (s : TrimSpot) (a : Answer) → Keeps l (InTrim s) (trim_advance l s a)
trim-keeps l LockTrim Won = (refl, inl refl)
trim-keeps l LoadScanned (Word x) = (refl, inl refl)
trim-keeps l GiveTrim Done = (refl, inl refl)
trim-keeps l s a = (refl, inl refl)

checked-keeps : (l : Local) (s : CheckedSpot) (kind : CallKind) (a : Answer) → Keeps l (InChecked s kind) (checked_advance l s kind a)
checked-keeps l LockChecked kind Won = (refl, inl refl)
checked-keeps l LockRun kind Won = (refl, inl refl)
checked-keeps l GiveRun kind Done = (refl, inl refl)
checked-keeps l GiveChecked kind Done = (refl, inl refl)
checked-keeps l s kind a = (refl, inl refl)

pub turn-keeps : (m : Setup) (value : ℕ → LockValue) (l : Local) (s : Spot) (a : Answer) → Keeps l s (advance_at m value l s a)
turn-keeps m value l (InAlloc s) a = alloc-keeps m l s a
turn-keeps m value l (InPutAway s away) a = put_away-keeps m value l s away a
turn-keeps m value l (InDiscard s discard) a = discard-keeps m l s discard a
turn-keeps m value l (InPutOnList s put) a = put_on_list-keeps l s put a
turn-keeps m value l (InFree s) a = free-keeps m l s a
turn-keeps m value l (InMoveSet s move) a = move_set-keeps m value l s move a
turn-keeps m value l (InOffline s sweep) a = offline-keeps m l s sweep a
turn-keeps m value l (InTrim s) a = trim-keeps l s a
turn-keeps m value l WriteWord Done = (refl, inl refl)
turn-keeps m value l ReadWord (Word x) = (refl, inl refl)
turn-keeps m value l (InChecked s kind) a = checked-keeps l s kind a
turn-keeps m value l s a = (refl, inl refl)

-- ---- changes at once

pop-keeps : (m : Setup) (value : ℕ → LockValue) (l : Local) (frames : List ℕ) → KeepsOnce l (InAlloc PopNode) (pop_node m value l frames)
pop-keeps m value l [] = (refl, inl refl)
pop-keeps m value l (frame ∷ frames) = elim (cases_Bool (asks_for_another m l)) [ inl e ↦ rw e (refl, inl refl) | inr e ↦ rw e (refl, inl refl) ]

run-keeps : (value : ℕ → LockValue) (pool : FreeFrames) (layout : Layout) (l n : Local) (s : Spot) (run : Option FrameRun) → n.worker ≡ l.worker → n.known ≡ l.known → KeepsOnce l s (run_taken value pool layout n run)
run-keeps value pool layout l n s None worker known = (worker, inl known)
run-keeps value pool layout l n s (Some run) worker known = (worker, inl known)

scan-keeps : (m : Setup) (value : ℕ → LockValue) (l : Local) (frames : List ℕ) → KeepsOnce l (InTrim ScanNode) (scan_node m value l frames)
scan-keeps m value l frames = elim (cases_Bool (nat_lt (length l.scanned) (length frames))) [
  | inl e ↦ rw e (refl, inl refl)
  | inr e ↦ rw e (refl, inl refl)
]

front-keeps : (l : Local) (move : MoveSet) (string : Option PartialString) → KeepsLocal l (InMoveSet ChooseFront move) (front_taken l move string)
front-keeps l move None = (refl, inl refl)
front-keeps l move (Some string) = elim (cases_Bool (string.count == 1)) [ inl e ↦ rw e (refl, inl refl) | inr e ↦ rw e (refl, inl refl) ]

gave-keeps : (m : Setup) (value : ℕ → LockValue) (l : Local) (after : CheckedState) (g : CheckedGive) → KeepsOnce l (InChecked DoChecked Alloc) (gave m value l after g)
gave-keeps m value l after (give.Given slot) = (refl, inr (gets-sets l (InChecked DoChecked Alloc) l.cache slot.frame slot.index (Alloc, refl, refl)))
gave-keeps m value l after give.Empty = (refl, inl refl)

took-keeps : (m : Setup) (value : ℕ → LockValue) (l : Local) (s : CheckedState) (d : Option Damage) → KeepsOnce l (InChecked DoChecked Free) (took_back m value l s d)
took-keeps m value l s None = (refl, inr (loses-sets l (InChecked DoChecked Free)))
took-keeps m value l s (Some damage) = (refl, inl refl)

do-keeps : (m : Setup) (value : ℕ → LockValue) (l : Local) (kind : CallKind) (s : CheckedState) → KeepsOnce l (InChecked DoChecked kind) (do_checked m value l kind s)
do-keeps m value l Alloc s = gave-keeps m value l (m.means.give s) (m.means.gave s)
do-keeps m value l Free s = took-keeps m value l s (damage_of_used s (slot_of l))
do-keeps m value l Write s = (refl, inl refl)
do-keeps m value l Read s = (refl, inl refl)
do-keeps m value l Poke s = (refl, inl refl)
do-keeps m value l kind s = (refl, inl refl)

run_moved-keeps : (m : Setup) (value : ℕ → LockValue) (l : Local) (kind : CallKind) (pool : FreeFrames) → KeepsOnce l (InChecked MoveRun kind) (move_run m value l kind pool)
run_moved-keeps m value l Alloc pool =
    let found = found_run m pool (m.layout l.cache) in run-keeps value pool (m.layout l.cache) l (at l (way_of_found found)) (InChecked MoveRun Alloc) found refl refl
run_moved-keeps m value l kind pool = (refl, inl refl)

pub once-keeps : (m : Setup) (refused : Bool) (value : ℕ → LockValue) (l : Local) (s : Spot) → KeepsOnce l s (at_once m refused value l s)
once-keeps m refused value l (InAlloc PopNode) = pop-keeps m value l (node_of value l)
once-keeps m refused value l (InAlloc TakeRun) =
    let pool = pool_in (value pool_lock) in
    let found = found_run m pool (m.layout l.cache) in run-keeps value pool (m.layout l.cache) l (at l (way_of_run found)) (InAlloc TakeRun) found refl refl
once-keeps m refused value l (InPutAway PutNode away) = (refl, inl refl)
once-keeps m refused value l (InDiscard PutRun discard) = (refl, inl refl)
once-keeps m refused value l (InFree TakeOff) = elim (cases_Bool (has_enough m value l)) [ inl e ↦ rw e (refl, inl refl) | inr e ↦ rw e (refl, inl refl) ]
once-keeps m refused value l (InMoveSet ChooseFront move) = front-keeps l move l.string
once-keeps m refused value l (InMoveSet PutTail move) = (refl, inl refl)
once-keeps m refused value l (InTrim ScanNode) = scan-keeps m value l (node_of value l)
once-keeps m refused value l (InTrim DropScanned) = (refl, inl refl)
once-keeps m refused value l (InChecked DoChecked kind) = do-keeps m value l kind (slabs_of m value l)
once-keeps m refused value l (InChecked MoveRun kind) = run_moved-keeps m value l kind (pool_in (value pool_lock))
once-keeps m true value l (InChecked AddSlab kind) = (refl, inl refl)
once-keeps m false value l (InChecked AddSlab kind) = (refl, inr (gets-sets l (InChecked AddSlab kind) l.cache (run_of l).frame 0 (Alloc, refl, refl)))
once-keeps m refused value l s = (refl, inl refl)
