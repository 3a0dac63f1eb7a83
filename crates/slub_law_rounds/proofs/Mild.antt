-- What a step does to what its worker knows, and which replies it gives; calls that take no step, and what is done at once
-- at other spots than those of checked caches.
use Rattle.std.proofs.Common.{◌≡◌, ℕ, ◌⊎◌, eqb, ◌+◌, Bool, true, false, not, ◌&&◌, if◌then◌else◌, Option, Some, None, List, [], ◌∷◌, length, set, refl, sym, arith, inl, inr}
use Rattle.std.specs.Prelude.{nat_lt}
use Rattle.std.proofs.lemmas.Bool.{cases_Bool, cases_eq, false≢true}
use Rattle.slub_trace.specs.declared.reply.Reply.{Reply}
use Rattle.slub_trace.specs.declared.reply.Reply.TheVariants as reply
use Rattle.slub_words.specs.declared.board.BoardWord.{BoardWord}
use Rattle.slub_words.specs.declared.cpu.CpuWord.{CpuWord}
use Rattle.slub_cpu_partial.specs.declared.words.ListWord.{ListWord}
use Rattle.slub_page_pool.specs.FreeFrames.{FreeFrames}
use Rattle.slub_object_layout.specs.declared.layout.Layout.{Layout}
use Rattle.slub_core.specs.declared.call.Call.{Call}
use Rattle.slub_core.specs.declared.call.CallKind.{CallKind}
use Rattle.slub_core.specs.declared.call.CallKind.TheVariants.{Alloc, Free, Write, Read, Poke, Trim, Flush}
use Rattle.slub_core.specs.declared.local.Answered.{Answered}
use Rattle.slub_core.specs.declared.local.FrameRun.{FrameRun}
use Rattle.slub_core.specs.declared.local.Known.{Known}
use Rattle.slub_core.specs.declared.local.PartialString.{PartialString}
use Rattle.slub_core.specs.declared.step.Answer.{Answer}
use Rattle.slub_core.specs.declared.step.Answer.TheVariants.{Word, Done, Won, Lost}
use Rattle.slub_core.specs.declared.spot.Spot.{Spot}
use Rattle.slub_core.specs.declared.spot.Spot.TheVariants.{InAlloc, InPutAway, InDiscard, InPutOnList, InFree, InMoveSet, InOffline, InTrim, WriteWord, ReadWord, InChecked}
use Rattle.slub_core.specs.declared.spot.Away.{Away}
use Rattle.slub_core.specs.declared.spot.Discard.{Discard}
use Rattle.slub_core.specs.declared.spot.PutOnList.{PutOnList}
use Rattle.slub_core.specs.declared.spot.MoveSet.{MoveSet}
use Rattle.slub_core.specs.declared.spot.Sweep.{Sweep}
use Rattle.slub_core.specs.declared.spot.MoveSet.TheVariants.{ForFree, ForOffline}
use Rattle.slub_core.specs.declared.spot.Sweep.TheVariants.{Trimming, Flushing}
use Rattle.slub_core.specs.declared.spot.AllocSpot.{AllocSpot}
use Rattle.slub_core.specs.declared.spot.AllocSpot.TheVariants.{LoadCpu, LoadNext, Pop, Detach, LoadTaken, TakeAll, MarkFull, TakeList, FollowFront, LoadKept, FreezeKept, LockNode, LoadPopped, FreezePopped, Unlist, GiveNode, LockPool, GivePool, GiveDry, LinkNew, Make, LoadReady, LoadAgain, DetachOther, Install, PopNode, TakeRun}
use Rattle.slub_core.specs.declared.spot.PutAwaySpot.{PutAwaySpot}
use Rattle.slub_core.specs.declared.spot.PutAwaySpot.TheVariants.{WalkChain, LockAway, LoadAway, LinkLast, Unfreeze, GiveAway, PutNode}
use Rattle.slub_core.specs.declared.spot.DiscardSpot.{DiscardSpot}
use Rattle.slub_core.specs.declared.spot.DiscardSpot.TheVariants.{Unmake, LockDiscard, GiveDiscard, PutRun}
use Rattle.slub_core.specs.declared.spot.PutOnListSpot.{PutOnListSpot}
use Rattle.slub_core.specs.declared.spot.PutOnListSpot.TheVariants.{LoadList, WalkString, LinkString, PushString}
use Rattle.slub_core.specs.declared.spot.FreeSpot.{FreeSpot}
use Rattle.slub_core.specs.declared.spot.FreeSpot.TheVariants.{TakeBoard, LoadOwn, LinkOwn, Push, LoadSlab, LinkSlab, FreeSlab, LockFree, LoadLocked, GoBack, LinkLocked, FreeLocked, GiveFree, LoadCount, TakeSet, TakeOff}
use Rattle.slub_core.specs.declared.spot.MoveSetSpot.{MoveSetSpot}
use Rattle.slub_core.specs.declared.spot.MoveSetSpot.TheVariants.{LockMove, FollowSet, LoadMoved, ListSlab, GiveMove, ChooseFront, PutTail}
use Rattle.slub_core.specs.declared.spot.OfflineSpot.{OfflineSpot}
use Rattle.slub_core.specs.declared.spot.OfflineSpot.TheVariants.{LoadCurrent, DetachCurrent, TakeCurrent}
use Rattle.slub_core.specs.declared.spot.TrimSpot.{TrimSpot}
use Rattle.slub_core.specs.declared.spot.TrimSpot.TheVariants.{LockTrim, LoadScanned, GiveTrim, ScanNode, DropScanned}
use Rattle.slub_core.specs.declared.spot.CheckedSpot.{CheckedSpot}
use Rattle.slub_core.specs.declared.spot.CheckedSpot.TheVariants.{LockChecked, LockRun, GiveRun, GiveChecked, DoChecked, MoveRun, AddSlab}
use Rattle.slub_core.specs.Setup.{Setup, node_lock, pool_lock}
use Rattle.slub_core.specs.Words.{cpu_in, board_in, list_in}
use Rattle.slub_core.specs.World.{World, LockValue, Node, Checked, Pool, update, pool_in}
use Rattle.slub_core.specs.Local.{Local, Turn, Change, at, with_hand, bare_hand, stays, here, hand_of}
use Rattle.slub_core.specs.Spots.{doing, of_sweep}
use Rattle.slub_core.specs.Alloc.{told_of_word, is_spent, found_run, run_taken, way_of_run, alloc_advance, pop_node, node_of, with_node, asks_for_another}
use Rattle.slub_core.specs.PutAway.{put_away_advance, has_enough, head_away, unfrozen}
use Rattle.slub_core.specs.Discard.{discard_advance}
use Rattle.slub_core.specs.PutOnList.{put_on_list_advance}
use Rattle.slub_core.specs.Free.{free_advance, board_taken, without, is_long, count_loaded, set_taken}
use Rattle.slub_core.specs.declared.spot.Discard.TheVariants.{FromFree}
use Rattle.slub_core.specs.Calls.{call_cache, call_word}
use Rattle.slub_core.specs.MoveSet.{move_set_advance, after_move, front_taken}
use Rattle.slub_core.specs.Offline.{offline_advance, trim_advance, scan_node, next_swept, list_swept}
use Rattle.slub_core.specs.Checked.{checked_advance, move_run, way_of_found}
use Rattle.slub_core.specs.Steps.{advance_at, at_once, told_of_use, told_of_alloc, told_of_trim, told_at_once, is_outside}
use Rattle.slub_core.proofs.Update.{update_other, update_at}
use Rattle.slub_law_rounds.specs.Contents.{TellsOfByte}

-- such a reply changes nothing of what a worker holds, or put anywhere, and tells nothing of bytes
abbrev pub MildReply : Option Reply → Type 0
MildReply (Some (reply.Given address)) = ⊥
MildReply (Some (reply.Freed address)) = ⊥
MildReply (Some (reply.Corrupt damage)) = ⊥
MildReply (Some reply.Wrote) = ⊥
MildReply (Some (reply.Value value)) = ⊥
MildReply (Some reply.Poked) = ⊥
MildReply _ = Unit {0}

pub tells-mild : (m : Setup) (opening : World) (dones : List (List Answered)) (own : List Answered) (call : Call) (r : Reply) → MildReply (Some r) → TellsOfByte m opening dones own call r
tells-mild m opening dones own call (reply.Corrupt damage) mild = absurd mild
tells-mild m opening dones own call (reply.Value v) mild = absurd mild
tells-mild m opening dones own call (reply.Given a) mild = tt
tells-mild m opening dones own call (reply.Freed a) mild = tt
tells-mild m opening dones own call reply.NoFrames mild = tt
tells-mild m opening dones own call reply.NoSuchCache mild = tt
tells-mild m opening dones own call reply.NoMemory mild = tt
tells-mild m opening dones own call (reply.IdsSpent t) mild = tt
tells-mild m opening dones own call reply.NotHeld mild = tt
tells-mild m opening dones own call reply.Wrote mild = tt
tells-mild m opening dones own call reply.OutOfObject mild = tt
tells-mild m opening dones own call reply.Poked mild = tt
tells-mild m opening dones own call reply.OutOfSlot mild = tt
tells-mild m opening dones own call reply.NotChecked mild = tt
tells-mild m opening dones own call (reply.Trimmed n) mild = tt
tells-mild m opening dones own call reply.Checked mild = tt
tells-mild m opening dones own call (reply.Flushed n) mild = tt

-- what a step at a spot does
pub data Stepped (l : Local) (s : Spot) (turn : Turn) : Type 0 where
  keeps : turn.local.known ≡ l.known → MildReply turn.reply → Stepped l s turn
  gives : (k : Known) (a : ℕ) → turn.local.known ≡ set l.known l.place k → k.object ≡ (here l).object → doing s ≡ Some Alloc → turn.reply ≡ Some (reply.Given a) → Stepped l s turn
  frees : (k : Known) (a : ℕ) → turn.local.known ≡ set l.known l.place k → k.object ≡ (here l).object → doing s ≡ Some Free → turn.reply ≡ Some (reply.Freed a) → Stepped l s turn
  takes : (k : Known) → turn.local.known ≡ set l.known l.place k → k.object ≡ (here l).object → s ≡ InFree TakeBoard → turn.reply ≡ None → Stepped l s turn
  writes : s ≡ WriteWord → turn.local.known ≡ l.known → turn.reply ≡ Some reply.Wrote → Stepped l s turn
  reads : (v : ℕ) → s ≡ ReadWord → turn.local.known ≡ l.known → turn.reply ≡ Some (reply.Value v) → Stepped l s turn

-- ---- ways

word-mild : (m : Setup) (fast : Bool) (c : CpuWord) → MildReply (told_of_word m fast c)
word-mild m fast c = by (is_spent m c && not fast)
  where
    by : (b : Bool) → MildReply (if b then Some (reply.IdsSpent c.tid) else None)
    by true = tt
    by false = tt

flush-mild : (m : Setup) (l : Local) → MildReply (next_swept m l Flushing).reply
flush-mild m l = by (nat_lt (l.turn + 1) (length m.plain))
  where
    by : (b : Bool) → MildReply (if b then None else Some (reply.Flushed l.count))
    by true = tt
    by false = tt

unfrozen-keeps : (m : Setup) (value : ℕ → LockValue) (l : Local) (away : Away) → (unfrozen m value l away).known ≡ l.known
unfrozen-keeps m value l away = elim (cases_Bool (eqb (head_away (hand_of l) l.slab_word) 0)) [ inl e ↦ rw e refl | inr e ↦ rw e refl ]

counted-keeps : (m : Setup) (l : Local) (list : ListWord) → (count_loaded m l list).known ≡ l.known
counted-keeps m l list = elim (cases_Bool (is_long m l list)) [ inl e ↦ rw e refl | inr e ↦ rw e refl ]

taken-keeps : (l : Local) (list : ListWord) → (set_taken l list).known ≡ l.known
taken-keeps l list = elim (cases_Bool (eqb list.count 0)) [ inl e ↦ rw e refl | inr e ↦ rw e refl ]

board-step : (m : Setup) (l : Local) (b : Option BoardWord) → Stepped l (InFree TakeBoard) (board_taken m l b)
board-step m l None = keeps refl tt
board-step m l (Some b) = takes _ refl refl refl refl

next-step : (m : Setup) (l : Local) (s : Spot) (sweep : Sweep) → doing s ≡ of_sweep sweep → Stepped l s (next_swept m l sweep)
next-step m l s Trimming at = keeps refl tt
next-step m l s Flushing at = keeps refl (flush-mild m l)

move-step : (m : Setup) (l : Local) (move : MoveSet) → Stepped l (InMoveSet GiveMove move) (after_move m l move)
move-step m l ForFree = keeps refl tt
move-step m l (ForOffline sweep) = next-step m l (InMoveSet GiveMove (ForOffline sweep)) sweep refl

swept-step : (m : Setup) (l : Local) (sweep : Sweep) (list : ListWord) → Stepped l (InOffline TakeCurrent sweep) (list_swept m l sweep list)
swept-step m l sweep list = elim (cases_Bool (eqb list.count 0)) [
  | inl e ↦ rw e (next-step m l (InOffline TakeCurrent sweep) sweep refl)
  | inr e ↦ rw e (keeps refl tt)
]

-- ---- steps, by path

alloc-step : (m : Setup) (l : Local) (s : AllocSpot) (a : Answer) → Stepped l (InAlloc s) (alloc_advance m l s a)
alloc-step m l LoadCpu (Word x) = keeps refl (word-mild m l.fast (cpu_in x))
alloc-step m l LoadNext (Word x) = keeps refl tt
alloc-step m l Pop Won = gives _ _ refl refl refl refl
alloc-step m l Pop (Lost x) = keeps refl tt
alloc-step m l Detach Won = keeps refl tt
alloc-step m l Detach (Lost x) = keeps refl tt
alloc-step m l LoadTaken (Word x) = keeps refl tt
alloc-step m l TakeAll Won = keeps refl tt
alloc-step m l TakeAll (Lost x) = keeps refl tt
alloc-step m l MarkFull Won = keeps refl tt
alloc-step m l MarkFull (Lost x) = keeps refl tt
alloc-step m l TakeList (Word x) = keeps refl tt
alloc-step m l FollowFront (Word x) = keeps refl tt
alloc-step m l LoadKept (Word x) = keeps refl tt
alloc-step m l FreezeKept Won = keeps refl tt
alloc-step m l FreezeKept (Lost x) = keeps refl tt
alloc-step m l LockNode Won = keeps refl tt
alloc-step m l LoadPopped (Word x) = keeps refl tt
alloc-step m l FreezePopped Won = keeps refl tt
alloc-step m l FreezePopped (Lost x) = keeps refl tt
alloc-step m l Unlist Won = keeps refl tt
alloc-step m l Unlist (Lost x) = keeps refl tt
alloc-step m l GiveNode Done = keeps refl tt
alloc-step m l LockPool Won = keeps refl tt
alloc-step m l GivePool Done = keeps refl tt
alloc-step m l GiveDry Done = keeps refl tt
alloc-step m l (LinkNew i) Done = keeps refl tt
alloc-step m l Make Done = keeps refl tt
alloc-step m l LoadReady (Word x) = keeps refl tt
alloc-step m l LoadAgain (Word x) = keeps refl (word-mild m false (cpu_in x))
alloc-step m l DetachOther Won = keeps refl tt
alloc-step m l DetachOther (Lost x) = keeps refl tt
alloc-step m l Install Won = gives _ _ refl refl refl refl
alloc-step m l Install (Lost x) = keeps refl tt
alloc-step m l s a = keeps refl tt

put_away-step : (m : Setup) (value : ℕ → LockValue) (l : Local) (s : PutAwaySpot) (away : Away) (a : Answer) → Stepped l (InPutAway s away) (put_away_advance m value l s away a)
put_away-step m value l WalkChain away (Word x) = keeps refl tt
put_away-step m value l LockAway away Won = keeps refl tt
put_away-step m value l LoadAway away (Word x) = keeps refl tt
put_away-step m value l LinkLast away Done = keeps refl tt
put_away-step m value l Unfreeze away Won = keeps (unfrozen-keeps m value l away) tt
put_away-step m value l Unfreeze away (Lost x) = keeps refl tt
put_away-step m value l GiveAway away Done = keeps refl tt
put_away-step m value l s away a = keeps refl tt

discard-step : (m : Setup) (l : Local) (s : DiscardSpot) (discard : Discard) (a : Answer) → Stepped l (InDiscard s discard) (discard_advance m l s discard a)
discard-step m l Unmake discard Done = keeps refl tt
discard-step m l LockDiscard discard Won = keeps refl tt
discard-step m l GiveDiscard discard Done = keeps refl tt
discard-step m l s discard a = keeps refl tt

put_on_list-step : (l : Local) (s : PutOnListSpot) (put : PutOnList) (a : Answer) → Stepped l (InPutOnList s put) (put_on_list_advance l s put a)
put_on_list-step l LoadList put (Word x) = keeps refl tt
put_on_list-step l WalkString put (Word x) = keeps refl tt
put_on_list-step l LinkString put Done = keeps refl tt
put_on_list-step l PushString put Won = keeps refl tt
put_on_list-step l PushString put (Lost x) = keeps refl tt
put_on_list-step l s put a = keeps refl tt

free-step : (m : Setup) (l : Local) (s : FreeSpot) (a : Answer) → Stepped l (InFree s) (free_advance m l s a)
free-step m l TakeBoard (Word x) = board-step m l (board_in x)
free-step m l LoadOwn (Word x) = keeps refl tt
free-step m l LinkOwn Done = keeps refl tt
free-step m l Push Won = frees _ _ refl refl refl refl
free-step m l Push (Lost x) = keeps refl tt
free-step m l LoadSlab (Word x) = keeps refl tt
free-step m l LinkSlab Done = keeps refl tt
free-step m l FreeSlab Won = frees _ _ refl refl refl refl
free-step m l FreeSlab (Lost x) = keeps refl tt
free-step m l LockFree Won = keeps refl tt
free-step m l LoadLocked (Word x) = keeps refl tt
free-step m l GoBack Done = keeps refl tt
free-step m l LinkLocked Done = keeps refl tt
free-step m l FreeLocked Won = frees _ _ refl refl refl refl
free-step m l FreeLocked (Lost x) = keeps refl tt
free-step m l GiveFree Done = keeps refl tt
free-step m l LoadCount (Word x) = keeps (counted-keeps m l (list_in x)) tt
free-step m l TakeSet (Word x) = keeps (taken-keeps l (list_in x)) tt
free-step m l s a = keeps refl tt

move_set-step : (m : Setup) (value : ℕ → LockValue) (l : Local) (s : MoveSetSpot) (move : MoveSet) (a : Answer) → Stepped l (InMoveSet s move) (move_set_advance m value l s move a)
move_set-step m value l LockMove move Won = keeps refl tt
move_set-step m value l FollowSet move (Word x) = keeps refl tt
move_set-step m value l LoadMoved move (Word x) = keeps refl tt
move_set-step m value l ListSlab move Won = keeps refl tt
move_set-step m value l ListSlab move (Lost x) = keeps refl tt
move_set-step m value l GiveMove move Done = move-step m l move
move_set-step m value l s move a = keeps refl tt

offline-step : (m : Setup) (l : Local) (s : OfflineSpot) (sweep : Sweep) (a : Answer) → Stepped l (InOffline s sweep) (offline_advance m l s sweep a)
offline-step m l LoadCurrent sweep (Word x) = keeps refl tt
offline-step m l DetachCurrent sweep Won = keeps refl tt
offline-step m l DetachCurrent sweep (Lost x) = keeps refl tt
offline-step m l TakeCurrent sweep (Word x) = swept-step m l sweep (list_in x)
offline-step m l s sweep a = keeps refl tt

trim-step : (l : Local) (s : TrimSpot) (a : Answer) → Stepped l (InTrim s) (trim_advance l s a)
trim-step l LockTrim Won = keeps refl tt
trim-step l LoadScanned (Word x) = keeps refl tt
trim-step l GiveTrim Done = keeps refl tt
trim-step l s a = keeps refl tt

checked-step : (l : Local) (s : CheckedSpot) (kind : CallKind) (a : Answer) → Stepped l (InChecked s kind) (checked_advance l s kind a)
checked-step l LockChecked kind Won = keeps refl tt
checked-step l LockRun kind Won = keeps refl tt
checked-step l GiveRun kind Done = keeps refl tt
checked-step l GiveChecked kind Done = keeps refl tt
checked-step l s kind a = keeps refl tt

pub turn-step : (m : Setup) (value : ℕ → LockValue) (l : Local) (s : Spot) (a : Answer) → Stepped l s (advance_at m value l s a)
turn-step m value l (InAlloc s) a = alloc-step m l s a
turn-step m value l (InPutAway s away) a = put_away-step m value l s away a
turn-step m value l (InDiscard s discard) a = discard-step m l s discard a
turn-step m value l (InPutOnList s put) a = put_on_list-step l s put a
turn-step m value l (InFree s) a = free-step m l s a
turn-step m value l (InMoveSet s move) a = move_set-step m value l s move a
turn-step m value l (InOffline s sweep) a = offline-step m l s sweep a
turn-step m value l (InTrim s) a = trim-step l s a
turn-step m value l WriteWord Done = writes refl refl refl
turn-step m value l ReadWord (Word x) = reads x refl refl refl
turn-step m value l (InChecked s kind) a = checked-step l s kind a
turn-step m value l s a = keeps refl tt

-- ---- replies that take no step

use-mild : (m : Setup) (known : Known) (call : Call) → MildReply (told_of_use m known (call_word call))
use-mild m known call = by (not known.held) (is_outside (m.layout known.cache) (call_word call))
  where
    by : (a b : Bool) → MildReply (if a then Some reply.NotHeld else if b then Some reply.OutOfObject else None)
    by true b = tt
    by false true = tt
    by false false = tt

pub rest-mild : (m : Setup) (known : Known) (call : Call) (kind : CallKind) → MildReply (told_at_once m known call kind)
rest-mild m known call Alloc = by (call_cache call)
  where
    by : (cache : Option ℕ) → MildReply (told_of_alloc cache)
    by None = tt
    by (Some cache) = tt
rest-mild m known call Free = tt
rest-mild m known call Write = use-mild m known call
rest-mild m known call Read = use-mild m known call
rest-mild m known call Poke = by (eqb known.frame 0) (not (m.checks known.cache))
  where
    by : (a b : Bool) → MildReply (if a then Some reply.NotHeld else if b then Some reply.NotChecked else None)
    by true b = tt
    by false true = tt
    by false false = tt
rest-mild m known call Trim = by (call_cache call)
  where
    checked : (b : Bool) → MildReply (if b then Some reply.Checked else None)
    checked true = tt
    checked false = tt

    by : (cache : Option ℕ) → MildReply (told_of_trim m cache)
    by None = tt
    by (Some cache) = checked (m.checks cache)
rest-mild m known call Flush = by (eqb (length m.plain) 0)
  where
    by : (b : Bool) → MildReply (if b then Some (reply.Flushed 0) else None)
    by true = tt
    by false = tt

-- ---- what is done at once

-- it has no checked slabs
abbrev pub IsOther : LockValue → Type 0
IsOther (Checked slabs) = ⊥
IsOther _ = Unit {0}

-- what guards the slabs of a checked cache afterwards did so before
abbrev pub Spares : (ℕ → LockValue) → (ℕ → LockValue) → Type 0
Spares value after = (cache : ℕ) → (after (node_lock cache) ≡ value (node_lock cache)) ⊎ IsOther (after (node_lock cache))

spares-node : (value : ℕ → LockValue) (n : ℕ) (frames : List ℕ) → Spares value (update value n (Node frames))
spares-node value n frames cache = elim (cases_eq (node_lock cache) n) [
  | inl e ↦ inr (rw (update_at value n (Node frames) (node_lock cache) e) tt)
  | inr d ↦ inl (update_other value n (Node frames) (node_lock cache) d)
]

spares-pool : (value : ℕ → LockValue) (pool : FreeFrames) → Spares value (update value pool_lock (Pool pool))
spares-pool value pool cache = inl (update_other value pool_lock (Pool pool) (node_lock cache) (λ e. absurd (omega arith)))

abbrev pub Milder : (ℕ → LockValue) → Local → Change → Type 0
Milder value l c = Spares value c.value × MildReply c.reply × (c.local.known ≡ l.known)

quiet : (value : ℕ → LockValue) (l n : Local) → n.known ≡ l.known → Milder value l (stays value n)
quiet value l n same = (λ cache. inl refl, tt, same)

node : (value : ℕ → LockValue) (l n : Local) (frames : List ℕ) → n.known ≡ l.known → Milder value l (stays (with_node value l frames) n)
node value l n frames same = (spares-node value (node_lock l.cache) frames, tt, same)

pop-milder : (m : Setup) (value : ℕ → LockValue) (l : Local) (frames : List ℕ) → Milder value l (pop_node m value l frames)
pop-milder m value l [] = quiet value l (at l (InAlloc GiveNode)) refl
pop-milder m value l (frame ∷ frames) = by (asks_for_another m l)
  where
    by : (b : Bool) → Milder value l (if b then stays (with_node value l frames) (at (with_hand l (bare_hand frame)) (InAlloc LoadPopped)) else stays value (at l (InAlloc GiveNode)))
    by true = node value l (at (with_hand l (bare_hand frame)) (InAlloc LoadPopped)) frames refl
    by false = quiet value l (at l (InAlloc GiveNode)) refl

run-milder : (value : ℕ → LockValue) (pool : FreeFrames) (layout : Layout) (l n : Local) (run : Option FrameRun) → n.known ≡ l.known → Milder value l (run_taken value pool layout n run)
run-milder value pool layout l n None same = (spares-pool value _, tt, same)
run-milder value pool layout l n (Some run) same = (spares-pool value _, tt, same)

scan-milder : (m : Setup) (value : ℕ → LockValue) (l : Local) (frames : List ℕ) → Milder value l (scan_node m value l frames)
scan-milder m value l frames = by (nat_lt (length l.scanned) (length frames))
  where
    by : (b : Bool) → Milder value l (if b then stays value (at l (InTrim LoadScanned)) else stays (with_node value l (m.means.promote frames l.scanned)) (at l (InTrim GiveTrim)))
    by true = quiet value l (at l (InTrim LoadScanned)) refl
    by false = node value l (at l (InTrim GiveTrim)) (m.means.promote frames l.scanned) refl

off-known : (l a b : Local) → a.known ≡ l.known → b.known ≡ l.known → (c : Bool) → (if c then a else b).known ≡ l.known
off-known l a b x y true = x
off-known l a b x y false = y

off-milder : (value : ℕ → LockValue) (l n : Local) (frames : List ℕ) (b : Bool) → n.known ≡ l.known → Milder value l (record { value = (if b then with_node value l frames else value); local = n; reply = None })
off-milder value l n frames true same = node value l n frames same
off-milder value l n frames false same = quiet value l n same

pub move-milder : (m : Setup) (value : ℕ → LockValue) (l : Local) (kind : CallKind) (pool : FreeFrames) → Milder value l (move_run m value l kind pool)
move-milder m value l Alloc pool = let found = found_run m pool (m.layout l.cache) in run-milder value pool (m.layout l.cache) l (at l (way_of_found found)) found refl
move-milder m value l kind pool = (spares-pool value _, tt, refl)

-- the spots at which slabs of a checked cache change
abbrev pub is_doing : Spot → Bool
is_doing (InChecked DoChecked kind) = true
is_doing (InChecked AddSlab kind) = true
is_doing _ = false

front-known : (l : Local) (move : MoveSet) (string : Option PartialString) → (front_taken l move string).known ≡ l.known
front-known l move None = refl
front-known l move (Some string) = elim (cases_Bool (eqb string.count 1)) [ inl e ↦ rw e refl | inr e ↦ rw e refl ]

pub once-milder : (m : Setup) (refused : Bool) (value : ℕ → LockValue) (l : Local) (s : Spot) → is_doing s ≡ false → Milder value l (at_once m refused value l s)
once-milder m refused value l (InAlloc PopNode) is = pop-milder m value l (node_of value l)
once-milder m refused value l (InAlloc TakeRun) is =
    let pool = pool_in (value pool_lock) in let found = found_run m pool (m.layout l.cache) in run-milder value pool (m.layout l.cache) l (at l (way_of_run found)) found refl
once-milder m refused value l (InPutAway PutNode away) is = (spares-node value (node_lock l.cache) _, tt, refl)
once-milder m refused value l (InDiscard PutRun discard) is = (spares-pool value _, tt, refl)
once-milder m refused value l (InFree TakeOff) is = off-milder value l (if has_enough m value l then at (with_hand l (bare_hand (here l).frame)) (InDiscard Unmake FromFree) else at l (InFree GiveFree)) (without (node_of value l) (here l).frame) (has_enough m value l) (off-known l (at (with_hand l (bare_hand (here l).frame)) (InDiscard Unmake FromFree)) (at l (InFree GiveFree)) refl refl (has_enough m value l))
once-milder m refused value l (InMoveSet ChooseFront move) is = (λ cache. inl refl, tt, front-known l move l.string)
once-milder m refused value l (InMoveSet PutTail move) is = (spares-node value (node_lock l.cache) _, tt, refl)
once-milder m refused value l (InTrim ScanNode) is = scan-milder m value l (node_of value l)
once-milder m refused value l (InTrim DropScanned) is = (spares-node value (node_lock l.cache) _, tt, refl)
once-milder m refused value l (InChecked DoChecked kind) is = absurd (false≢true (sym is))
once-milder m refused value l (InChecked MoveRun kind) is = move-milder m value l kind (pool_in (value pool_lock))
once-milder m refused value l (InChecked AddSlab kind) is = absurd (false≢true (sym is))
once-milder m refused value l s is = (λ cache. inl refl, tt, refl)
