-- No worker comes to a call under a checked cache's lock of a kind that isn't made there: where an answer leads, spot by spot.
use Rattle.std.proofs.Common.{◌≡◌, ℕ, ◌+◌, ◌-◌, ◌%◌, ◌^◌, Bool, true, false, not, ◌||◌, ◌==◌, if◌then◌else◌, length, Option, Some, None, refl}
use Rattle.std.specs.Prelude.{nat_lt}
use Rattle.slub_words.specs.declared.cpu.CpuWord.{CpuWord}
use Rattle.slub_words.specs.declared.board.BoardWord.{BoardWord}
use Rattle.slub_cpu_partial.specs.declared.words.ListWord.{ListWord}
use Rattle.slub_core.specs.declared.call.CallKind.{CallKind}
use Rattle.slub_core.specs.declared.call.CallKind.TheVariants.{Free}
use Rattle.slub_core.specs.declared.local.Hand.{Hand}
use Rattle.slub_core.specs.declared.local.PartialString.{PartialString}
use Rattle.slub_core.specs.declared.step.Answer.{Answer}
use Rattle.slub_core.specs.declared.step.Answer.TheVariants.{Word, Done, Won, Lost}
use Rattle.slub_core.specs.declared.spot.Spot.{Spot}
use Rattle.slub_core.specs.declared.spot.Spot.TheVariants.{Between, InAlloc, InPutAway, InDiscard, InPutOnList, InFree, InMoveSet, InOffline, InTrim, WriteWord, ReadWord, InChecked}
use Rattle.slub_core.specs.declared.spot.AllocSpot.{AllocSpot}
use Rattle.slub_core.specs.declared.spot.AllocSpot.TheVariants.{FreezeKept, GivePool, GiveDry, LoadCpu, LoadNext, Pop, Detach, LoadTaken, TakeAll, MarkFull, TakeList, FollowFront, LoadKept, LockNode, LoadPopped, FreezePopped, Unlist, GiveNode, LockPool, LinkNew, Make, LoadReady, LoadAgain, DetachOther, Install}
use Rattle.slub_core.specs.declared.spot.Away.{Away}
use Rattle.slub_core.specs.declared.spot.Away.TheVariants.{ForInstall, ForSpent, ForSweep}
use Rattle.slub_core.specs.declared.spot.PutAwaySpot.{PutAwaySpot}
use Rattle.slub_core.specs.declared.spot.PutAwaySpot.TheVariants.{WalkChain, LockAway, LoadAway, LinkLast, Unfreeze, PutNode, GiveAway}
use Rattle.slub_core.specs.declared.spot.Discard.{Discard}
use Rattle.slub_core.specs.declared.spot.Discard.TheVariants.{FromAway, FromFree, FromMove, FromTrim}
use Rattle.slub_core.specs.declared.spot.DiscardSpot.{DiscardSpot}
use Rattle.slub_core.specs.declared.spot.DiscardSpot.TheVariants.{LockDiscard, Unmake, GiveDiscard}
use Rattle.slub_core.specs.declared.spot.PutOnList.{PutOnList}
use Rattle.slub_core.specs.declared.spot.PutOnList.TheVariants.{OfRest, OfNode, OfFree}
use Rattle.slub_core.specs.declared.spot.PutOnListSpot.{PutOnListSpot}
use Rattle.slub_core.specs.declared.spot.PutOnListSpot.TheVariants.{LoadList, WalkString, LinkString, PushString}
use Rattle.slub_core.specs.declared.spot.FreeSpot.{FreeSpot}
use Rattle.slub_core.specs.declared.spot.FreeSpot.TheVariants.{Push, FreeLocked, GiveFree, TakeBoard, LoadOwn, LinkOwn, LoadSlab, LinkSlab, FreeSlab, LockFree, LoadLocked, GoBack, LinkLocked, LoadCount, TakeSet}
use Rattle.slub_core.specs.declared.spot.MoveSet.{MoveSet}
use Rattle.slub_core.specs.declared.spot.MoveSet.TheVariants.{ForFree, ForOffline}
use Rattle.slub_core.specs.declared.spot.MoveSetSpot.{MoveSetSpot}
use Rattle.slub_core.specs.declared.spot.MoveSetSpot.TheVariants.{FollowSet, LockMove, LoadMoved, ListSlab, GiveMove}
use Rattle.slub_core.specs.declared.spot.Sweep.{Sweep}
use Rattle.slub_core.specs.declared.spot.Sweep.TheVariants.{Trimming, Flushing}
use Rattle.slub_core.specs.declared.spot.OfflineSpot.{OfflineSpot}
use Rattle.slub_core.specs.declared.spot.OfflineSpot.TheVariants.{LoadCurrent, DetachCurrent, TakeCurrent}
use Rattle.slub_core.specs.declared.spot.TrimSpot.{TrimSpot}
use Rattle.slub_core.specs.declared.spot.TrimSpot.TheVariants.{GiveTrim, LockTrim, ScanNode, LoadScanned, DropScanned}
use Rattle.slub_core.specs.declared.spot.CheckedSpot.{CheckedSpot}
use Rattle.slub_core.specs.declared.spot.CheckedSpot.TheVariants.{LockRun, GiveRun, LockChecked, GiveChecked}
use Rattle.slub_core.specs.Setup.{Setup}
use Rattle.slub_core.specs.Words.{cpu_in, slab_in, board_in, list_in}
use Rattle.slub_core.specs.World.{LockValue}
use Rattle.slub_core.specs.Local.{Local, Turn, hand_of, string_of, hand_from}
use Rattle.slub_core.specs.Alloc.{alloc_advance, is_spent, way_of_word, way_of_lost, way_of_away, way_of_list, way_of_again, walked_on, reached, found_at}
use Rattle.slub_core.specs.PutAway.{put_away_advance, way_of_put, is_to_discard, head_away}
use Rattle.slub_core.specs.Discard.{discard_advance, way_of_discarded}
use Rattle.slub_core.specs.PutOnList.{put_on_list_advance, way_of_string, way_of_pushed, with_cursor, leads_to}
use Rattle.slub_core.specs.Free.{free_advance, board_taken, is_long}
use Rattle.slub_core.specs.MoveSet.{move_set_advance, after_move}
use Rattle.slub_core.specs.Offline.{offline_advance, trim_advance, next_swept}
use Rattle.slub_core.specs.Checked.{checked_advance}
use Rattle.slub_core.specs.Steps.{advance_at}
use Rattle.slub_law_words.proofs.Changes.{is_of_kind, is_checked_kind}

-- ---- ways

two : (b : Bool) (x y : Spot) → is_of_kind x ≡ true → is_of_kind y ≡ true → is_of_kind (if b then x else y) ≡ true
two true x y a b = a
two false x y a b = b

word-way : (m : Setup) (fast : Bool) (c : CpuWord) → is_of_kind (way_of_word m fast c) ≡ true
word-way m fast c = by (is_spent m c) (not (c.head == 0)) fast (not (c.frame == 0))
  where
    by : (a b c d : Bool) → is_of_kind (if a then Between else if b then InAlloc LoadNext else if c then Between else if d then InAlloc Detach else InAlloc TakeList) ≡ true
    by true b c d = refl
    by false true c d = refl
    by false false true d = refl
    by false false false true = refl
    by false false false false = refl

lost-way : (fast : Bool) → is_of_kind (way_of_lost fast) ≡ true
lost-way true = refl
lost-way false = refl

away-way : (hand : Hand) (away : Away) → is_of_kind (way_of_away hand away) ≡ true
away-way hand away = two ((hand.head == 0) || hand.walked) (InPutAway LockAway away) (InPutAway WalkChain away) refl refl

list-way : (list : ListWord) → is_of_kind (way_of_list list) ≡ true
list-way list = by (list.count == 0) (list.count == 1)
  where
    by : (a b : Bool) → is_of_kind (if a then InAlloc LockNode else if b then InAlloc LoadKept else InAlloc FollowFront) ≡ true
    by true b = refl
    by false true = refl
    by false false = refl

again-way : (m : Setup) (hand : Hand) (c : CpuWord) → is_of_kind (way_of_again m hand c) ≡ true
again-way m hand c =
    two (is_spent m c) (way_of_away hand ForSpent) (if c.frame == 0 then InAlloc Install else InAlloc DetachOther) (away-way hand ForSpent)
    (two (c.frame == 0) (InAlloc Install) (InAlloc DetachOther) refl refl)

put-way : (away : Away) → is_of_kind (way_of_put away) ≡ true
put-way ForInstall = refl
put-way ForSpent = refl
put-way (ForSweep sweep) = refl

discarded-way : (discard : Discard) → is_of_kind (way_of_discarded discard) ≡ true
discarded-way (FromAway away) = refl
discarded-way FromFree = refl
discarded-way (FromMove move) = refl
discarded-way FromTrim = refl

string-way : (string : PartialString) (put : PutOnList) → is_of_kind (way_of_string string put) ≡ true
string-way string put = two (nat_lt string.place string.count) (InPutOnList WalkString put) (InPutOnList LinkString put) refl refl

pushed-way : (put : PutOnList) → is_of_kind (way_of_pushed put) ≡ true
pushed-way OfRest = refl
pushed-way OfNode = refl
pushed-way OfFree = refl

swept-way : (m : Setup) (l : Local) (sweep : Sweep) → is_of_kind (next_swept m l sweep).local.spot ≡ true
swept-way m l Trimming = two (nat_lt (l.cpu + 1) m.cpus) (InOffline LoadCurrent Trimming) (InTrim LockTrim) refl refl
swept-way m l Flushing = two (nat_lt (l.turn + 1) (length m.plain)) (InOffline LoadCurrent Flushing) Between refl refl

board-way : (m : Setup) (l : Local) (b : Option BoardWord) → is_of_kind (board_taken m l b).local.spot ≡ true
board-way m l None = refl
board-way m l (Some b) = two (m.checks b.cache) (InChecked LockChecked Free) (InFree LoadOwn) refl refl

-- of a worker by a condition
either : (b : Bool) (x y : Local) → is_of_kind x.spot ≡ true → is_of_kind y.spot ≡ true → is_of_kind (if b then x else y).spot ≡ true
either true x y a b = a
either false x y a b = b

either-turn : (b : Bool) (x y : Turn) → is_of_kind x.local.spot ≡ true → is_of_kind y.local.spot ≡ true → is_of_kind (if b then x else y).local.spot ≡ true
either-turn true x y a b = a
either-turn false x y a b = b

-- ---- where an answer leads, path by path; an answer that isn't named leaves the worker where it is

kind-alloc : (m : Setup) (l : Local) (s : AllocSpot) (a : Answer) → is_of_kind l.spot ≡ true → is_of_kind (alloc_advance m l s a).local.spot ≡ true
kind-alloc m l LoadCpu (Word x) same = word-way m l.fast (cpu_in x)
kind-alloc m l Pop (Lost x) same = lost-way l.fast
kind-alloc m l LoadTaken (Word x) same = two ((slab_in x).head == 0) (InAlloc MarkFull) (InAlloc TakeAll) refl refl
kind-alloc m l TakeList (Word x) same = list-way (list_in x)
kind-alloc m l LoadPopped (Word x) same = two (length l.hands == 1) (InAlloc FreezePopped) (InAlloc Unlist) refl refl
kind-alloc m l GiveNode Done same = two (length l.hands == 0) (InAlloc LockPool) (InAlloc LoadReady) refl refl
kind-alloc m l (LinkNew i) Done same = two _ (InAlloc (LinkNew (i + 1))) (InAlloc Make) refl refl
kind-alloc m l LoadAgain (Word x) same = again-way m (hand_of l) (cpu_in x)
kind-alloc m l DetachOther Won same = away-way (hand_from l.cpu_word.frame l.cpu_word.head) ForInstall
kind-alloc m l LoadNext (Word x) same = refl
kind-alloc m l Pop Won same = refl
kind-alloc m l Detach Won same = refl
kind-alloc m l Detach (Lost x) same = refl
kind-alloc m l TakeAll Won same = refl
kind-alloc m l TakeAll (Lost x) same = refl
kind-alloc m l MarkFull Won same = refl
kind-alloc m l MarkFull (Lost x) same = refl
kind-alloc m l FollowFront (Word x) same = refl
kind-alloc m l LoadKept (Word x) same = refl
kind-alloc m l FreezeKept Won same = refl
kind-alloc m l FreezeKept (Lost x) same = refl
kind-alloc m l LockNode Won same = refl
kind-alloc m l FreezePopped Won same = refl
kind-alloc m l FreezePopped (Lost x) same = refl
kind-alloc m l Unlist Won same = refl
kind-alloc m l Unlist (Lost x) same = refl
kind-alloc m l LockPool Won same = refl
kind-alloc m l GivePool Done same = refl
kind-alloc m l GiveDry Done same = refl
kind-alloc m l Make Done same = refl
kind-alloc m l LoadReady (Word x) same = refl
kind-alloc m l DetachOther (Lost x) same = refl
kind-alloc m l Install Won same = refl
kind-alloc m l Install (Lost x) same = refl
kind-alloc m l s a same = same

kind-put_away : (m : Setup) (value : ℕ → LockValue) (l : Local) (s : PutAwaySpot) (away : Away) (a : Answer) → is_of_kind l.spot ≡ true → is_of_kind (put_away_advance m value l s away a).local.spot ≡ true
kind-put_away m value l WalkChain away (Word x) same = away-way (walked_on (hand_of l) (found_at m l.cache (hand_of l).frame (reached (hand_of l) - 1) x)) away
kind-put_away m value l LoadAway away (Word x) same = two ((hand_of l).head == 0) (InPutAway Unfreeze away) (InPutAway LinkLast away) refl refl
kind-put_away m value l Unfreeze away Won same = either (head_away (hand_of l) l.slab_word == 0) _ _ refl (two (is_to_discard m value l) (InDiscard Unmake (FromAway away)) (InPutAway PutNode away) refl refl)
kind-put_away m value l GiveAway away Done same = put-way away
kind-put_away m value l LockAway away Won same = refl
kind-put_away m value l LinkLast away Done same = refl
kind-put_away m value l Unfreeze away (Lost x) same = refl
kind-put_away m value l s away a same = same

kind-discard : (m : Setup) (l : Local) (s : DiscardSpot) (discard : Discard) (a : Answer) → is_of_kind l.spot ≡ true → is_of_kind (discard_advance m l s discard a).local.spot ≡ true
kind-discard m l GiveDiscard discard Done same = discarded-way discard
kind-discard m l Unmake discard Done same = refl
kind-discard m l LockDiscard discard Won same = refl
kind-discard m l Unmake discard (Word x) same = same
kind-discard m l Unmake discard (Lost x) same = same
kind-discard m l s discard a same = same

kind-put_on_list : (l : Local) (s : PutOnListSpot) (put : PutOnList) (a : Answer) → is_of_kind l.spot ≡ true → is_of_kind (put_on_list_advance l s put a).local.spot ≡ true
kind-put_on_list l LoadList put (Word x) same = two (leads_to (string_of l).link (list_in x).front) (InPutOnList PushString put) (way_of_string (string_of l) put) refl (string-way (string_of l) put)
kind-put_on_list l WalkString put (Word x) same = string-way (with_cursor (string_of l) (x % 2 ^ 16)) put
kind-put_on_list l PushString put Won same = pushed-way put
kind-put_on_list l LinkString put Done same = refl
kind-put_on_list l PushString put (Lost x) same = refl
kind-put_on_list l s put a same = same

kind-free : (m : Setup) (l : Local) (s : FreeSpot) (a : Answer) → is_of_kind l.spot ≡ true → is_of_kind (free_advance m l s a).local.spot ≡ true
kind-free m l TakeBoard (Word x) same = board-way m l (board_in x)
kind-free m l LoadOwn (Word x) same = two _ (InFree LinkOwn) (InFree LoadSlab) refl refl
kind-free m l LoadSlab (Word x) same = two _ (InFree LockFree) (InFree LinkSlab) refl refl
kind-free m l FreeSlab Won same = two _ (InFree LoadCount) Between refl refl
kind-free m l LoadLocked (Word x) same = two _ (InFree LinkLocked) (InFree GoBack) refl refl
kind-free m l LoadCount (Word x) same = either (is_long m l (list_in x)) _ _ refl refl
kind-free m l TakeSet (Word x) same = either ((list_in x).count == 0) _ _ refl refl
kind-free m l LinkOwn Done same = refl
kind-free m l Push Won same = refl
kind-free m l Push (Lost x) same = refl
kind-free m l LinkSlab Done same = refl
kind-free m l FreeSlab (Lost x) same = refl
kind-free m l LockFree Won same = refl
kind-free m l GoBack Done same = refl
kind-free m l LinkLocked Done same = refl
kind-free m l FreeLocked Won same = refl
kind-free m l FreeLocked (Lost x) same = refl
kind-free m l GiveFree Done same = refl
kind-free m l s a same = same

moved-way : (m : Setup) (l : Local) (move : MoveSet) → is_of_kind (after_move m l move).local.spot ≡ true
moved-way m l ForFree = refl
moved-way m l (ForOffline sweep) = swept-way m l sweep

kind-move_set : (m : Setup) (value : ℕ → LockValue) (l : Local) (s : MoveSetSpot) (move : MoveSet) (a : Answer) → is_of_kind l.spot ≡ true → is_of_kind (move_set_advance m value l s move a).local.spot ≡ true
kind-move_set m value l LoadMoved move (Word x) same = two _ (InDiscard Unmake (FromMove move)) (InMoveSet ListSlab move) refl refl
kind-move_set m value l GiveMove move Done same = moved-way m l move
kind-move_set m value l LockMove move Won same = refl
kind-move_set m value l FollowSet move (Word x) same = refl
kind-move_set m value l ListSlab move Won same = refl
kind-move_set m value l ListSlab move (Lost x) same = refl
kind-move_set m value l s move a same = same

kind-offline : (m : Setup) (l : Local) (s : OfflineSpot) (sweep : Sweep) (a : Answer) → is_of_kind l.spot ≡ true → is_of_kind (offline_advance m l s sweep a).local.spot ≡ true
kind-offline m l LoadCurrent sweep (Word x) same = two _ (InOffline TakeCurrent sweep) (InOffline DetachCurrent sweep) refl refl
kind-offline m l DetachCurrent sweep Won same = away-way (hand_from l.cpu_word.frame l.cpu_word.head) (ForSweep sweep)
kind-offline m l TakeCurrent sweep (Word x) same = either-turn ((list_in x).count == 0) (next_swept m l sweep) _ (swept-way m l sweep) refl
kind-offline m l DetachCurrent sweep (Lost x) same = refl
kind-offline m l DetachCurrent sweep Done same = same
kind-offline m l s sweep a same = same

kind-trim : (l : Local) (s : TrimSpot) (a : Answer) → is_of_kind l.spot ≡ true → is_of_kind (trim_advance l s a).local.spot ≡ true
kind-trim l LoadScanned (Word x) same = two _ (InTrim DropScanned) (InTrim ScanNode) refl refl
kind-trim l LockTrim Won same = refl
kind-trim l GiveTrim Done same = refl
kind-trim l LockTrim (Lost x) same = same
kind-trim l s a same = same

kind-checked : (l : Local) (s : CheckedSpot) (kind : CallKind) (a : Answer) → is_of_kind l.spot ≡ true → is_checked_kind kind ≡ true → is_of_kind (checked_advance l s kind a).local.spot ≡ true
kind-checked l GiveChecked kind Done same k = refl
kind-checked l LockChecked kind Won same k = k
kind-checked l LockRun kind Won same k = k
kind-checked l GiveRun kind Done same k = k
kind-checked l LockChecked kind (Word x) same k = same
kind-checked l LockChecked kind (Lost x) same k = same
kind-checked l s kind a same k = same

kind-write : (m : Setup) (value : ℕ → LockValue) (l : Local) (a : Answer) → is_of_kind l.spot ≡ true → is_of_kind (advance_at m value l WriteWord a).local.spot ≡ true
kind-write m value l Done same = refl
kind-write m value l a same = same

kind-read : (m : Setup) (value : ℕ → LockValue) (l : Local) (a : Answer) → is_of_kind l.spot ≡ true → is_of_kind (advance_at m value l ReadWord a).local.spot ≡ true
kind-read m value l (Word x) same = refl
kind-read m value l a same = same

pub kind-advance : (m : Setup) (value : ℕ → LockValue) (l : Local) (s : Spot) (a : Answer) → is_of_kind l.spot ≡ true → is_of_kind s ≡ true → is_of_kind (advance_at m value l s a).local.spot ≡ true
kind-advance m value l Between a same k = same
kind-advance m value l (InAlloc s) a same k = kind-alloc m l s a same
kind-advance m value l (InPutAway s away) a same k = kind-put_away m value l s away a same
kind-advance m value l (InDiscard s discard) a same k = kind-discard m l s discard a same
kind-advance m value l (InPutOnList s put) a same k = kind-put_on_list l s put a same
kind-advance m value l (InFree s) a same k = kind-free m l s a same
kind-advance m value l (InMoveSet s move) a same k = kind-move_set m value l s move a same
kind-advance m value l (InOffline s sweep) a same k = kind-offline m l s sweep a same
kind-advance m value l (InTrim s) a same k = kind-trim l s a same
kind-advance m value l WriteWord a same k = kind-write m value l a same
kind-advance m value l ReadWord a same k = kind-read m value l a same
kind-advance m value l (InChecked s kind) a same k = kind-checked l s kind a same k
