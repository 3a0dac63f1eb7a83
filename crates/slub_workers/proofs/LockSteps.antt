-- What each step does to the locks that its worker has.
use Rattle.std.proofs.Common.{◌≡◌, ℕ, zero, suc, ◌+◌, ◌-◌, ◌%◌, ◌^◌, ◌<◌, ◌==◌, Bool, true, false, not, ◌&&◌, ◌||◌, cond, if◌then◌else◌, nat_lt, List, [], ◌∷◌, length, slice_index, slice_index_or, Contains, Option, Some, None, refl, arith}
use Rattle.slub_words.specs.declared.cpu.CpuWord.{CpuWord}
use Rattle.slub_words.specs.declared.board.BoardWord.{BoardWord}
use Rattle.slub_words.specs.Words.{cpu_bits, slab_bits}
use Rattle.slub_cpu_partial.specs.declared.words.ListWord.{ListWord}
use Rattle.slub_cpu_partial.specs.Strings.{list_bits}
use Rattle.slub_core.specs.declared.call.CallKind.{CallKind}
use Rattle.slub_core.specs.declared.local.Hand.{Hand}
use Rattle.slub_core.specs.declared.local.PartialString.{PartialString}
use Rattle.slub_core.specs.declared.step.Answer.{Answer}
use Rattle.slub_core.specs.declared.step.Answer.TheVariants.{Won, Lost}
use Rattle.slub_core.specs.declared.spot.Spot.{Spot}
use Rattle.slub_core.specs.declared.spot.Spot.TheVariants.{Between, InAlloc, InPutAway, InDiscard, InPutOnList, InFree, InMoveSet, InOffline, InTrim, WriteWord, ReadWord, InChecked}
use Rattle.slub_core.specs.declared.spot.AllocSpot.{AllocSpot}
use Rattle.slub_core.specs.declared.spot.AllocSpot.TheVariants.{LoadCpu, LoadNext, Pop, Detach, LoadTaken, TakeAll, MarkFull, TakeList, FollowFront, LoadKept, FreezeKept, LockNode, PopNode, LoadPopped, FreezePopped, Unlist, GiveNode, LockPool, TakeRun, GivePool, GiveDry, LinkNew, Make, LoadReady, LoadAgain, DetachOther, Install}
use Rattle.slub_core.specs.declared.spot.PutAwaySpot.{PutAwaySpot}
use Rattle.slub_core.specs.declared.spot.PutAwaySpot.TheVariants.{WalkChain, LockAway, LoadAway, LinkLast, Unfreeze, PutNode, GiveAway}
use Rattle.slub_core.specs.declared.spot.Away.{Away}
use Rattle.slub_core.specs.declared.spot.Away.TheVariants.{ForInstall, ForSpent, ForSweep}
use Rattle.slub_core.specs.declared.spot.DiscardSpot.{DiscardSpot}
use Rattle.slub_core.specs.declared.spot.DiscardSpot.TheVariants.{Unmake, LockDiscard, PutRun, GiveDiscard}
use Rattle.slub_core.specs.declared.spot.Discard.{Discard}
use Rattle.slub_core.specs.declared.spot.Discard.TheVariants.{FromAway, FromFree, FromMove, FromTrim}
use Rattle.slub_core.specs.declared.spot.PutOnListSpot.{PutOnListSpot}
use Rattle.slub_core.specs.declared.spot.PutOnListSpot.TheVariants.{LoadList, WalkString, LinkString, PushString}
use Rattle.slub_core.specs.declared.spot.PutOnList.{PutOnList}
use Rattle.slub_core.specs.declared.spot.PutOnList.TheVariants.{OfRest, OfNode, OfFree}
use Rattle.slub_core.specs.declared.spot.FreeSpot.{FreeSpot}
use Rattle.slub_core.specs.declared.spot.FreeSpot.TheVariants.{TakeBoard, LoadOwn, LinkOwn, Push, LoadSlab, LinkSlab, FreeSlab, LockFree, LoadLocked, GoBack, LinkLocked, FreeLocked, TakeOff, GiveFree, LoadCount, TakeSet}
use Rattle.slub_core.specs.declared.spot.MoveSetSpot.{MoveSetSpot}
use Rattle.slub_core.specs.declared.spot.MoveSetSpot.TheVariants.{LockMove, ChooseFront, FollowSet, LoadMoved, ListSlab, PutTail, GiveMove}
use Rattle.slub_core.specs.declared.spot.MoveSet.{MoveSet}
use Rattle.slub_core.specs.declared.spot.MoveSet.TheVariants.{ForFree, ForOffline}
use Rattle.slub_core.specs.declared.spot.Sweep.{Sweep}
use Rattle.slub_core.specs.declared.spot.Sweep.TheVariants.{Trimming, Flushing}
use Rattle.slub_core.specs.declared.spot.OfflineSpot.{OfflineSpot}
use Rattle.slub_core.specs.declared.spot.OfflineSpot.TheVariants.{LoadCurrent, DetachCurrent, TakeCurrent}
use Rattle.slub_core.specs.declared.spot.TrimSpot.{TrimSpot}
use Rattle.slub_core.specs.declared.spot.TrimSpot.TheVariants.{LockTrim, ScanNode, LoadScanned, DropScanned, GiveTrim}
use Rattle.slub_core.specs.declared.spot.CheckedSpot.{CheckedSpot}
use Rattle.slub_core.specs.declared.spot.CheckedSpot.TheVariants.{LockChecked, DoChecked, LockRun, MoveRun, AddSlab, GiveRun, GiveChecked}
use Rattle.slub_core.specs.Setup.{Setup, node_lock, pool_lock}
use Rattle.slub_core.specs.Words.{answer_of, cpu_in, slab_in, board_in, list_in}
use Rattle.slub_core.specs.World.{LockValue}
use Rattle.slub_core.specs.Local.{Local, Turn, hand_of, string_of, hand_from, run_of, here}
use Rattle.slub_core.specs.Alloc.{is_spent, way_of_word, way_of_away, way_of_list, way_of_again, walked_on, found_at, reached, alloc_step, alloc_advance}
use Rattle.slub_core.specs.PutAway.{has_enough, way_of_put, unfrozen, head_away, is_to_discard, put_away_step, put_away_advance}
use Rattle.slub_core.specs.Discard.{way_of_discarded, discard_step, discard_advance}
use Rattle.slub_core.specs.PutOnList.{leads_to, way_of_string, way_of_pushed, with_cursor, put_on_list_step, put_on_list_advance}
use Rattle.slub_core.specs.Free.{board_taken, is_long, is_last_listed, was_full, free_step, free_advance}
use Rattle.slub_core.specs.MoveSet.{after_move, move_set_step, move_set_advance}
use Rattle.slub_core.specs.Offline.{next_swept, offline_step, offline_advance, trim_step, trim_advance}
use Rattle.slub_core.specs.Checked.{checked_step, checked_advance}
use Rattle.slub_core.specs.Steps.{step_at, step_of, advance_at}
use Rattle.slub_workers.specs.Locks.{Move, Stays, Takes, Gives, locks_of, move_of}
use Rattle.slub_workers.proofs.Locals.{locks_at, stay, either_spot, either_local}

-- from one list of locks to another
abbrev pub MovesLocks : Move → List ℕ → List ℕ → Type 0
MovesLocks Stays before after = after ≡ before
MovesLocks (Takes lock) before after = (after ≡ lock ∷ before) × ¬ Contains before lock
MovesLocks (Gives lock) before after = (before ≡ lock ∷ after) × ¬ Contains after lock

-- ---- lists of one and of none

none_of : (lock : ℕ) → ¬ Contains [] lock
none_of lock w = let below = w.1 in absurd (omega arith)

node_isnt : (cache : ℕ) → ¬ Contains (node_lock cache ∷ []) pool_lock
node_isnt cache w = at_place w.0 w.1 w.2
  where
    at_place : (k : ℕ) → k < 1 → slice_index_or (node_lock cache ∷ []) k pool_lock ≡ pool_lock → ⊥
    at_place zero below is = absurd (omega arith)
    at_place (suc k) below is = absurd (omega arith)

-- the only lock is given back
gives_last : (lock : ℕ) (after : List ℕ) → after ≡ [] → (lock ∷ [] ≡ lock ∷ after) × ¬ Contains after lock
gives_last lock after is = rw is (refl, none_of lock)

-- the pool's lock is given back, or taken, under a node lock
gives_pool : (cache : ℕ) (after : List ℕ) → after ≡ node_lock cache ∷ [] → (pool_lock ∷ node_lock cache ∷ [] ≡ pool_lock ∷ after) × ¬ Contains after pool_lock
gives_pool cache after is = rw is (refl, node_isnt cache)

-- ---- answers

-- to an exchange of no lock
exchanged : (b : Bool) (led : Answer → Turn) (found : ℕ) (before : List ℕ) → locks_of (led Won).local ≡ before → locks_of (led (Lost found)).local ≡ before → locks_of (led (if b then Won else Lost found)).local ≡ before
exchanged true led found before won lost = won
exchanged false led found before won lost = lost

-- to that by which a lock is taken
locked : (b : Bool) (led : Answer → Turn) (lock found : ℕ) (before : List ℕ) → locks_of (led Won).local ≡ lock ∷ before → ¬ Contains before lock → locks_of (led (Lost found)).local ≡ before
    → MovesLocks (cond b (Takes lock) Stays) before (locks_of (led (if b then Won else Lost found)).local)
locked true led lock found before won new lost = (won, new)
locked false led lock found before won new lost = lost

-- ---- ways

way_word : (m : Setup) (fast : Bool) (c : CpuWord) (cache : ℕ) → locks_at (way_of_word m fast c) cache ≡ []
way_word m fast c cache =
    either_spot (is_spent m c) _ _ cache [] refl
    (either_spot (not (c.head == 0)) _ _ cache [] refl
    (either_spot fast _ _ cache [] refl
    (either_spot (not (c.frame == 0)) _ _ cache [] refl refl)))

way_list : (list : ListWord) (cache : ℕ) → locks_at (way_of_list list) cache ≡ []
way_list list cache = either_spot (list.count == 0) _ _ cache [] refl (either_spot (list.count == 1) _ _ cache [] refl refl)

way_away : (hand : Hand) (away : Away) (cache : ℕ) → locks_at (way_of_away hand away) cache ≡ []
way_away hand away cache = either_spot ((hand.head == 0) || hand.walked) _ _ cache [] refl refl

way_again : (m : Setup) (hand : Hand) (c : CpuWord) (cache : ℕ) → locks_at (way_of_again m hand c) cache ≡ []
way_again m hand c cache = either_spot (is_spent m c) _ _ cache [] (way_away hand ForSpent cache) (either_spot (c.frame == 0) _ _ cache [] refl refl)

-- ---- allocations

alloc_moves : (m : Setup) (l : Local) (s : AllocSpot) (found : ℕ) → l.spot ≡ InAlloc s
    → MovesLocks (move_of (alloc_step m l s) found) (locks_at (InAlloc s) l.cache) (locks_of (alloc_advance m l s (answer_of (alloc_step m l s).op found)).local)
alloc_moves m l LoadCpu found is = way_word m l.fast (cpu_in found) l.cache
alloc_moves m l LoadNext found is = refl
alloc_moves m l Pop found is = exchanged (found == cpu_bits l.cpu_word) (alloc_advance m l Pop) found [] refl (either_spot l.fast _ _ l.cache [] refl refl)
alloc_moves m l Detach found is = exchanged (found == cpu_bits l.cpu_word) (alloc_advance m l Detach) found [] refl refl
alloc_moves m l LoadTaken found is = either_spot ((slab_in found).head == 0) _ _ l.cache [] refl refl
alloc_moves m l TakeAll found is = exchanged (found == slab_bits l.slab_word) (alloc_advance m l TakeAll) found [] refl refl
alloc_moves m l MarkFull found is = exchanged (found == slab_bits l.slab_word) (alloc_advance m l MarkFull) found [] refl refl
alloc_moves m l TakeList found is = way_list (list_in found) l.cache
alloc_moves m l FollowFront found is = refl
alloc_moves m l LoadKept found is = refl
alloc_moves m l FreezeKept found is = exchanged (found == slab_bits l.slab_word) (alloc_advance m l FreezeKept) found [] refl refl
alloc_moves m l LockNode found is = locked (found == 0) (alloc_advance m l LockNode) (node_lock l.cache) found [] refl (none_of (node_lock l.cache)) (stay l (InAlloc LockNode) is)
alloc_moves m l PopNode found is = stay l (InAlloc PopNode) is
alloc_moves m l LoadPopped found is = either_spot (length l.hands == 1) _ _ l.cache (node_lock l.cache ∷ []) refl refl
alloc_moves m l FreezePopped found is = exchanged (found == slab_bits l.slab_word) (alloc_advance m l FreezePopped) found (node_lock l.cache ∷ []) refl refl
alloc_moves m l Unlist found is = exchanged (found == slab_bits l.slab_word) (alloc_advance m l Unlist) found (node_lock l.cache ∷ []) refl refl
alloc_moves m l GiveNode found is = gives_last (node_lock l.cache) _ (either_spot (length l.hands == 0) _ _ l.cache [] refl refl)
alloc_moves m l LockPool found is = locked (found == 0) (alloc_advance m l LockPool) pool_lock found [] refl (none_of pool_lock) (stay l (InAlloc LockPool) is)
alloc_moves m l TakeRun found is = stay l (InAlloc TakeRun) is
alloc_moves m l GivePool found is = gives_last pool_lock _ refl
alloc_moves m l GiveDry found is = gives_last pool_lock _ refl
alloc_moves m l (LinkNew i) found is = either_spot (nat_lt (i + 1) (run_of l).objects) _ _ l.cache [] refl refl
alloc_moves m l Make found is = refl
alloc_moves m l LoadReady found is = refl
alloc_moves m l LoadAgain found is = way_again m (hand_of l) (cpu_in found) l.cache
alloc_moves m l DetachOther found is = exchanged (found == cpu_bits l.cpu_word) (alloc_advance m l DetachOther) found [] (way_away (hand_from l.cpu_word.frame l.cpu_word.head) ForInstall l.cache) refl
alloc_moves m l Install found is = exchanged (found == cpu_bits l.cpu_word) (alloc_advance m l Install) found [] refl refl

-- ---- putting away, discards, lists

unfrozen_locks : (m : Setup) (v : ℕ → LockValue) (l : Local) (away : Away) → locks_of (unfrozen m v l away) ≡ node_lock l.cache ∷ []
unfrozen_locks m v l away = either_local (head_away (hand_of l) l.slab_word == 0) _ _ (node_lock l.cache ∷ []) refl (either_spot (is_to_discard m v l) _ _ l.cache (node_lock l.cache ∷ []) refl refl)

put_locks : (away : Away) (cache : ℕ) → locks_at (way_of_put away) cache ≡ []
put_locks ForInstall cache = refl
put_locks ForSpent cache = refl
put_locks (ForSweep sweep) cache = refl

away_moves : (m : Setup) (v : ℕ → LockValue) (l : Local) (s : PutAwaySpot) (away : Away) (found : ℕ) → l.spot ≡ InPutAway s away
    → MovesLocks (move_of (put_away_step m v l s) found) (locks_at (InPutAway s away) l.cache) (locks_of (put_away_advance m v l s away (answer_of (put_away_step m v l s).op found)).local)
away_moves m v l WalkChain away found is = way_away (walked_on (hand_of l) (found_at m l.cache (hand_of l).frame (reached (hand_of l) - 1) found)) away l.cache
away_moves m v l LockAway away found is = locked (found == 0) (put_away_advance m v l LockAway away) (node_lock l.cache) found [] refl (none_of (node_lock l.cache)) (stay l (InPutAway LockAway away) is)
away_moves m v l LoadAway away found is = either_spot ((hand_of l).head == 0) _ _ l.cache (node_lock l.cache ∷ []) refl refl
away_moves m v l LinkLast away found is = refl
away_moves m v l Unfreeze away found is = exchanged (found == slab_bits l.slab_word) (put_away_advance m v l Unfreeze away) found (node_lock l.cache ∷ []) (unfrozen_locks m v l away) refl
away_moves m v l PutNode away found is = stay l (InPutAway PutNode away) is
away_moves m v l GiveAway away found is = gives_last (node_lock l.cache) _ (put_locks away l.cache)

discarded_locks : (discard : Discard) (cache : ℕ) → locks_at (way_of_discarded discard) cache ≡ node_lock cache ∷ []
discarded_locks (FromAway away) cache = refl
discarded_locks FromFree cache = refl
discarded_locks (FromMove move) cache = refl
discarded_locks FromTrim cache = refl

discard_moves : (m : Setup) (l : Local) (s : DiscardSpot) (discard : Discard) (found : ℕ) → l.spot ≡ InDiscard s discard
    → MovesLocks (move_of (discard_step l s) found) (locks_at (InDiscard s discard) l.cache) (locks_of (discard_advance m l s discard (answer_of (discard_step l s).op found)).local)
discard_moves m l Unmake discard found is = refl
discard_moves m l LockDiscard discard found is = locked (found == 0) (discard_advance m l LockDiscard discard) pool_lock found (node_lock l.cache ∷ []) refl (node_isnt l.cache) (stay l (InDiscard LockDiscard discard) is)
discard_moves m l PutRun discard found is = stay l (InDiscard PutRun discard) is
discard_moves m l GiveDiscard discard found is = gives_pool l.cache _ (discarded_locks discard l.cache)

string_locks : (string : PartialString) (put : PutOnList) (cache : ℕ) → locks_at (way_of_string string put) cache ≡ locks_at (InPutOnList LoadList put) cache
string_locks string put cache = either_spot (nat_lt string.place string.count) _ _ cache _ refl refl

pushed_locks : (put : PutOnList) (cache : ℕ) → locks_at (way_of_pushed put) cache ≡ locks_at (InPutOnList PushString put) cache
pushed_locks OfRest cache = refl
pushed_locks OfNode cache = refl
pushed_locks OfFree cache = refl

put_moves : (l : Local) (s : PutOnListSpot) (put : PutOnList) (found : ℕ) → l.spot ≡ InPutOnList s put
    → MovesLocks (move_of (put_on_list_step l s) found) (locks_at (InPutOnList s put) l.cache) (locks_of (put_on_list_advance l s put (answer_of (put_on_list_step l s).op found)).local)
put_moves l LoadList put found is = either_spot (leads_to (string_of l).link (list_in found).front) _ _ l.cache _ refl (string_locks (string_of l) put l.cache)
put_moves l WalkString put found is = string_locks (with_cursor (string_of l) (found % 2 ^ 16)) put l.cache
put_moves l LinkString put found is = refl
put_moves l PushString put found is = exchanged (found == list_bits l.list_word) (put_on_list_advance l PushString put) found _ (pushed_locks put l.cache) refl

-- ---- frees

board_locks : (m : Setup) (l : Local) (b : Option BoardWord) → locks_of (board_taken m l b).local ≡ []
board_locks m l None = refl
board_locks m l (Some b) = either_spot (m.checks b.cache) _ _ b.cache [] refl refl

free_moves : (m : Setup) (l : Local) (s : FreeSpot) (found : ℕ) → l.spot ≡ InFree s
    → MovesLocks (move_of (free_step m l s) found) (locks_at (InFree s) l.cache) (locks_of (free_advance m l s (answer_of (free_step m l s).op found)).local)
free_moves m l TakeBoard found is = board_locks m l (board_in found)
free_moves m l LoadOwn found is = either_spot (((cpu_in found).frame == (here l).frame) && not (is_spent m (cpu_in found))) _ _ l.cache [] refl refl
free_moves m l LinkOwn found is = refl
free_moves m l Push found is = exchanged (found == cpu_bits l.cpu_word) (free_advance m l Push) found [] refl refl
free_moves m l LoadSlab found is = either_spot (is_last_listed (slab_in found)) _ _ l.cache [] refl refl
free_moves m l LinkSlab found is = refl
free_moves m l FreeSlab found is = exchanged (found == slab_bits l.slab_word) (free_advance m l FreeSlab) found [] (either_spot (was_full l.slab_word) _ _ l.cache [] refl refl) refl
free_moves m l LockFree found is = locked (found == 0) (free_advance m l LockFree) (node_lock l.cache) found [] refl (none_of (node_lock l.cache)) (stay l (InFree LockFree) is)
free_moves m l LoadLocked found is = either_spot (is_last_listed (slab_in found)) _ _ l.cache (node_lock l.cache ∷ []) refl refl
free_moves m l GoBack found is = gives_last (node_lock l.cache) _ refl
free_moves m l LinkLocked found is = refl
free_moves m l FreeLocked found is = exchanged (found == slab_bits l.slab_word) (free_advance m l FreeLocked) found (node_lock l.cache ∷ []) refl refl
free_moves m l TakeOff found is = stay l (InFree TakeOff) is
free_moves m l GiveFree found is = gives_last (node_lock l.cache) _ refl
free_moves m l LoadCount found is = either_local (is_long m l (list_in found)) _ _ [] refl refl
free_moves m l TakeSet found is = either_local ((list_in found).count == 0) _ _ [] refl refl

-- ---- sets, trims and flushes

swept_locks : (m : Setup) (l : Local) (sweep : Sweep) → locks_of (next_swept m l sweep).local ≡ []
swept_locks m l Trimming = either_spot (nat_lt (l.cpu + 1) m.cpus) _ _ l.cache [] refl refl
swept_locks m l Flushing = let more = nat_lt (l.turn + 1) (length m.plain) in either_spot more _ _ (if more then slice_index m.plain (l.turn + 1) else l.cache) [] refl refl

moved_locks : (m : Setup) (l : Local) (move : MoveSet) → locks_of (after_move m l move).local ≡ []
moved_locks m l ForFree = refl
moved_locks m l (ForOffline sweep) = swept_locks m l sweep

move_moves : (m : Setup) (v : ℕ → LockValue) (l : Local) (s : MoveSetSpot) (move : MoveSet) (found : ℕ) → l.spot ≡ InMoveSet s move
    → MovesLocks (move_of (move_set_step l s) found) (locks_at (InMoveSet s move) l.cache) (locks_of (move_set_advance m v l s move (answer_of (move_set_step l s).op found)).local)
move_moves m v l LockMove move found is = locked (found == 0) (move_set_advance m v l LockMove move) (node_lock l.cache) found [] refl (none_of (node_lock l.cache)) (stay l (InMoveSet LockMove move) is)
move_moves m v l ChooseFront move found is = stay l (InMoveSet ChooseFront move) is
move_moves m v l FollowSet move found is = refl
move_moves m v l LoadMoved move found is = either_spot (((slab_in found).inuse == 0) && has_enough m v l) _ _ l.cache (node_lock l.cache ∷ []) refl refl
move_moves m v l ListSlab move found is = exchanged (found == slab_bits l.slab_word) (move_set_advance m v l ListSlab move) found (node_lock l.cache ∷ []) refl refl
move_moves m v l PutTail move found is = stay l (InMoveSet PutTail move) is
move_moves m v l GiveMove move found is = gives_last (node_lock l.cache) _ (moved_locks m l move)

-- of two turns, whichever it is
either_turn : (b : Bool) (x y : Turn) (locks : List ℕ) → locks_of x.local ≡ locks → locks_of y.local ≡ locks → locks_of (if b then x else y).local ≡ locks
either_turn true x y locks one other = one
either_turn false x y locks one other = other

offline_moves : (m : Setup) (l : Local) (s : OfflineSpot) (sweep : Sweep) (found : ℕ) → l.spot ≡ InOffline s sweep
    → MovesLocks (move_of (offline_step m l s) found) (locks_at (InOffline s sweep) l.cache) (locks_of (offline_advance m l s sweep (answer_of (offline_step m l s).op found)).local)
offline_moves m l LoadCurrent sweep found is = either_spot ((cpu_in found).frame == 0) _ _ l.cache [] refl refl
offline_moves m l DetachCurrent sweep found is = exchanged (found == cpu_bits l.cpu_word) (offline_advance m l DetachCurrent sweep) found [] (way_away (hand_from l.cpu_word.frame l.cpu_word.head) (ForSweep sweep) l.cache) refl
offline_moves m l TakeCurrent sweep found is = either_turn ((list_in found).count == 0) _ _ [] (swept_locks m l sweep) refl

trim_moves : (v : ℕ → LockValue) (l : Local) (s : TrimSpot) (found : ℕ) → l.spot ≡ InTrim s
    → MovesLocks (move_of (trim_step v l s) found) (locks_at (InTrim s) l.cache) (locks_of (trim_advance l s (answer_of (trim_step v l s).op found)).local)
trim_moves v l LockTrim found is = locked (found == 0) (trim_advance l LockTrim) (node_lock l.cache) found [] refl (none_of (node_lock l.cache)) (stay l (InTrim LockTrim) is)
trim_moves v l ScanNode found is = stay l (InTrim ScanNode) is
trim_moves v l LoadScanned found is = either_spot ((slab_in found).inuse == 0) _ _ l.cache (node_lock l.cache ∷ []) refl refl
trim_moves v l DropScanned found is = stay l (InTrim DropScanned) is
trim_moves v l GiveTrim found is = gives_last (node_lock l.cache) _ refl

-- ---- checked caches

checked_moves : (l : Local) (s : CheckedSpot) (kind : CallKind) (found : ℕ) → l.spot ≡ InChecked s kind
    → MovesLocks (move_of (checked_step l s) found) (locks_at (InChecked s kind) l.cache) (locks_of (checked_advance l s kind (answer_of (checked_step l s).op found)).local)
checked_moves l LockChecked kind found is = locked (found == 0) (checked_advance l LockChecked kind) (node_lock l.cache) found [] refl (none_of (node_lock l.cache)) (stay l (InChecked LockChecked kind) is)
checked_moves l DoChecked kind found is = stay l (InChecked DoChecked kind) is
checked_moves l LockRun kind found is = locked (found == 0) (checked_advance l LockRun kind) pool_lock found (node_lock l.cache ∷ []) refl (node_isnt l.cache) (stay l (InChecked LockRun kind) is)
checked_moves l MoveRun kind found is = stay l (InChecked MoveRun kind) is
checked_moves l AddSlab kind found is = stay l (InChecked AddSlab kind) is
checked_moves l GiveRun kind found is = gives_pool l.cache _ refl
checked_moves l GiveChecked kind found is = gives_last (node_lock l.cache) _ refl

-- ---- every spot

moves_at : (m : Setup) (v : ℕ → LockValue) (l : Local) (s : Spot) (found : ℕ) → l.spot ≡ s
    → MovesLocks (move_of (step_at m v l s) found) (locks_at s l.cache) (locks_of (advance_at m v l s (answer_of (step_at m v l s).op found)).local)
moves_at m v l Between found is = stay l Between is
moves_at m v l (InAlloc s) found is = alloc_moves m l s found is
moves_at m v l (InPutAway s away) found is = away_moves m v l s away found is
moves_at m v l (InDiscard s discard) found is = discard_moves m l s discard found is
moves_at m v l (InPutOnList s put) found is = put_moves l s put found is
moves_at m v l (InFree s) found is = free_moves m l s found is
moves_at m v l (InMoveSet s move) found is = move_moves m v l s move found is
moves_at m v l (InOffline s sweep) found is = offline_moves m l s sweep found is
moves_at m v l (InTrim s) found is = trim_moves v l s found is
moves_at m v l WriteWord found is = refl
moves_at m v l ReadWord found is = refl
moves_at m v l (InChecked s kind) found is = checked_moves l s kind found is

pub advance_locks : (m : Setup) (v : ℕ → LockValue) (l : Local) (found : ℕ)
    → let step = step_of m v l in MovesLocks (move_of step found) (locks_of l) (locks_of (advance_at m v l l.spot (answer_of step.op found)).local)
advance_locks m v l found = moves_at m v l l.spot found refl
