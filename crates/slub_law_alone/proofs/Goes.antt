-- A turn of a call that isn't a try: as long as the call has no reply the worker goes on in it, and once it has one there comes no other.
use Rattle.std.proofs.Common.{◌≡◌, ℕ, zero, suc, ◌+◌, ◌-◌, ◌==◌, ◌%◌, ◌^◌, Bool, true, false, not, ◌&&◌, ◌||◌, if◌then◌else◌, Option, Some, None, List, [], ◌∷◌, length, get_or, set, refl, sym, ap, ◌∙◌, inl, inr}
use Rattle.std.specs.Prelude.{nat_lt}
use Rattle.std.proofs.lemmas.Bool.{cases_Bool, false≢true}
use Rattle.slub_trace.specs.declared.reply.Reply.{Reply}
use Rattle.slub_trace.specs.declared.reply.Reply.TheVariants as reply
use Rattle.slub_words.specs.declared.board.BoardWord.{BoardWord}
use Rattle.slub_cpu_partial.specs.declared.words.ListWord.{ListWord}
use Rattle.slub_page_pool.specs.FreeFrames.{FreeFrames}
use Rattle.slub_object_layout.specs.declared.layout.Layout.{Layout}
use Rattle.slub_red_zone.specs.State.{CheckedState, slab_of, objects_in}
use Rattle.slub_red_zone.specs.declared.checked.CheckedGive.{CheckedGive}
use Rattle.slub_red_zone.specs.declared.checked.CheckedGive.TheVariants as give
use Rattle.slub_trace.specs.declared.damage.Damage.{Damage}
use Rattle.slub_red_zone.specs.Steps.{damage_of_used, with_taken}
use Rattle.slub_core.specs.declared.call.CallKind.{CallKind}
use Rattle.slub_core.specs.declared.call.CallKind.TheVariants.{Alloc, Free, Write, Read, Poke, Trim, Flush}
use Rattle.slub_core.specs.declared.local.Known.{Known}
use Rattle.slub_core.specs.declared.local.Hand.{Hand}
use Rattle.slub_core.specs.declared.local.FrameRun.{FrameRun}
use Rattle.slub_core.specs.declared.local.PartialString.{PartialString}
use Rattle.slub_core.specs.declared.step.Answer.{Answer}
use Rattle.slub_core.specs.declared.step.Answer.TheVariants.{Word, Done, Won, Lost}
use Rattle.slub_core.specs.declared.spot.Spot.{Spot}
use Rattle.slub_core.specs.declared.spot.Spot.TheVariants.{InAlloc, InPutAway, InDiscard, InPutOnList, InFree, InMoveSet, InOffline, InTrim, WriteWord, ReadWord, InChecked}
use Rattle.slub_core.specs.declared.spot.Away.{Away}
use Rattle.slub_core.specs.declared.spot.Away.TheVariants.{ForInstall, ForSpent, ForSweep}
use Rattle.slub_core.specs.declared.spot.Discard.{Discard}
use Rattle.slub_core.specs.declared.spot.Discard.TheVariants.{FromAway, FromFree, FromMove, FromTrim}
use Rattle.slub_core.specs.declared.spot.PutOnList.{PutOnList}
use Rattle.slub_core.specs.declared.spot.PutOnList.TheVariants.{OfRest, OfNode, OfFree}
use Rattle.slub_core.specs.declared.spot.MoveSet.{MoveSet}
use Rattle.slub_core.specs.declared.spot.Sweep.{Sweep}
use Rattle.slub_core.specs.declared.spot.MoveSet.TheVariants.{ForFree, ForOffline}
use Rattle.slub_core.specs.declared.spot.Sweep.TheVariants.{Trimming, Flushing}
use Rattle.slub_core.specs.declared.spot.AllocSpot.{AllocSpot}
use Rattle.slub_core.specs.declared.spot.AllocSpot.TheVariants.{LoadCpu, LoadNext, Pop, Detach, LoadTaken, TakeAll, MarkFull, TakeList, FollowFront, LoadKept, FreezeKept, LockNode, LoadPopped, FreezePopped, Unlist, GiveNode, LockPool, GivePool, GiveDry, LinkNew, Make, LoadReady, LoadAgain, DetachOther, Install, PopNode, TakeRun}
use Rattle.slub_core.specs.declared.spot.PutAwaySpot.{PutAwaySpot}
use Rattle.slub_core.specs.declared.spot.PutAwaySpot.TheVariants.{WalkChain, LockAway, LoadAway, LinkLast, Unfreeze, GiveAway, PutNode}
use Rattle.slub_core.specs.declared.spot.DiscardSpot.{DiscardSpot}
use Rattle.slub_core.specs.declared.spot.DiscardSpot.TheVariants.{Unmake, LockDiscard, GiveDiscard, PutRun}
use Rattle.slub_core.specs.declared.spot.PutOnListSpot.{PutOnListSpot}
use Rattle.slub_core.specs.declared.spot.PutOnListSpot.TheVariants.{LoadList, WalkString, LinkString, PushString}
use Rattle.slub_core.specs.declared.spot.FreeSpot.{FreeSpot}
use Rattle.slub_core.specs.declared.spot.FreeSpot.TheVariants.{TakeBoard, LoadOwn, LinkOwn, Push, LoadSlab, LinkSlab, FreeSlab, LockFree, LoadLocked, GoBack, LinkLocked, FreeLocked, GiveFree, LoadCount, TakeSet, TakeOff}
use Rattle.slub_core.specs.declared.spot.MoveSetSpot.{MoveSetSpot}
use Rattle.slub_core.specs.declared.spot.MoveSetSpot.TheVariants.{LockMove, FollowSet, LoadMoved, ListSlab, GiveMove, ChooseFront, PutTail}
use Rattle.slub_core.specs.declared.spot.OfflineSpot.{OfflineSpot}
use Rattle.slub_core.specs.declared.spot.OfflineSpot.TheVariants.{LoadCurrent, DetachCurrent, TakeCurrent}
use Rattle.slub_core.specs.declared.spot.TrimSpot.{TrimSpot}
use Rattle.slub_core.specs.declared.spot.TrimSpot.TheVariants.{LockTrim, LoadScanned, GiveTrim, ScanNode, DropScanned}
use Rattle.slub_core.specs.declared.spot.CheckedSpot.{CheckedSpot}
use Rattle.slub_core.specs.declared.spot.CheckedSpot.TheVariants.{LockChecked, LockRun, GiveRun, GiveChecked, DoChecked, MoveRun, AddSlab}
use Rattle.slub_core.specs.Calls.{call_offset}
use Rattle.slub_core.specs.Setup.{Setup, pool_lock}
use Rattle.slub_core.specs.Words.{board_in, cpu_in, slab_in, list_in}
use Rattle.slub_core.specs.World.{LockValue, pool_in}
use Rattle.slub_core.specs.Local.{Local, nobody, here, hand_of, run_of, string_of, call_of, at, gets, loses}
use Rattle.slub_core.specs.Alloc.{is_spent, reached, walked_on, found_at, way_of_word, told_of_word, way_of_lost, way_of_away, way_of_again, way_of_run, found_run, run_taken, alloc_advance, pop_node, node_of, asks_for_another}
use Rattle.slub_words.specs.declared.cpu.CpuWord.{CpuWord}
use Rattle.slub_core.specs.PutAway.{put_away_advance, has_enough, head_away, is_to_discard, way_of_put, unfrozen}
use Rattle.slub_core.specs.Discard.{way_of_discarded, discard_advance}
use Rattle.slub_core.specs.PutOnList.{leads_to, with_cursor, way_of_string, way_of_pushed, put_on_list_advance}
use Rattle.slub_core.specs.Free.{is_last_listed, was_full, free_advance, board_taken, is_long, count_loaded, set_taken}
use Rattle.slub_core.specs.MoveSet.{front_taken, move_set_advance, after_move}
use Rattle.slub_core.specs.Offline.{offline_advance, trim_advance, scan_node, next_swept, list_swept}
use Rattle.slub_core.specs.Checked.{checked_advance, do_checked, gave, took_back, is_spare, poked_reply, is_offset, move_run, way_of_found, slabs_of, slot_of}
use Rattle.slub_core.specs.Spots.{doing, of_sweep, of_away, of_discard}
use Rattle.slub_core.specs.Steps.{advance_at, at_once}

-- a reply that such a call has without a step
abbrev pub unstepped : CallKind → Reply → Bool
unstepped Write reply.NotHeld = true
unstepped Write reply.OutOfObject = true
unstepped Read reply.NotHeld = true
unstepped Read reply.OutOfObject = true
unstepped Poke reply.NotChecked = true
unstepped _ _ = false

-- the call that was at this spot has its reply, by a step
pub record Tells (s t : Spot) (reply : Reply) : Type 0 where
  pub kind : CallKind
  pub was : doing s ≡ Some kind
  pub after : doing t ≡ None
  pub stepped : unstepped kind reply ≡ false

abbrev pub Passes : Spot → Spot → Option Reply → Type 0
Passes s t None = doing t ≡ doing s
Passes s t (Some r) = Tells s t r

-- each place is known under the same number
abbrev pub Keeps : List Known → List Known → Type 0
Keeps ks js = (p : ℕ) → (get_or js p nobody).object ≡ (get_or ks p nobody).object

-- whether its call is a try, and its number
abbrev pub mark : Local → Bool × ℕ
mark l = (l.fast, l.worker)

abbrev pub Goes : Local → Spot → Local → Option Reply → Type 0
Goes l s n r = (mark n ≡ mark l) × Passes s n.spot r × Keeps l.known n.known

-- ---- ways

tell : (s t : Spot) (r : Reply) (kind : CallKind) → doing s ≡ Some kind → doing t ≡ None → unstepped kind r ≡ false → Tells s t r
tell s t r kind at after by = record { kind = kind; was = at; after = after; stepped = by }

doing-if : (b : Bool) (s t : Spot) (k : Option CallKind) → doing s ≡ k → doing t ≡ k → doing (if b then s else t) ≡ k
doing-if true s t k a c = a
doing-if false s t k a c = c

set-keeps : (ks : List Known) (p : ℕ) (k : Known) → k.object ≡ (get_or ks p nobody).object → Keeps ks (set ks p k)
set-keeps [] p k same q = refl
set-keeps (j ∷ ks) zero k same zero = same
set-keeps (j ∷ ks) zero k same (suc q) = refl
set-keeps (j ∷ ks) (suc p) k same zero = refl
set-keeps (j ∷ ks) (suc p) k same (suc q) = set-keeps ks p k same q

gets-keeps : (l : Local) (cache frame index : ℕ) → Keeps l.known (gets l cache frame index).known
gets-keeps l cache frame index = set-keeps l.known l.place (record { object = (here l).object; frame = frame; index = index; cache = cache; held = true }) refl

loses-keeps : (l : Local) → Keeps l.known (loses l).known
loses-keeps l = set-keeps l.known l.place (record (here l) { held = false }) refl

-- ---- an allocation

word-passes : (m : Setup) (fast : Bool) (c : CpuWord) → fast ≡ false → Passes (InAlloc LoadCpu) (way_of_word m fast c) (told_of_word m fast c)
word-passes m true c plain = absurd (false≢true (sym plain))
word-passes m false c plain = elim (cases_Bool (is_spent m c)) [
  | inl e ↦ rw e (tell _ _ _ Alloc refl refl refl)
  | inr e ↦ rw e (doing-if (not (c.head == 0)) _ _ _ refl (doing-if (not (c.frame == 0)) _ _ _ refl refl))
]

lost-passes : (fast : Bool) → fast ≡ false → doing (way_of_lost fast) ≡ Some Alloc
lost-passes true plain = absurd (false≢true (sym plain))
lost-passes false plain = refl

away-way : (h : Hand) (away : Away) → doing (way_of_away h away) ≡ of_away away
away-way h away = doing-if ((h.head == 0) || h.walked) _ _ _ refl refl

again-passes : (m : Setup) (h : Hand) (c : CpuWord) → Passes (InAlloc LoadAgain) (way_of_again m h c) (told_of_word m false c)
again-passes m h c = elim (cases_Bool (is_spent m c)) [
  | inl e ↦ rw e (tell _ _ _ Alloc refl (away-way h ForSpent) refl)
  | inr e ↦ rw e (doing-if (c.frame == 0) _ _ _ refl refl)
]

alloc-goes : (m : Setup) (l : Local) (s : AllocSpot) (a : Answer) → l.spot ≡ InAlloc s → l.fast ≡ false → Goes l (InAlloc s) (alloc_advance m l s a).local (alloc_advance m l s a).reply
alloc-goes m l LoadCpu (Word x) is plain = (refl, word-passes m l.fast (cpu_in x) plain, λ p. refl)
alloc-goes m l LoadNext (Word x) is plain = (refl, refl, λ p. refl)
alloc-goes m l Pop Won is plain = (refl, tell _ _ _ Alloc refl refl refl, gets-keeps l l.cache l.cpu_word.frame (l.cpu_word.head - 1))
alloc-goes m l Pop (Lost x) is plain = (refl, lost-passes l.fast plain, λ p. refl)
alloc-goes m l Detach Won is plain = (refl, refl, λ p. refl)
alloc-goes m l Detach (Lost x) is plain = (refl, refl, λ p. refl)
alloc-goes m l LoadTaken (Word x) is plain = (refl, doing-if ((slab_in x).head == 0) _ _ _ refl refl, λ p. refl)
alloc-goes m l TakeAll Won is plain = (refl, refl, λ p. refl)
alloc-goes m l TakeAll (Lost x) is plain = (refl, refl, λ p. refl)
alloc-goes m l MarkFull Won is plain = (refl, refl, λ p. refl)
alloc-goes m l MarkFull (Lost x) is plain = (refl, refl, λ p. refl)
alloc-goes m l TakeList (Word x) is plain = (refl, doing-if ((list_in x).count == 0) _ _ _ refl (doing-if ((list_in x).count == 1) _ _ _ refl refl), λ p. refl)
alloc-goes m l FollowFront (Word x) is plain = (refl, refl, λ p. refl)
alloc-goes m l LoadKept (Word x) is plain = (refl, refl, λ p. refl)
alloc-goes m l FreezeKept Won is plain = (refl, refl, λ p. refl)
alloc-goes m l FreezeKept (Lost x) is plain = (refl, refl, λ p. refl)
alloc-goes m l LockNode Won is plain = (refl, refl, λ p. refl)
alloc-goes m l LoadPopped (Word x) is plain = (refl, doing-if (length l.hands == 1) _ _ _ refl refl, λ p. refl)
alloc-goes m l FreezePopped Won is plain = (refl, refl, λ p. refl)
alloc-goes m l FreezePopped (Lost x) is plain = (refl, refl, λ p. refl)
alloc-goes m l Unlist Won is plain = (refl, refl, λ p. refl)
alloc-goes m l Unlist (Lost x) is plain = (refl, refl, λ p. refl)
alloc-goes m l GiveNode Done is plain = (refl, doing-if (length l.hands == 0) _ _ _ refl refl, λ p. refl)
alloc-goes m l LockPool Won is plain = (refl, refl, λ p. refl)
alloc-goes m l GivePool Done is plain = (refl, refl, λ p. refl)
alloc-goes m l GiveDry Done is plain = (refl, refl, λ p. refl)
alloc-goes m l (LinkNew i) Done is plain = (refl, doing-if (nat_lt (i + 1) (run_of l).objects) _ _ _ refl refl, λ p. refl)
alloc-goes m l Make Done is plain = (refl, refl, λ p. refl)
alloc-goes m l LoadReady (Word x) is plain = (refl, refl, λ p. refl)
alloc-goes m l LoadAgain (Word x) is plain = (refl, again-passes m (hand_of l) (cpu_in x), λ p. refl)
alloc-goes m l DetachOther Won is plain = (refl, doing-if ((l.cpu_word.head == 0) || false) _ _ _ refl refl, λ p. refl)
alloc-goes m l DetachOther (Lost x) is plain = (refl, refl, λ p. refl)
alloc-goes m l Install Won is plain = (refl, tell _ _ _ Alloc refl refl refl, gets-keeps l l.cache (hand_of l).frame ((hand_of l).head - 1))
alloc-goes m l Install (Lost x) is plain = (refl, refl, λ p. refl)
alloc-goes m l s a is plain = (refl, ap doing is, λ p. refl)

-- ---- putting away, discarding, a string before a list

put-way : (away : Away) → doing (way_of_put away) ≡ of_away away
put-way ForInstall = refl
put-way ForSpent = refl
put-way (ForSweep sweep) = refl

unfrozen-goes : (m : Setup) (value : ℕ → LockValue) (l : Local) (away : Away) → Goes l (InPutAway Unfreeze away) (unfrozen m value l away) None
unfrozen-goes m value l away = elim (cases_Bool (head_away (hand_of l) l.slab_word == 0)) [
  | inl e ↦ rw e (refl, refl, λ p. refl)
  | inr e ↦ rw e (refl, doing-if (is_to_discard m value l) _ _ _ refl refl, λ p. refl)
]

put_away-goes : (m : Setup) (value : ℕ → LockValue) (l : Local) (s : PutAwaySpot) (away : Away) (a : Answer) → l.spot ≡ InPutAway s away → Goes l (InPutAway s away) (put_away_advance m value l s away a).local (put_away_advance m value l s away a).reply
put_away-goes m value l WalkChain away (Word x) is = (refl, away-way (walked_on (hand_of l) (found_at m l.cache (hand_of l).frame (reached (hand_of l) - 1) x)) away, λ p. refl)
put_away-goes m value l LockAway away Won is = (refl, refl, λ p. refl)
put_away-goes m value l LoadAway away (Word x) is = (refl, doing-if ((hand_of l).head == 0) _ _ _ refl refl, λ p. refl)
put_away-goes m value l LinkLast away Done is = (refl, refl, λ p. refl)
put_away-goes m value l Unfreeze away Won is = unfrozen-goes m value l away
put_away-goes m value l Unfreeze away (Lost x) is = (refl, refl, λ p. refl)
put_away-goes m value l GiveAway away Done is = (refl, put-way away, λ p. refl)
put_away-goes m value l s away a is = (refl, ap doing is, λ p. refl)

discarded-way : (discard : Discard) → doing (way_of_discarded discard) ≡ of_discard discard
discarded-way (FromAway away) = refl
discarded-way FromFree = refl
discarded-way (FromMove move) = refl
discarded-way FromTrim = refl

discard-goes : (m : Setup) (l : Local) (s : DiscardSpot) (discard : Discard) (a : Answer) → l.spot ≡ InDiscard s discard → Goes l (InDiscard s discard) (discard_advance m l s discard a).local (discard_advance m l s discard a).reply
discard-goes m l Unmake discard Done is = (refl, refl, λ p. refl)
discard-goes m l LockDiscard discard Won is = (refl, refl, λ p. refl)
discard-goes m l GiveDiscard discard Done is = (refl, discarded-way discard, λ p. refl)
discard-goes m l s discard a is = (refl, ap doing is, λ p. refl)

put-doing : (s t : PutOnListSpot) (put : PutOnList) → doing (InPutOnList t put) ≡ doing (InPutOnList s put)
put-doing s t OfRest = refl
put-doing s t OfNode = refl
put-doing s t OfFree = refl

pushed-way : (put : PutOnList) → doing (way_of_pushed put) ≡ doing (InPutOnList PushString put)
pushed-way OfRest = refl
pushed-way OfNode = refl
pushed-way OfFree = refl

string-way : (string : PartialString) (s : PutOnListSpot) (put : PutOnList) → doing (way_of_string string put) ≡ doing (InPutOnList s put)
string-way string s put = doing-if (nat_lt string.place string.count) _ _ _ (put-doing s WalkString put) (put-doing s LinkString put)

put_on_list-goes : (l : Local) (s : PutOnListSpot) (put : PutOnList) (a : Answer) → l.spot ≡ InPutOnList s put → Goes l (InPutOnList s put) (put_on_list_advance l s put a).local (put_on_list_advance l s put a).reply
put_on_list-goes l LoadList put (Word x) is =
    (refl, doing-if (leads_to (string_of l).link (list_in x).front) _ _ _ (put-doing LoadList PushString put) (string-way (string_of l) LoadList put), λ p. refl)
put_on_list-goes l WalkString put (Word x) is = (refl, string-way (with_cursor (string_of l) (x % 2 ^ 16)) WalkString put, λ p. refl)
put_on_list-goes l LinkString put Done is = (refl, put-doing LinkString PushString put, λ p. refl)
put_on_list-goes l PushString put Won is = (refl, pushed-way put, λ p. refl)
put_on_list-goes l PushString put (Lost x) is = (refl, put-doing PushString LoadList put, λ p. refl)
put_on_list-goes l s put a is = (refl, ap doing is, λ p. refl)

-- ---- a sweep

next-goes : (m : Setup) (l : Local) (s : Spot) (sweep : Sweep) → doing s ≡ of_sweep sweep → Goes l s (next_swept m l sweep).local (next_swept m l sweep).reply
next-goes m l s Trimming at = (refl, doing-if (nat_lt (l.cpu + 1) m.cpus) _ _ _ refl refl ∙ sym at, λ p. refl)
next-goes m l s Flushing at = elim (cases_Bool (nat_lt (l.turn + 1) (length m.plain))) [
  | inl e ↦ rw e (refl, sym at, λ p. refl)
  | inr e ↦ rw e (refl, tell _ _ _ Flush at refl refl, λ p. refl)
]

move-goes : (m : Setup) (l : Local) (move : MoveSet) → Goes l (InMoveSet GiveMove move) (after_move m l move).local (after_move m l move).reply
move-goes m l ForFree = (refl, refl, λ p. refl)
move-goes m l (ForOffline sweep) = next-goes m l (InMoveSet GiveMove (ForOffline sweep)) sweep refl

swept-goes : (m : Setup) (l : Local) (sweep : Sweep) (list : ListWord) → Goes l (InOffline TakeCurrent sweep) (list_swept m l sweep list).local (list_swept m l sweep list).reply
swept-goes m l sweep list = elim (cases_Bool (list.count == 0)) [
  | inl e ↦ rw e (next-goes m l (InOffline TakeCurrent sweep) sweep refl)
  | inr e ↦ rw e (refl, refl, λ p. refl)
]

offline-goes : (m : Setup) (l : Local) (s : OfflineSpot) (sweep : Sweep) (a : Answer) → l.spot ≡ InOffline s sweep → Goes l (InOffline s sweep) (offline_advance m l s sweep a).local (offline_advance m l s sweep a).reply
offline-goes m l LoadCurrent sweep (Word x) is = (refl, doing-if ((cpu_in x).frame == 0) _ _ _ refl refl, λ p. refl)
offline-goes m l DetachCurrent sweep Won is = (refl, doing-if ((l.cpu_word.head == 0) || false) _ _ _ refl refl, λ p. refl)
offline-goes m l DetachCurrent sweep (Lost x) is = (refl, refl, λ p. refl)
offline-goes m l TakeCurrent sweep (Word x) is = swept-goes m l sweep (list_in x)
offline-goes m l s sweep a is = (refl, ap doing is, λ p. refl)

trim-goes : (l : Local) (s : TrimSpot) (a : Answer) → l.spot ≡ InTrim s → Goes l (InTrim s) (trim_advance l s a).local (trim_advance l s a).reply
trim-goes l LockTrim Won is = (refl, refl, λ p. refl)
trim-goes l LoadScanned (Word x) is = (refl, doing-if ((slab_in x).inuse == 0) _ _ _ refl refl, λ p. refl)
trim-goes l GiveTrim Done is = (refl, tell _ _ _ Trim refl refl refl, λ p. refl)
trim-goes l s a is = (refl, ap doing is, λ p. refl)

-- ---- a free, a set that is moved

board-goes : (m : Setup) (l : Local) (b : Option BoardWord) → Goes l (InFree TakeBoard) (board_taken m l b).local (board_taken m l b).reply
board-goes m l None = (refl, tell _ _ _ Free refl refl refl, λ p. refl)
board-goes m l (Some b) = (refl, doing-if (m.checks b.cache) _ _ _ refl refl, gets-keeps l b.cache b.frame b.index)

counted-goes : (m : Setup) (l : Local) (list : ListWord) → Goes l (InFree LoadCount) (count_loaded m l list) None
counted-goes m l list = elim (cases_Bool (is_long m l list)) [ inl e ↦ rw e (refl, refl, λ p. refl) | inr e ↦ rw e (refl, refl, λ p. refl) ]

taken-goes : (l : Local) (list : ListWord) → Goes l (InFree TakeSet) (set_taken l list) None
taken-goes l list = elim (cases_Bool (list.count == 0)) [ inl e ↦ rw e (refl, refl, λ p. refl) | inr e ↦ rw e (refl, refl, λ p. refl) ]

free-goes : (m : Setup) (l : Local) (s : FreeSpot) (a : Answer) → l.spot ≡ InFree s → Goes l (InFree s) (free_advance m l s a).local (free_advance m l s a).reply
free-goes m l TakeBoard (Word x) is = board-goes m l (board_in x)
free-goes m l LoadOwn (Word x) is = (refl, doing-if (((cpu_in x).frame == (here l).frame) && not (is_spent m (cpu_in x))) _ _ _ refl refl, λ p. refl)
free-goes m l LinkOwn Done is = (refl, refl, λ p. refl)
free-goes m l Push Won is = (refl, tell _ _ _ Free refl refl refl, loses-keeps l)
free-goes m l Push (Lost x) is = (refl, refl, λ p. refl)
free-goes m l LoadSlab (Word x) is = (refl, doing-if (is_last_listed (slab_in x)) _ _ _ refl refl, λ p. refl)
free-goes m l LinkSlab Done is = (refl, refl, λ p. refl)
free-goes m l FreeSlab Won is = (refl, tell _ _ _ Free refl (doing-if (was_full l.slab_word) _ _ _ refl refl) refl, loses-keeps l)
free-goes m l FreeSlab (Lost x) is = (refl, refl, λ p. refl)
free-goes m l LockFree Won is = (refl, refl, λ p. refl)
free-goes m l LoadLocked (Word x) is = (refl, doing-if (is_last_listed (slab_in x)) _ _ _ refl refl, λ p. refl)
free-goes m l GoBack Done is = (refl, refl, λ p. refl)
free-goes m l LinkLocked Done is = (refl, refl, λ p. refl)
free-goes m l FreeLocked Won is = (refl, tell _ _ _ Free refl refl refl, loses-keeps l)
free-goes m l FreeLocked (Lost x) is = (refl, refl, λ p. refl)
free-goes m l GiveFree Done is = (refl, refl, λ p. refl)
free-goes m l LoadCount (Word x) is = counted-goes m l (list_in x)
free-goes m l TakeSet (Word x) is = taken-goes l (list_in x)
free-goes m l s a is = (refl, ap doing is, λ p. refl)

move_set-goes : (m : Setup) (value : ℕ → LockValue) (l : Local) (s : MoveSetSpot) (move : MoveSet) (a : Answer) → l.spot ≡ InMoveSet s move → Goes l (InMoveSet s move) (move_set_advance m value l s move a).local (move_set_advance m value l s move a).reply
move_set-goes m value l LockMove move Won is = (refl, refl, λ p. refl)
move_set-goes m value l FollowSet move (Word x) is = (refl, refl, λ p. refl)
move_set-goes m value l LoadMoved move (Word x) is = (refl, doing-if (((slab_in x).inuse == 0) && has_enough m value l) _ _ _ refl refl, λ p. refl)
move_set-goes m value l ListSlab move Won is = (refl, refl, λ p. refl)
move_set-goes m value l ListSlab move (Lost x) is = (refl, refl, λ p. refl)
move_set-goes m value l GiveMove move Done is = move-goes m l move
move_set-goes m value l s move a is = (refl, ap doing is, λ p. refl)

-- ---- a checked cache

run-way : (kind : CallKind) → doing (InChecked MoveRun kind) ≡ doing (InChecked LockRun kind)
run-way Alloc = refl
run-way Free = refl
run-way Write = refl
run-way Read = refl
run-way Poke = refl
run-way Trim = refl
run-way Flush = refl

checked-goes : (l : Local) (s : CheckedSpot) (kind : CallKind) (a : Answer) → l.spot ≡ InChecked s kind → Goes l (InChecked s kind) (checked_advance l s kind a).local (checked_advance l s kind a).reply
checked-goes l LockChecked kind Won is = (refl, refl, λ p. refl)
checked-goes l LockRun kind Won is = (refl, run-way kind, λ p. refl)
checked-goes l GiveRun kind Done is = (refl, refl, λ p. refl)
checked-goes l GiveChecked kind Done is = (refl, refl, λ p. refl)
checked-goes l s kind a is = (refl, ap doing is, λ p. refl)

-- ---- where an answer leads

pub turn-goes : (m : Setup) (value : ℕ → LockValue) (l : Local) (s : Spot) (a : Answer) → l.spot ≡ s → l.fast ≡ false → Goes l s (advance_at m value l s a).local (advance_at m value l s a).reply
turn-goes m value l (InAlloc s) a is plain = alloc-goes m l s a is plain
turn-goes m value l (InPutAway s away) a is plain = put_away-goes m value l s away a is
turn-goes m value l (InDiscard s discard) a is plain = discard-goes m l s discard a is
turn-goes m value l (InPutOnList s put) a is plain = put_on_list-goes l s put a is
turn-goes m value l (InFree s) a is plain = free-goes m l s a is
turn-goes m value l (InMoveSet s move) a is plain = move_set-goes m value l s move a is
turn-goes m value l (InOffline s sweep) a is plain = offline-goes m l s sweep a is
turn-goes m value l (InTrim s) a is plain = trim-goes l s a is
turn-goes m value l WriteWord Done is plain = (refl, tell _ _ _ Write refl refl refl, λ p. refl)
turn-goes m value l ReadWord (Word x) is plain = (refl, tell _ _ _ Read refl refl refl, λ p. refl)
turn-goes m value l (InChecked s kind) a is plain = checked-goes l s kind a is
turn-goes m value l s a is plain = (refl, ap doing is, λ p. refl)

-- ---- changes at once

pop-goes : (m : Setup) (value : ℕ → LockValue) (l : Local) (frames : List ℕ) → Goes l (InAlloc PopNode) (pop_node m value l frames).local (pop_node m value l frames).reply
pop-goes m value l [] = (refl, refl, λ p. refl)
pop-goes m value l (frame ∷ frames) = elim (cases_Bool (asks_for_another m l)) [ inl e ↦ rw e (refl, refl, λ p. refl) | inr e ↦ rw e (refl, refl, λ p. refl) ]

run-goes : (value : ℕ → LockValue) (pool : FreeFrames) (layout : Layout) (l : Local) (s : Spot) (way : Option FrameRun → Spot) (run : Option FrameRun) → doing s ≡ Some Alloc → doing (way None) ≡ None → ((r : FrameRun) → doing (way (Some r)) ≡ Some Alloc)
    → Goes l s (run_taken value pool layout (at l (way run)) run).local (run_taken value pool layout (at l (way run)) run).reply
run-goes value pool layout l s way None at none some = (refl, tell _ _ _ Alloc at none refl, λ p. refl)
run-goes value pool layout l s way (Some run) at none some = (refl, some run ∙ sym at, λ p. refl)

scan-goes : (m : Setup) (value : ℕ → LockValue) (l : Local) (frames : List ℕ) → Goes l (InTrim ScanNode) (scan_node m value l frames).local (scan_node m value l frames).reply
scan-goes m value l frames = elim (cases_Bool (nat_lt (length l.scanned) (length frames))) [
  | inl e ↦ rw e (refl, refl, λ p. refl)
  | inr e ↦ rw e (refl, refl, λ p. refl)
]

front-goes : (l : Local) (move : MoveSet) (string : Option PartialString) → Goes l (InMoveSet ChooseFront move) (front_taken l move string) None
front-goes l move None = (refl, refl, λ p. refl)
front-goes l move (Some string) = elim (cases_Bool (string.count == 1)) [ inl e ↦ rw e (refl, refl, λ p. refl) | inr e ↦ rw e (refl, refl, λ p. refl) ]

gave-goes : (m : Setup) (value : ℕ → LockValue) (l : Local) (after : CheckedState) (g : CheckedGive) → Goes l (InChecked DoChecked Alloc) (gave m value l after g).local (gave m value l after g).reply
gave-goes m value l after (give.Given slot) = (refl, tell _ _ _ Alloc refl refl refl, gets-keeps l l.cache slot.frame slot.index)
gave-goes m value l after give.Empty = (refl, refl, λ p. refl)

took-goes : (m : Setup) (value : ℕ → LockValue) (l : Local) (s : CheckedState) (d : Option Damage) → Goes l (InChecked DoChecked Free) (took_back m value l s d).local (took_back m value l s d).reply
took-goes m value l s None = (refl, tell _ _ _ Free refl (doing-if (is_spare m (with_taken s (slot_of l)) l.cache (here l).frame) _ _ _ refl refl) refl, loses-keeps l)
took-goes m value l s (Some damage) = (refl, tell _ _ _ Free refl refl refl, λ p. refl)

unstepped-if : (b : Bool) (r q : Reply) → unstepped Poke r ≡ false → unstepped Poke q ≡ false → unstepped Poke (if b then r else q) ≡ false
unstepped-if true r q a c = a
unstepped-if false r q a c = c

poked-stepped : (l : Local) (s : CheckedState) → unstepped Poke (poked_reply l s) ≡ false
poked-stepped l s = unstepped-if (is_offset s.layout (call_offset (call_of l))) _ _ (unstepped-if (nat_lt (here l).index (objects_in (slab_of s (here l).frame))) _ _ refl refl) refl

do-goes : (m : Setup) (value : ℕ → LockValue) (l : Local) (kind : CallKind) (s : CheckedState) → l.spot ≡ InChecked DoChecked kind → Goes l (InChecked DoChecked kind) (do_checked m value l kind s).local (do_checked m value l kind s).reply
do-goes m value l Alloc s is = gave-goes m value l (m.means.give s) (m.means.gave s)
do-goes m value l Free s is = took-goes m value l s (damage_of_used s (slot_of l))
do-goes m value l Write s is = (refl, tell _ _ _ Write refl refl refl, λ p. refl)
do-goes m value l Read s is = (refl, tell _ _ _ Read refl refl refl, λ p. refl)
do-goes m value l Poke s is = (refl, tell _ _ _ Poke refl refl (poked-stepped l s), λ p. refl)
do-goes m value l kind s is = (refl, ap doing is, λ p. refl)

move_run-goes : (m : Setup) (value : ℕ → LockValue) (l : Local) (kind : CallKind) (pool : FreeFrames) → Goes l (InChecked MoveRun kind) (move_run m value l kind pool).local (move_run m value l kind pool).reply
move_run-goes m value l Alloc pool = run-goes value pool (m.layout l.cache) l (InChecked MoveRun Alloc) way_of_found (found_run m pool (m.layout l.cache)) refl refl (λ r. refl)
move_run-goes m value l kind pool = (refl, refl, λ p. refl)

pub change-goes : (m : Setup) (refused : Bool) (value : ℕ → LockValue) (l : Local) (s : Spot) → l.spot ≡ s → Goes l s (at_once m refused value l s).local (at_once m refused value l s).reply
change-goes m refused value l (InAlloc PopNode) is = pop-goes m value l (node_of value l)
change-goes m refused value l (InAlloc TakeRun) is =
    let pool = pool_in (value pool_lock) in
    run-goes value pool (m.layout l.cache) l (InAlloc TakeRun) way_of_run (found_run m pool (m.layout l.cache)) refl refl (λ r. refl)
change-goes m refused value l (InPutAway PutNode away) is = (refl, refl, λ p. refl)
change-goes m refused value l (InDiscard PutRun discard) is = (refl, refl, λ p. refl)
change-goes m refused value l (InFree TakeOff) is = elim (cases_Bool (has_enough m value l)) [ inl e ↦ rw e (refl, refl, λ p. refl) | inr e ↦ rw e (refl, refl, λ p. refl) ]
change-goes m refused value l (InMoveSet ChooseFront move) is = front-goes l move l.string
change-goes m refused value l (InMoveSet PutTail move) is = (refl, refl, λ p. refl)
change-goes m refused value l (InTrim ScanNode) is = scan-goes m value l (node_of value l)
change-goes m refused value l (InTrim DropScanned) is = (refl, refl, λ p. refl)
change-goes m refused value l (InChecked DoChecked kind) is = do-goes m value l kind (slabs_of m value l) is
change-goes m refused value l (InChecked MoveRun kind) is = move_run-goes m value l kind (pool_in (value pool_lock))
change-goes m true value l (InChecked AddSlab kind) is = (refl, tell _ _ _ Alloc refl refl refl, λ p. refl)
change-goes m false value l (InChecked AddSlab kind) is = (refl, tell _ _ _ Alloc refl refl refl, gets-keeps l l.cache (run_of l).frame 0)
change-goes m refused value l s is = (refl, ap doing is, λ p. refl)
