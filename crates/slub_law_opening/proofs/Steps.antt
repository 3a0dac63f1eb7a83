-- Where an answer leads a worker, it counts no further than its numbers go.
use Rattle.std.proofs.Common.{◌≡◌, ℕ, ◌+◌, ◌-◌, ◌*◌, ◌%◌, ◌^◌, ◌<◌, ◌≤◌, ◌==◌, ◌&&◌, ◌||◌, not, Bool, true, false, Option, Some, None, length, refl, sym, ap, ◌∙◌, subst, arith, inl, inr}
use Rattle.std.specs.Prelude.{nat_lt, if◌then◌else◌}
use Rattle.std.proofs.lemmas.Bool.{cases_Bool, false≢true}
use Rattle.slub_words.specs.declared.board.BoardWord.{BoardWord}
use Rattle.slub_cpu_partial.specs.declared.words.ListWord.{ListWord}
use Rattle.slub_core.specs.declared.local.Hand.{Hand}
use Rattle.slub_core.specs.declared.call.CallKind.{CallKind}
use Rattle.slub_core.specs.declared.call.CallKind.TheVariants.{Flush}
use Rattle.slub_core.specs.declared.step.Answer.{Answer}
use Rattle.slub_core.specs.declared.step.Answer.TheVariants.{Word, Done, Won, Lost}
use Rattle.slub_core.specs.declared.spot.Spot.{Spot}
use Rattle.slub_core.specs.declared.spot.Spot.TheVariants.{InAlloc, InPutAway, InDiscard, InPutOnList, InFree, InMoveSet, InOffline, InTrim, WriteWord, ReadWord, InChecked}
use Rattle.slub_core.specs.declared.spot.Away.{Away}
use Rattle.slub_core.specs.declared.spot.Discard.{Discard}
use Rattle.slub_core.specs.declared.spot.PutOnList.{PutOnList}
use Rattle.slub_core.specs.declared.spot.MoveSet.{MoveSet}
use Rattle.slub_core.specs.declared.spot.Sweep.{Sweep}
use Rattle.slub_core.specs.declared.spot.MoveSet.TheVariants.{ForFree, ForOffline}
use Rattle.slub_core.specs.declared.spot.Sweep.TheVariants.{Trimming, Flushing}
use Rattle.slub_core.specs.declared.spot.AllocSpot.{AllocSpot}
use Rattle.slub_core.specs.declared.spot.AllocSpot.TheVariants.{LoadCpu, LoadNext, Pop, Detach, LoadTaken, TakeAll, MarkFull, TakeList, FollowFront, LoadKept, FreezeKept, LockNode, LoadPopped, FreezePopped, Unlist, GiveNode, LockPool, GivePool, GiveDry, LinkNew, Make, LoadReady, LoadAgain, DetachOther, Install}
use Rattle.slub_core.specs.declared.spot.PutAwaySpot.{PutAwaySpot}
use Rattle.slub_core.specs.declared.spot.PutAwaySpot.TheVariants.{WalkChain, LockAway, LoadAway, LinkLast, Unfreeze, GiveAway}
use Rattle.slub_core.specs.declared.spot.DiscardSpot.{DiscardSpot}
use Rattle.slub_core.specs.declared.spot.DiscardSpot.TheVariants.{Unmake, LockDiscard, GiveDiscard}
use Rattle.slub_core.specs.declared.spot.PutOnListSpot.{PutOnListSpot}
use Rattle.slub_core.specs.declared.spot.PutOnListSpot.TheVariants.{LoadList, WalkString, LinkString, PushString}
use Rattle.slub_core.specs.declared.spot.FreeSpot.{FreeSpot}
use Rattle.slub_core.specs.declared.spot.FreeSpot.TheVariants.{TakeBoard, LoadOwn, LinkOwn, Push, LoadSlab, LinkSlab, FreeSlab, LockFree, LoadLocked, GoBack, LinkLocked, FreeLocked, GiveFree, LoadCount, TakeSet}
use Rattle.slub_core.specs.declared.spot.MoveSetSpot.{MoveSetSpot}
use Rattle.slub_core.specs.declared.spot.MoveSetSpot.TheVariants.{LockMove, FollowSet, LoadMoved, ListSlab, GiveMove}
use Rattle.slub_core.specs.declared.spot.OfflineSpot.{OfflineSpot}
use Rattle.slub_core.specs.declared.spot.OfflineSpot.TheVariants.{LoadCurrent, DetachCurrent, TakeCurrent}
use Rattle.slub_core.specs.declared.spot.TrimSpot.{TrimSpot}
use Rattle.slub_core.specs.declared.spot.TrimSpot.TheVariants.{LockTrim, LoadScanned, GiveTrim, ScanNode, DropScanned}
use Rattle.slub_core.specs.declared.spot.CheckedSpot.{CheckedSpot}
use Rattle.slub_core.specs.declared.spot.CheckedSpot.TheVariants.{LockChecked, LockRun, GiveRun, GiveChecked}
use Rattle.slub_core.specs.declared.spot.Away.TheVariants.{ForInstall, ForSpent, ForSweep}
use Rattle.slub_core.specs.declared.spot.Discard.TheVariants.{FromAway, FromFree, FromMove, FromTrim}
use Rattle.slub_core.specs.declared.spot.PutOnList.TheVariants.{OfRest, OfNode, OfFree}
use Rattle.slub_core.specs.Setup.{Setup}
use Rattle.slub_core.specs.Words.{cpu_in, slab_in, board_in, list_in}
use Rattle.slub_core.specs.World.{LockValue}
use Rattle.slub_core.specs.Local.{Local, here, hand_of, hand_from, string_of, run_of, at, set_hand}
use Rattle.slub_core.specs.Alloc.{alloc_advance, is_spent, way_of_away, walked_on, reached, found_at, node_of}
use Rattle.slub_core.specs.PutAway.{put_away_advance, head_away, is_to_discard, way_of_put}
use Rattle.slub_core.specs.Discard.{counts_for, way_of_discarded, discard_advance}
use Rattle.slub_core.specs.PutOnList.{puts, leads_to, way_of_pushed, with_cursor, put_on_list_advance}
use Rattle.slub_core.specs.Free.{free_advance, board_taken, is_last_listed, was_full, is_long, count_loaded, set_taken}
use Rattle.slub_core.specs.MoveSet.{move_set_advance, after_move}
use Rattle.slub_core.specs.Offline.{if_trimming, if_flushing, offline_advance, trim_advance, next_swept, list_swept}
use Rattle.slub_core.specs.Checked.{checked_advance}
use Rattle.slub_core.specs.PutAway.{has_enough}
use Rattle.slub_core.specs.Spots.{in_plain, least_string, scans_next, doing, of_sweep}
use Rattle.slub_core.specs.Steps.{advance_at}
use Rattle.slub_law_opening.specs.Bounded.{asks_node, come_to, come_by, left_to_move, left_to_tell, CountsFew}

-- ---- what is asked of the machine

-- what a worker at a spot has come to lies within the machine: its CPU or cache, its string, and its place on the node list
pub record KnowsFew (value : ℕ → LockValue) (l : Local) (s : Spot) : Type 0 where
  pub cpu : l.cpu < 16
  pub turn : doing s ≡ Some Flush → l.turn < 32
  pub nodes : in_plain s ≡ true → length (node_of value l) ≤ 4095
  pub least : least_string s ≤ (string_of l).count
  pub next : scans_next s ≡ true → length l.scanned < length (node_of value l)

-- ---- spots at which nothing is counted

-- no slab is asked for and no sweep is under way
abbrev pub IsCalm : Spot → Type 0
IsCalm s = (asks_node s ≡ false) × ((a b : ℕ) → left_to_tell a b s ≡ 0) × ((a b : ℕ) → come_by a b s ≡ 33)

pub calm-if : (b : Bool) (s t : Spot) → IsCalm s → IsCalm t → IsCalm (if b then s else t)
calm-if true s t one other = one
calm-if false s t one other = other

pub calm : (m : Setup) (value : ℕ → LockValue) (n : Local) → n.put ≤ 4097 → n.count ≤ 135168 → IsCalm n.spot → CountsFew m value n n.spot
calm m value n put count is = record {
  put = put;
  asked = λ asks. absurd (false≢true (sym is.0 ∙ asks));
  count = let a = is.1 (string_of n).count (length (node_of value n)) in let b = is.2 n.cpu n.turn in omega arith;
}

pub away-calm : (hand : Hand) (away : Away) → IsCalm (InPutAway LockAway away) → IsCalm (InPutAway WalkChain away) → IsCalm (way_of_away hand away)
away-calm hand away lock walk = calm-if ((hand.head == 0) || hand.walked) (InPutAway LockAway away) (InPutAway WalkChain away) lock walk

-- at such a spot
pub calm-count : (m : Setup) (value : ℕ → LockValue) (l : Local) (s : Spot) → IsCalm s → CountsFew m value l s → l.count ≤ 135168
calm-count m value l s is ok = let c = ok.count in let a = is.1 (string_of l).count (length (node_of value l)) in let b = is.2 l.cpu l.turn in omega arith

-- a spot at which no slab is asked for
pub goes-few : {m : Setup} {value : ℕ → LockValue} {n : Local} {s : Spot} → n.put ≤ 4097 → asks_node s ≡ false → n.count + left_to_tell (string_of n).count (length (node_of value n)) s ≤ 4096 * come_by n.cpu n.turn s → CountsFew m value n s
goes-few put none count = record { put = put; asked = λ asks. absurd (false≢true (sym none ∙ asks)); count = count }

pub few-if : (m : Setup) (value : ℕ → LockValue) (n : Local) (b : Bool) (s t : Spot) → CountsFew m value n s → CountsFew m value n t → CountsFew m value n (if b then s else t)
few-if m value n true s t one other = one
few-if m value n false s t one other = other

-- ---- the next CPU of a trim, the next cache of a flush

next-few : (m : Setup) (value : ℕ → LockValue) (l : Local) (sweep : Sweep) → l.put ≤ 4097 → l.count ≤ 4096 * (come_to l.cpu l.turn sweep + 1) → (sweep ≡ Flushing → l.turn < 32)
    → let n = (next_swept m l sweep).local in CountsFew m value n n.spot
next-few m value l Trimming put count turn = elim (cases_Bool (nat_lt (l.cpu + 1) m.cpus)) [
  | inl e ↦ rw e (goes-few put refl (omega arith))
  | inr e ↦ rw e (goes-few put refl (omega arith))
]
next-few m value l Flushing put count turn =
    let below = turn refl in
    elim (cases_Bool (nat_lt (l.turn + 1) (length m.plain))) [
      | inl e ↦ rw e (goes-few put refl (omega arith))
      | inr e ↦ rw e (goes-few put refl (omega arith))
    ]

-- ---- by path

alloc-same : (m : Setup) (value : ℕ → LockValue) (l : Local) (s : AllocSpot) → CountsFew m value l (InAlloc s) → l.count ≤ 135168
alloc-same m value l s ok = let c = ok.count in omega arith

one-most : (b : Bool) → (if b then 1 else 0) ≤ 1
one-most true = omega arith
one-most false = omega arith

alloc-few : (m : Setup) (value : ℕ → LockValue) (l : Local) (s : AllocSpot) (a : Answer) → l.spot ≡ InAlloc s → CountsFew m value l (InAlloc s) → let n = (alloc_advance m l s a).local in CountsFew m value n n.spot
alloc-few m value l LoadCpu (Word x) is ok = calm m value _ ok.put (alloc-same m value l _ ok) (calm-if (is_spent m (cpu_in x)) _ _ (refl, λ a b. refl, λ a b. refl) (calm-if (not ((cpu_in x).head == 0)) _ _ (refl, λ a b. refl, λ a b. refl) (calm-if l.fast _ _ (refl, λ a b. refl, λ a b. refl) (calm-if (not ((cpu_in x).frame == 0)) _ _ (refl, λ a b. refl, λ a b. refl) (refl, λ a b. refl, λ a b. refl)))))
alloc-few m value l LoadNext (Word x) is ok = calm m value _ ok.put (alloc-same m value l _ ok) (refl, λ a b. refl, λ a b. refl)
alloc-few m value l Pop Won is ok = calm m value _ ok.put (alloc-same m value l _ ok) (refl, λ a b. refl, λ a b. refl)
alloc-few m value l Pop (Lost x) is ok = calm m value _ ok.put (alloc-same m value l _ ok) (calm-if l.fast _ _ (refl, λ a b. refl, λ a b. refl) (refl, λ a b. refl, λ a b. refl))
alloc-few m value l Detach Won is ok = calm m value _ ok.put (alloc-same m value l _ ok) (refl, λ a b. refl, λ a b. refl)
alloc-few m value l Detach (Lost x) is ok = calm m value _ ok.put (alloc-same m value l _ ok) (refl, λ a b. refl, λ a b. refl)
alloc-few m value l LoadTaken (Word x) is ok = calm m value _ ok.put (alloc-same m value l _ ok) (calm-if ((slab_in x).head == 0) _ _ (refl, λ a b. refl, λ a b. refl) (refl, λ a b. refl, λ a b. refl))
alloc-few m value l TakeAll Won is ok = calm m value _ ok.put (alloc-same m value l _ ok) (refl, λ a b. refl, λ a b. refl)
alloc-few m value l TakeAll (Lost x) is ok = calm m value _ ok.put (alloc-same m value l _ ok) (refl, λ a b. refl, λ a b. refl)
alloc-few m value l MarkFull Won is ok = calm m value _ ok.put (alloc-same m value l _ ok) (refl, λ a b. refl, λ a b. refl)
alloc-few m value l MarkFull (Lost x) is ok = calm m value _ ok.put (alloc-same m value l _ ok) (refl, λ a b. refl, λ a b. refl)
alloc-few m value l TakeList (Word x) is ok = calm m value _ ok.put (alloc-same m value l _ ok) (calm-if ((list_in x).count == 0) _ _ (refl, λ a b. refl, λ a b. refl) (calm-if ((list_in x).count == 1) _ _ (refl, λ a b. refl, λ a b. refl) (refl, λ a b. refl, λ a b. refl)))
alloc-few m value l FollowFront (Word x) is ok = calm m value _ ok.put (alloc-same m value l _ ok) (refl, λ a b. refl, λ a b. refl)
alloc-few m value l LoadKept (Word x) is ok = calm m value _ ok.put (alloc-same m value l _ ok) (refl, λ a b. refl, λ a b. refl)
alloc-few m value l FreezeKept Won is ok = calm m value _ ok.put (alloc-same m value l _ ok) (refl, λ a b. refl, λ a b. refl)
alloc-few m value l FreezeKept (Lost x) is ok = calm m value _ ok.put (alloc-same m value l _ ok) (refl, λ a b. refl, λ a b. refl)
alloc-few m value l LockNode Won is ok = let c = ok.count in record { put = omega arith; asked = λ asks. omega arith; count = omega arith }
alloc-few m value l LoadPopped (Word x) is ok =
    let c = ok.count in
    let p = ok.asked refl in
    elim (cases_Bool (length l.hands == 1)) [
      | inl e ↦ rw e (record { put = ok.put; asked = λ asks. rw e (rw e at p); count = c })
      | inr e ↦ rw e (record { put = ok.put; asked = λ asks. rw e at p; count = c })
    ]
alloc-few m value l FreezePopped Won is ok = let c = ok.count in let p = ok.asked refl in let o = one-most (length l.hands == 1) in record { put = ok.put; asked = λ asks. omega arith; count = c }
alloc-few m value l FreezePopped (Lost x) is ok = let c = ok.count in record { put = ok.put; asked = ok.asked; count = c }
alloc-few m value l Unlist Won is ok = let c = ok.count in record { put = ok.put; asked = ok.asked; count = c }
alloc-few m value l Unlist (Lost x) is ok = let c = ok.count in let p = ok.asked refl in record { put = ok.put; asked = λ asks. omega arith; count = c }
alloc-few m value l GiveNode Done is ok = calm m value _ ok.put (alloc-same m value l _ ok) (calm-if (length l.hands == 0) _ _ (refl, λ a b. refl, λ a b. refl) (refl, λ a b. refl, λ a b. refl))
alloc-few m value l LockPool Won is ok = calm m value _ ok.put (alloc-same m value l _ ok) (refl, λ a b. refl, λ a b. refl)
alloc-few m value l GivePool Done is ok = calm m value _ ok.put (alloc-same m value l _ ok) (refl, λ a b. refl, λ a b. refl)
alloc-few m value l GiveDry Done is ok = calm m value _ ok.put (alloc-same m value l _ ok) (refl, λ a b. refl, λ a b. refl)
alloc-few m value l (LinkNew i) Done is ok = calm m value _ ok.put (alloc-same m value l _ ok) (calm-if (nat_lt (i + 1) (run_of l).objects) _ _ (refl, λ a b. refl, λ a b. refl) (refl, λ a b. refl, λ a b. refl))
alloc-few m value l Make Done is ok = calm m value _ ok.put (alloc-same m value l _ ok) (refl, λ a b. refl, λ a b. refl)
alloc-few m value l LoadReady (Word x) is ok = calm m value _ ok.put (alloc-same m value l _ ok) (refl, λ a b. refl, λ a b. refl)
alloc-few m value l LoadAgain (Word x) is ok =
    calm m value _ ok.put (alloc-same m value l _ ok) (calm-if (is_spent m (cpu_in x)) (way_of_away (hand_of l) ForSpent) _ (away-calm (hand_of l) ForSpent (refl, λ a b. refl, λ a b. refl) (refl, λ a b. refl, λ a b. refl)) (calm-if ((cpu_in x).frame == 0) _ _ (refl, λ a b. refl, λ a b. refl) (refl, λ a b. refl, λ a b. refl)))
alloc-few m value l DetachOther Won is ok = calm m value _ ok.put (alloc-same m value l _ ok) (away-calm (hand_from l.cpu_word.frame l.cpu_word.head) ForInstall (refl, λ a b. refl, λ a b. refl) (refl, λ a b. refl, λ a b. refl))
alloc-few m value l DetachOther (Lost x) is ok = calm m value _ ok.put (alloc-same m value l _ ok) (refl, λ a b. refl, λ a b. refl)
alloc-few m value l Install Won is ok = calm m value _ ok.put (alloc-same m value l _ ok) (refl, λ a b. refl, λ a b. refl)
alloc-few m value l Install (Lost x) is ok = calm m value _ ok.put (alloc-same m value l _ ok) (refl, λ a b. refl, λ a b. refl)
alloc-few m value l s a is ok = subst (CountsFew m value l) (sym is) ok

put_away-few : (m : Setup) (value : ℕ → LockValue) (l : Local) (s : PutAwaySpot) (away : Away) (a : Answer) → l.spot ≡ InPutAway s away → CountsFew m value l (InPutAway s away)
    → let n = (put_away_advance m value l s away a).local in CountsFew m value n n.spot
put_away-few m value l WalkChain away (Word x) is ok =
    let hand = walked_on (hand_of l) (found_at m l.cache (hand_of l).frame (reached (hand_of l) - 1) x) in
    few-if m value (at (set_hand l hand) (way_of_away hand away)) ((hand.head == 0) || hand.walked) (InPutAway LockAway away) (InPutAway WalkChain away) (goes-few ok.put refl ok.count) (goes-few ok.put refl ok.count)
put_away-few m value l LockAway away Won is ok = goes-few ok.put refl ok.count
put_away-few m value l LoadAway away (Word x) is ok = few-if m value _ ((hand_of l).head == 0) (InPutAway Unfreeze away) (InPutAway LinkLast away) (goes-few ok.put refl ok.count) (goes-few ok.put refl ok.count)
put_away-few m value l LinkLast away Done is ok = goes-few ok.put refl ok.count
put_away-few m value l Unfreeze away Won is ok = elim (cases_Bool (head_away (hand_of l) l.slab_word == 0)) [
  | inl e ↦ rw e (let c = ok.count in goes-few ok.put refl (omega arith))
  | inr e ↦ rw e (elim (cases_Bool (is_to_discard m value l)) [ inl d ↦ rw d (goes-few ok.put refl ok.count) | inr d ↦ rw d (goes-few ok.put refl ok.count) ])
]
put_away-few m value l Unfreeze away (Lost x) is ok = goes-few ok.put refl ok.count
put_away-few m value l GiveAway away Done is ok = by_way away ok
  where
    by_way : (away : Away) → CountsFew m value l (InPutAway GiveAway away) → CountsFew m value (at l (way_of_put away)) (way_of_put away)
    by_way ForInstall ok = let c = ok.count in goes-few ok.put refl (omega arith)
    by_way ForSpent ok = let c = ok.count in goes-few ok.put refl (omega arith)
    by_way (ForSweep sweep) ok = let c = ok.count in goes-few ok.put refl (omega arith)
put_away-few m value l s away a is ok = subst (CountsFew m value l) (sym is) ok

discard-few : (m : Setup) (value : ℕ → LockValue) (l : Local) (s : DiscardSpot) (discard : Discard) (a : Answer) → l.spot ≡ InDiscard s discard → CountsFew m value l (InDiscard s discard)
    → let n = (discard_advance m l s discard a).local in CountsFew m value n n.spot
discard-few m value l Unmake discard Done is ok = let c = ok.count in goes-few ok.put refl (omega arith)
discard-few m value l LockDiscard discard Won is ok = goes-few ok.put refl ok.count
discard-few m value l GiveDiscard discard Done is ok = by_way discard ok
  where
    by_way : (discard : Discard) → CountsFew m value l (InDiscard GiveDiscard discard) → CountsFew m value (at l (way_of_discarded discard)) (way_of_discarded discard)
    by_way (FromAway away) ok = let c = ok.count in goes-few ok.put refl (omega arith)
    by_way FromFree ok = goes-few ok.put refl ok.count
    by_way (FromMove move) ok = let c = ok.count in goes-few ok.put refl (omega arith)
    by_way FromTrim ok = goes-few ok.put refl ok.count
discard-few m value l s discard a is ok = subst (CountsFew m value l) (sym is) ok

put_on_list-few : (m : Setup) (value : ℕ → LockValue) (l : Local) (s : PutOnListSpot) (put : PutOnList) (a : Answer) → ((cache : ℕ) → (m.layout cache).cpu_partial_slabs ≤ 8192) → l.spot ≡ InPutOnList s put → CountsFew m value l (InPutOnList s put)
    → let n = (put_on_list_advance l s put a).local in CountsFew m value n n.spot
put_on_list-few m value l LoadList put (Word x) tuned is ok =
    few-if m value _ (leads_to (string_of l).link (list_in x).front) (InPutOnList PushString put) _ (record { put = ok.put; asked = ok.asked; count = ok.count }) (few-if m value _ (nat_lt (string_of l).place (string_of l).count) (InPutOnList WalkString put) (InPutOnList LinkString put) (record { put = ok.put; asked = ok.asked; count = ok.count }) (record { put = ok.put; asked = ok.asked; count = ok.count }))
put_on_list-few m value l WalkString put (Word x) tuned is ok =
    let string = with_cursor (string_of l) (x % 2 ^ 16) in
    few-if m value _ (nat_lt string.place string.count) (InPutOnList WalkString put) (InPutOnList LinkString put) (record { put = ok.put; asked = ok.asked; count = ok.count }) (record { put = ok.put; asked = ok.asked; count = ok.count })
put_on_list-few m value l LinkString put Done tuned is ok = (record { put = ok.put; asked = ok.asked; count = ok.count })
put_on_list-few m value l PushString put Won tuned is ok = by_way put ok
  where
    by_way : (put : PutOnList) → CountsFew m value l (InPutOnList PushString put) → let n = record l { string = None; put = l.put + puts put; spot = way_of_pushed put } in CountsFew m value n n.spot
    by_way OfRest ok = let c = ok.count in let p = ok.put in goes-few (omega arith) refl (omega arith)
    by_way OfNode ok = let c = ok.count in let p = ok.asked refl in let t = tuned l.cache in record { put = omega arith; asked = λ asks. omega arith; count = omega arith }
    by_way OfFree ok = let c = ok.count in let p = ok.put in goes-few (omega arith) refl (omega arith)
put_on_list-few m value l PushString put (Lost x) tuned is ok = (record { put = ok.put; asked = ok.asked; count = ok.count })
put_on_list-few m value l s put a tuned is ok = subst (CountsFew m value l) (sym is) ok

-- ---- frees, and what a flush and a trim have in common

free-same : (m : Setup) (value : ℕ → LockValue) (l : Local) (s : FreeSpot) → CountsFew m value l (InFree s) → l.count ≤ 135168
free-same m value l s ok = let c = ok.count in omega arith

counted-few : (m : Setup) (value : ℕ → LockValue) (l : Local) (list : ListWord) → l.put ≤ 4097 → l.count ≤ 135168 → let n = count_loaded m l list in CountsFew m value n n.spot
counted-few m value l list put count = elim (cases_Bool (is_long m l list)) [ inl e ↦ rw e (calm m value _ put count (refl, λ a b. refl, λ a b. refl)) | inr e ↦ rw e (calm m value _ put count (refl, λ a b. refl, λ a b. refl)) ]

set-few : (m : Setup) (value : ℕ → LockValue) (l : Local) (list : ListWord) → l.put ≤ 4097 → l.count ≤ 135168 → let n = set_taken l list in CountsFew m value n n.spot
set-few m value l list put count = elim (cases_Bool (list.count == 0)) [ inl e ↦ rw e (calm m value _ put count (refl, λ a b. refl, λ a b. refl)) | inr e ↦ rw e (calm m value _ put count (refl, λ a b. refl, λ a b. refl)) ]

board-few : (m : Setup) (value : ℕ → LockValue) (l : Local) (b : Option BoardWord) → l.put ≤ 4097 → l.count ≤ 135168 → let n = (board_taken m l b).local in CountsFew m value n n.spot
board-few m value l None put count = calm m value _ put count (refl, λ a b. refl, λ a b. refl)
board-few m value l (Some b) put count = calm m value _ put count (calm-if (m.checks b.cache) _ _ (refl, λ a b. refl, λ a b. refl) (refl, λ a b. refl, λ a b. refl))

free-few : (m : Setup) (value : ℕ → LockValue) (l : Local) (s : FreeSpot) (a : Answer) → l.spot ≡ InFree s → CountsFew m value l (InFree s) → let n = (free_advance m l s a).local in CountsFew m value n n.spot
free-few m value l TakeBoard (Word x) is ok = board-few m value l (board_in x) ok.put (free-same m value l _ ok)
free-few m value l LoadOwn (Word x) is ok = calm m value _ ok.put (free-same m value l _ ok) (calm-if (((cpu_in x).frame == (here l).frame) && not (is_spent m (cpu_in x))) _ _ (refl, λ a b. refl, λ a b. refl) (refl, λ a b. refl, λ a b. refl))
free-few m value l LinkOwn Done is ok = calm m value _ ok.put (free-same m value l _ ok) (refl, λ a b. refl, λ a b. refl)
free-few m value l Push Won is ok = calm m value _ ok.put (free-same m value l _ ok) (refl, λ a b. refl, λ a b. refl)
free-few m value l Push (Lost x) is ok = calm m value _ ok.put (free-same m value l _ ok) (refl, λ a b. refl, λ a b. refl)
free-few m value l LoadSlab (Word x) is ok = calm m value _ ok.put (free-same m value l _ ok) (calm-if (is_last_listed (slab_in x)) _ _ (refl, λ a b. refl, λ a b. refl) (refl, λ a b. refl, λ a b. refl))
free-few m value l LinkSlab Done is ok = calm m value _ ok.put (free-same m value l _ ok) (refl, λ a b. refl, λ a b. refl)
free-few m value l FreeSlab Won is ok = calm m value _ ok.put (free-same m value l _ ok) (calm-if (was_full l.slab_word) _ _ (refl, λ a b. refl, λ a b. refl) (refl, λ a b. refl, λ a b. refl))
free-few m value l FreeSlab (Lost x) is ok = calm m value _ ok.put (free-same m value l _ ok) (refl, λ a b. refl, λ a b. refl)
free-few m value l LockFree Won is ok = calm m value _ ok.put (free-same m value l _ ok) (refl, λ a b. refl, λ a b. refl)
free-few m value l LoadLocked (Word x) is ok = calm m value _ ok.put (free-same m value l _ ok) (calm-if (is_last_listed (slab_in x)) _ _ (refl, λ a b. refl, λ a b. refl) (refl, λ a b. refl, λ a b. refl))
free-few m value l GoBack Done is ok = calm m value _ ok.put (free-same m value l _ ok) (refl, λ a b. refl, λ a b. refl)
free-few m value l LinkLocked Done is ok = calm m value _ ok.put (free-same m value l _ ok) (refl, λ a b. refl, λ a b. refl)
free-few m value l FreeLocked Won is ok = calm m value _ ok.put (free-same m value l _ ok) (refl, λ a b. refl, λ a b. refl)
free-few m value l FreeLocked (Lost x) is ok = calm m value _ ok.put (free-same m value l _ ok) (refl, λ a b. refl, λ a b. refl)
free-few m value l GiveFree Done is ok = calm m value _ ok.put (free-same m value l _ ok) (refl, λ a b. refl, λ a b. refl)
free-few m value l LoadCount (Word x) is ok = counted-few m value l (list_in x) ok.put (free-same m value l _ ok)
free-few m value l TakeSet (Word x) is ok = set-few m value l (list_in x) ok.put (free-same m value l _ ok)
free-few m value l s a is ok = subst (CountsFew m value l) (sym is) ok

-- one slab of the string comes into hand
follow-few : (string count bound : ℕ) (move : MoveSet) → 1 ≤ string → count + (left_to_move string move + 0) ≤ bound → count + (left_to_move (string - 1) move + counts_for (FromMove move)) ≤ bound
follow-few string count bound ForFree some c = c
follow-few string count bound (ForOffline Trimming) some c = omega arith
follow-few string count bound (ForOffline Flushing) some c = c

moved-turn : (value : ℕ → LockValue) (l : Local) (sweep : Sweep) (s : Spot) → doing s ≡ of_sweep sweep → KnowsFew value l s → sweep ≡ Flushing → l.turn < 32
moved-turn value l sweep s does knows e = knows.turn (does ∙ ap of_sweep e)

move_set-few : (m : Setup) (value : ℕ → LockValue) (l : Local) (s : MoveSetSpot) (move : MoveSet) (a : Answer) → KnowsFew value l (InMoveSet s move) → l.spot ≡ InMoveSet s move → CountsFew m value l (InMoveSet s move)
    → let n = (move_set_advance m value l s move a).local in CountsFew m value n n.spot
move_set-few m value l LockMove move Won knows is ok = goes-few ok.put refl ok.count
move_set-few m value l FollowSet move (Word x) knows is ok =
    goes-few ok.put refl (let least = knows.least in follow-few (string_of l).count l.count (4096 * come_by l.cpu l.turn (InMoveSet FollowSet move)) move (omega arith) ok.count)
move_set-few m value l LoadMoved move (Word x) knows is ok =
    few-if m value _ (((slab_in x).inuse == 0) && has_enough m value l) (InDiscard Unmake (FromMove move)) (InMoveSet ListSlab move) (goes-few ok.put refl ok.count) (goes-few ok.put refl ok.count)
move_set-few m value l ListSlab move Won knows is ok = goes-few ok.put refl ok.count
move_set-few m value l ListSlab move (Lost x) knows is ok = goes-few ok.put refl ok.count
move_set-few m value l GiveMove move Done knows is ok = by_way move knows ok
  where
    by_way : (move : MoveSet) → KnowsFew value l (InMoveSet GiveMove move) → CountsFew m value l (InMoveSet GiveMove move) → let n = (after_move m l move).local in CountsFew m value n n.spot
    by_way ForFree knows ok = calm m value _ ok.put (let c = ok.count in omega arith) (refl, λ a b. refl, λ a b. refl)
    by_way (ForOffline sweep) knows ok = next-few m value l sweep ok.put (let c = ok.count in omega arith) (moved-turn value l sweep (InMoveSet GiveMove (ForOffline sweep)) refl knows)
move_set-few m value l s move a knows is ok = subst (CountsFew m value l) (sym is) ok

swept-few : (m : Setup) (value : ℕ → LockValue) (l : Local) (sweep : Sweep) (list : ListWord) → list.count ≤ 4095 → (sweep ≡ Flushing → l.turn < 32) → l.put ≤ 4097 → l.count + 4095 ≤ 4096 * (come_to l.cpu l.turn sweep + 1)
    → let n = (list_swept m l sweep list).local in CountsFew m value n n.spot
swept-few m value l sweep list short turn put count = elim (cases_Bool (list.count == 0)) [
  | inl e ↦ rw e (next-few m value l sweep put (omega arith) turn)
  | inr e ↦ rw e (goes-few put refl (by_sweep sweep count))
]
  where
    by_sweep : (sweep : Sweep) → l.count + 4095 ≤ 4096 * (come_to l.cpu l.turn sweep + 1)
        → l.count + if_flushing sweep list.count + (if_trimming sweep list.count + 0) ≤ 4096 * (come_to l.cpu l.turn sweep + 1)
    by_sweep Trimming count = omega arith
    by_sweep Flushing count = omega arith

offline-few : (m : Setup) (value : ℕ → LockValue) (l : Local) (s : OfflineSpot) (sweep : Sweep) (a : Answer) → ((x : ℕ) → a ≡ Word x → s ≡ TakeCurrent → (list_in x).count ≤ 4095) → KnowsFew value l (InOffline s sweep) → l.spot ≡ InOffline s sweep
    → CountsFew m value l (InOffline s sweep) → let n = (offline_advance m l s sweep a).local in CountsFew m value n n.spot
offline-few m value l LoadCurrent sweep (Word x) short knows is ok =
    few-if m value _ ((cpu_in x).frame == 0) (InOffline TakeCurrent sweep) (InOffline DetachCurrent sweep) (let c = ok.count in goes-few ok.put refl (omega arith)) (goes-few ok.put refl ok.count)
offline-few m value l DetachCurrent sweep Won short knows is ok =
    few-if m value _ _ (InPutAway LockAway (ForSweep sweep)) (InPutAway WalkChain (ForSweep sweep)) (goes-few ok.put refl (by_sweep sweep ok.count)) (goes-few ok.put refl (by_sweep sweep ok.count))
  where
    by_sweep : (sweep : Sweep) → l.count + 4096 ≤ 4096 * (come_to l.cpu l.turn sweep + 1)
        → l.count + if_flushing sweep 1 + (4095 + if_trimming sweep 1) ≤ 4096 * (come_to l.cpu l.turn sweep + 1)
    by_sweep Trimming count = omega arith
    by_sweep Flushing count = omega arith
offline-few m value l DetachCurrent sweep (Lost x) short knows is ok = goes-few ok.put refl ok.count
offline-few m value l TakeCurrent sweep (Word x) short knows is ok =
    swept-few m value l sweep (list_in x) (short x refl refl) (moved-turn value l sweep (InOffline TakeCurrent sweep) refl knows) ok.put ok.count
offline-few m value l s sweep a short knows is ok = subst (CountsFew m value l) (sym is) ok

trim-few : (m : Setup) (value : ℕ → LockValue) (l : Local) (s : TrimSpot) (a : Answer) → KnowsFew value l (InTrim s) → l.spot ≡ InTrim s → CountsFew m value l (InTrim s) → let n = (trim_advance l s a).local in CountsFew m value n n.spot
trim-few m value l LockTrim Won knows is ok = let c = ok.count in let few = knows.nodes refl in goes-few ok.put refl (omega arith)
trim-few m value l LoadScanned (Word x) knows is ok = few-if m value _ ((slab_in x).inuse == 0) (InTrim DropScanned) (InTrim ScanNode) (goes-few ok.put refl ok.count) (goes-few ok.put refl ok.count)
trim-few m value l GiveTrim Done knows is ok = let c = ok.count in let few = knows.cpu in goes-few ok.put refl (omega arith)
trim-few m value l s a knows is ok = subst (CountsFew m value l) (sym is) ok

checked-few : (m : Setup) (value : ℕ → LockValue) (l : Local) (s : CheckedSpot) (kind : CallKind) (a : Answer) → l.spot ≡ InChecked s kind → CountsFew m value l (InChecked s kind) → let n = (checked_advance l s kind a).local in CountsFew m value n n.spot
checked-few m value l LockChecked kind Won is ok = goes-few ok.put refl ok.count
checked-few m value l LockRun kind Won is ok = goes-few ok.put refl ok.count
checked-few m value l GiveRun kind Done is ok = goes-few ok.put refl ok.count
checked-few m value l GiveChecked kind Done is ok = goes-few ok.put refl ok.count
checked-few m value l s kind a is ok = subst (CountsFew m value l) (sym is) ok

-- ---- a step

pub turn-few : (m : Setup) (value : ℕ → LockValue) (l : Local) (s : Spot) (a : Answer) → ((cache : ℕ) → (m.layout cache).cpu_partial_slabs ≤ 8192)
    → ((sweep : Sweep) (x : ℕ) → s ≡ InOffline TakeCurrent sweep → a ≡ Word x → (list_in x).count ≤ 4095) → KnowsFew value l s → l.spot ≡ s → CountsFew m value l s
    → let n = (advance_at m value l s a).local in CountsFew m value n n.spot
turn-few m value l (InAlloc s) a tuned short knows is ok = alloc-few m value l s a is ok
turn-few m value l (InPutAway s away) a tuned short knows is ok = put_away-few m value l s away a is ok
turn-few m value l (InDiscard s discard) a tuned short knows is ok = discard-few m value l s discard a is ok
turn-few m value l (InPutOnList s put) a tuned short knows is ok = put_on_list-few m value l s put a tuned is ok
turn-few m value l (InFree s) a tuned short knows is ok = free-few m value l s a is ok
turn-few m value l (InMoveSet s move) a tuned short knows is ok = move_set-few m value l s move a knows is ok
turn-few m value l (InOffline s sweep) a tuned short knows is ok = offline-few m value l s sweep a (λ x word take. short sweep x (ap (λ s. InOffline s sweep) take) word) knows is ok
turn-few m value l (InTrim s) a tuned short knows is ok = trim-few m value l s a knows is ok
turn-few m value l WriteWord Done tuned short knows is ok = goes-few ok.put refl ok.count
turn-few m value l ReadWord (Word x) tuned short knows is ok = goes-few ok.put refl ok.count
turn-few m value l (InChecked s kind) a tuned short knows is ok = checked-few m value l s kind a is ok
turn-few m value l s a tuned short knows is ok = subst (CountsFew m value l) (sym is) ok
