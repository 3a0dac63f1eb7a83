-- Without a reply a worker goes on in its call, spot by spot.
use Rattle.std.proofs.Common.{◌≡◌, ℕ, ◌+◌, ◌-◌, ◌==◌, Bool, true, false, not, ◌&&◌, ◌||◌, if◌then◌else◌, Some, None, length, refl, sym, ap, ◌∙◌, inl, inr}
use Rattle.std.specs.Prelude.{nat_lt}
use Rattle.std.proofs.lemmas.Bool.{cases_Bool, false≢true}
use Rattle.std.proofs.lemmas.Option.{none-some}
use Rattle.slub_cpu_partial.specs.declared.words.ListWord.{ListWord}
use Rattle.slub_core.specs.declared.call.CallKind.{CallKind}
use Rattle.slub_core.specs.declared.call.CallKind.TheVariants.{Alloc, Free, Write, Read, Poke, Trim, Flush}
use Rattle.slub_core.specs.declared.step.Answer.{Answer}
use Rattle.slub_core.specs.declared.step.Answer.TheVariants.{Word, Done, Won, Lost}
use Rattle.slub_core.specs.declared.spot.Spot.{Spot}
use Rattle.slub_core.specs.declared.spot.Spot.TheVariants.{Between, InAlloc, InPutAway, InDiscard, InPutOnList, InFree, InMoveSet, InOffline, InTrim, WriteWord, ReadWord, InChecked}
use Rattle.slub_core.specs.declared.spot.Away.{Away}
use Rattle.slub_core.specs.declared.spot.Away.TheVariants.{ForInstall, ForSpent, ForSweep}
use Rattle.slub_core.specs.declared.spot.Discard.{Discard}
use Rattle.slub_core.specs.declared.spot.Discard.TheVariants.{FromAway, FromFree, FromMove, FromTrim}
use Rattle.slub_core.specs.declared.spot.PutOnList.{PutOnList}
use Rattle.slub_core.specs.declared.spot.PutOnList.TheVariants.{OfRest, OfNode, OfFree}
use Rattle.slub_core.specs.declared.spot.MoveSet.{MoveSet}
use Rattle.slub_core.specs.declared.spot.Sweep.{Sweep}
use Rattle.slub_core.specs.declared.spot.MoveSet.TheVariants.{ForFree, ForOffline}
use Rattle.slub_core.specs.declared.spot.Sweep.TheVariants.{Trimming, Flushing}
use Rattle.slub_core.specs.declared.spot.AllocSpot.{AllocSpot}
use Rattle.slub_core.specs.declared.spot.AllocSpot.TheVariants.{LoadCpu, LoadNext, Pop, Detach, LoadTaken, TakeAll, MarkFull, TakeList, FollowFront, LoadKept, FreezeKept, LockNode, LoadPopped, FreezePopped, Unlist, GiveNode, LockPool, GivePool, GiveDry, LinkNew, Make, LoadReady, LoadAgain, DetachOther, Install}
use Rattle.slub_core.specs.declared.spot.PutAwaySpot.{PutAwaySpot}
use Rattle.slub_core.specs.declared.spot.PutAwaySpot.TheVariants.{WalkChain, LockAway, LoadAway, LinkLast, Unfreeze, GiveAway}
use Rattle.slub_core.specs.declared.spot.DiscardSpot.{DiscardSpot}
use Rattle.slub_core.specs.declared.spot.DiscardSpot.TheVariants.{Unmake, LockDiscard, GiveDiscard}
use Rattle.slub_core.specs.declared.spot.PutOnListSpot.{PutOnListSpot}
use Rattle.slub_core.specs.declared.spot.PutOnListSpot.TheVariants.{LoadList, WalkString, LinkString, PushString}
use Rattle.slub_core.specs.declared.spot.FreeSpot.{FreeSpot}
use Rattle.slub_core.specs.declared.spot.FreeSpot.TheVariants.{TakeBoard, LoadOwn, LinkOwn, Push, LoadSlab, LinkSlab, FreeSlab, LockFree, LoadLocked, GoBack, LinkLocked, FreeLocked, GiveFree, LoadCount, TakeSet}
use Rattle.slub_core.specs.declared.spot.MoveSetSpot.{MoveSetSpot}
use Rattle.slub_core.specs.declared.spot.MoveSetSpot.TheVariants.{LockMove, FollowSet, LoadMoved, ListSlab, GiveMove}
use Rattle.slub_core.specs.declared.spot.OfflineSpot.{OfflineSpot}
use Rattle.slub_core.specs.declared.spot.OfflineSpot.TheVariants.{LoadCurrent, DetachCurrent, TakeCurrent}
use Rattle.slub_core.specs.declared.spot.TrimSpot.{TrimSpot}
use Rattle.slub_core.specs.declared.spot.TrimSpot.TheVariants.{LockTrim, LoadScanned, GiveTrim}
use Rattle.slub_core.specs.declared.spot.CheckedSpot.{CheckedSpot}
use Rattle.slub_core.specs.declared.spot.CheckedSpot.TheVariants.{LockChecked, LockRun, GiveRun, GiveChecked, DoChecked, MoveRun}
use Rattle.slub_core.specs.Setup.{Setup}
use Rattle.slub_core.specs.Words.{cpu_in, slab_in, list_in}
use Rattle.slub_core.specs.World.{LockValue}
use Rattle.slub_core.specs.Local.{Local, here, hand_of, run_of, string_of}
use Rattle.slub_core.specs.Alloc.{is_spent, reached, walked_on, found_at, alloc_advance}
use Rattle.slub_core.specs.PutAway.{has_enough, head_away, is_to_discard, way_of_put, unfrozen, put_away_advance}
use Rattle.slub_core.specs.Discard.{way_of_discarded, discard_advance}
use Rattle.slub_core.specs.PutOnList.{leads_to, way_of_pushed, put_on_list_advance}
use Rattle.slub_core.specs.Free.{is_last_listed, is_long, free_advance, count_loaded, set_taken}
use Rattle.slub_core.specs.MoveSet.{after_move, move_set_advance}
use Rattle.slub_core.specs.Offline.{next_swept, list_swept, offline_advance, trim_advance}
use Rattle.slub_core.specs.Checked.{checked_advance}
use Rattle.slub_core.specs.Steps.{advance_at}
use Rattle.slub_core.specs.Spots.{doing, frees, is_freeing, takes_board, of_sweep}
use Rattle.slub_core.specs.Accounted.{NamesCache}
use Rattle.slub_core.proofs.TaleQuiet.{IsQuiet}

-- from one spot to another in the same call, or out of it
pub record Way (s t : Spot) : Type 0 where
  pub freeing : is_freeing t ≡ is_freeing s
  pub frees : frees t ≡ frees s
  pub call : (kind : CallKind) → doing t ≡ Some kind → doing s ≡ Some kind

pub way_if : (b : Bool) (s t u : Spot) → Way s t → Way s u → Way s (if b then t else u)
way_if true s t u a c = a
way_if false s t u a c = c

pub stay : (s : Spot) → Way s s
stay s = record { freeing = refl; frees = refl; call = λ k e. e }

pub out : (s t : Spot) → is_freeing s ≡ false → frees s ≡ false → is_freeing t ≡ false → frees t ≡ false → doing t ≡ None → Way s t
out s t a b c d e = record { freeing = c ∙ sym a; frees = d ∙ sym b; call = λ k f. absurd (none-some k (sym e ∙ f)) }

-- a worker that goes such a way with the same records
pub going : (l n : Local) (s t : Spot) → l.spot ≡ s → n.spot ≡ t → Way s t → n.known ≡ l.known → n.done ≡ l.done → n.todo ≡ l.todo → n.place ≡ l.place → ((kind : CallKind) → doing s ≡ Some kind → NamesCache l kind → NamesCache n kind) → IsQuiet l n
going l n s t at to way known done todo place names = record {
  known = known;
  done = done;
  todo = todo;
  place = place;
  freeing = rw (at, to) way.freeing;
  frees = rw (at, to) way.frees;
  call = λ kind e. let d = way.call kind (ap doing (sym to) ∙ e) in (ap doing at ∙ d, names kind d);
}

-- the cache and the CPU of its call stay
names-same : (l n : Local) → n.todo ≡ l.todo → n.cache ≡ l.cache → n.cpu ≡ l.cpu → (kind : CallKind) → NamesCache l kind → NamesCache n kind
names-same l n t c p Alloc h = rw (t, c, p) h
names-same l n t c p Free h = tt
names-same l n t c p Write h = tt
names-same l n t c p Read h = tt
names-same l n t c p Poke h = tt
names-same l n t c p Trim h = rw (t, c) h
names-same l n t c p Flush h = tt

pub goes-on : (l n : Local) (s t : Spot) → l.spot ≡ s → n.spot ≡ t → Way s t → n.known ≡ l.known → n.done ≡ l.done → n.todo ≡ l.todo → n.place ≡ l.place → n.cache ≡ l.cache → n.cpu ≡ l.cpu → IsQuiet l n
goes-on l n s t at to way known done todo place cache cpu = going l n s t at to way known done todo place (λ kind d. names-same l n todo cache cpu kind)

-- between two spots of one call
same : (s t : Spot) → is_freeing t ≡ is_freeing s → frees t ≡ frees s → doing t ≡ doing s → Way s t
same s t a b c = record { freeing = a; frees = b; call = λ k e. sym c ∙ e }

-- where no answer leads on, it stays
rests : (l : Local) → IsQuiet l l
rests l = record { known = refl; done = refl; todo = refl; place = refl; freeing = refl; frees = refl; call = λ kind e. (e, λ h. h) }

-- ---- an allocation

some-none : {A : Type 0} (a : A) → Some a ≡ None → ⊥
some-none a e = none-some a (sym e)

quiet-alloc : (m : Setup) (l : Local) (s : AllocSpot) (a : Answer) → l.spot ≡ InAlloc s → (alloc_advance m l s a).reply ≡ None → IsQuiet l (alloc_advance m l s a).local
quiet-alloc m l LoadCpu (Word x) is e = goes-on l _ _ _ is refl (way_if (is_spent m (cpu_in x)) _ _ _ (out _ _ refl refl refl refl refl) (way_if (not ((cpu_in x).head == 0)) _ _ _ (same _ _ refl refl refl) (way_if (l.fast) _ _ _ (out _ _ refl refl refl refl refl) (way_if (not ((cpu_in x).frame == 0)) _ _ _ (same _ _ refl refl refl) (same _ _ refl refl refl))))) refl refl refl refl refl refl
quiet-alloc m l LoadNext (Word x) is e = goes-on l _ _ _ is refl (same _ _ refl refl refl) refl refl refl refl refl refl
quiet-alloc m l Pop Won is e = absurd (some-none _ e)
quiet-alloc m l Pop (Lost x) is e = goes-on l _ _ _ is refl (way_if (l.fast) _ _ _ (out _ _ refl refl refl refl refl) (same _ _ refl refl refl)) refl refl refl refl refl refl
quiet-alloc m l Detach Won is e = goes-on l _ _ _ is refl (same _ _ refl refl refl) refl refl refl refl refl refl
quiet-alloc m l Detach (Lost x) is e = goes-on l _ _ _ is refl (same _ _ refl refl refl) refl refl refl refl refl refl
quiet-alloc m l LoadTaken (Word x) is e = goes-on l _ _ _ is refl (way_if ((slab_in x).head == 0) _ _ _ (same _ _ refl refl refl) (same _ _ refl refl refl)) refl refl refl refl refl refl
quiet-alloc m l TakeAll Won is e = goes-on l _ _ _ is refl (same _ _ refl refl refl) refl refl refl refl refl refl
quiet-alloc m l TakeAll (Lost x) is e = goes-on l _ _ _ is refl (same _ _ refl refl refl) refl refl refl refl refl refl
quiet-alloc m l MarkFull Won is e = goes-on l _ _ _ is refl (same _ _ refl refl refl) refl refl refl refl refl refl
quiet-alloc m l MarkFull (Lost x) is e = goes-on l _ _ _ is refl (same _ _ refl refl refl) refl refl refl refl refl refl
quiet-alloc m l TakeList (Word x) is e = goes-on l _ _ _ is refl (way_if ((list_in x).count == 0) _ _ _ (same _ _ refl refl refl) (way_if ((list_in x).count == 1) _ _ _ (same _ _ refl refl refl) (same _ _ refl refl refl))) refl refl refl refl refl refl
quiet-alloc m l FollowFront (Word x) is e = goes-on l _ _ _ is refl (same _ _ refl refl refl) refl refl refl refl refl refl
quiet-alloc m l LoadKept (Word x) is e = goes-on l _ _ _ is refl (same _ _ refl refl refl) refl refl refl refl refl refl
quiet-alloc m l FreezeKept Won is e = goes-on l _ _ _ is refl (same _ _ refl refl refl) refl refl refl refl refl refl
quiet-alloc m l FreezeKept (Lost x) is e = goes-on l _ _ _ is refl (same _ _ refl refl refl) refl refl refl refl refl refl
quiet-alloc m l LockNode Won is e = goes-on l _ _ _ is refl (same _ _ refl refl refl) refl refl refl refl refl refl
quiet-alloc m l LoadPopped (Word x) is e = goes-on l _ _ _ is refl (way_if (length l.hands == 1) _ _ _ (same _ _ refl refl refl) (same _ _ refl refl refl)) refl refl refl refl refl refl
quiet-alloc m l FreezePopped Won is e = goes-on l _ _ _ is refl (same _ _ refl refl refl) refl refl refl refl refl refl
quiet-alloc m l FreezePopped (Lost x) is e = goes-on l _ _ _ is refl (same _ _ refl refl refl) refl refl refl refl refl refl
quiet-alloc m l Unlist Won is e = goes-on l _ _ _ is refl (same _ _ refl refl refl) refl refl refl refl refl refl
quiet-alloc m l Unlist (Lost x) is e = goes-on l _ _ _ is refl (same _ _ refl refl refl) refl refl refl refl refl refl
quiet-alloc m l GiveNode Done is e = goes-on l _ _ _ is refl (way_if (length l.hands == 0) _ _ _ (same _ _ refl refl refl) (same _ _ refl refl refl)) refl refl refl refl refl refl
quiet-alloc m l LockPool Won is e = goes-on l _ _ _ is refl (same _ _ refl refl refl) refl refl refl refl refl refl
quiet-alloc m l GivePool Done is e = goes-on l _ _ _ is refl (same _ _ refl refl refl) refl refl refl refl refl refl
quiet-alloc m l GiveDry Done is e = goes-on l _ _ _ is refl (out _ _ refl refl refl refl refl) refl refl refl refl refl refl
quiet-alloc m l (LinkNew i) Done is e = goes-on l _ _ _ is refl (way_if (nat_lt (i + 1) (run_of l).objects) _ _ _ (same _ _ refl refl refl) (same _ _ refl refl refl)) refl refl refl refl refl refl
quiet-alloc m l Make Done is e = goes-on l _ _ _ is refl (same _ _ refl refl refl) refl refl refl refl refl refl
quiet-alloc m l LoadReady (Word x) is e = goes-on l _ _ _ is refl (same _ _ refl refl refl) refl refl refl refl refl refl
quiet-alloc m l LoadAgain (Word x) is e = goes-on l _ _ _ is refl (way_if (is_spent m (cpu_in x)) _ _ _ (way_if (((hand_of l).head == 0) || (hand_of l).walked) _ _ _ (out _ _ refl refl refl refl refl) (out _ _ refl refl refl refl refl)) (way_if ((cpu_in x).frame == 0) _ _ _ (same _ _ refl refl refl) (same _ _ refl refl refl))) refl refl refl refl refl refl
quiet-alloc m l DetachOther Won is e = goes-on l _ _ _ is refl (way_if ((l.cpu_word.head == 0) || false) _ _ _ (same _ _ refl refl refl) (same _ _ refl refl refl)) refl refl refl refl refl refl
quiet-alloc m l DetachOther (Lost x) is e = goes-on l _ _ _ is refl (same _ _ refl refl refl) refl refl refl refl refl refl
quiet-alloc m l Install Won is e = absurd (some-none _ e)
quiet-alloc m l Install (Lost x) is e = goes-on l _ _ _ is refl (same _ _ refl refl refl) refl refl refl refl refl refl
quiet-alloc m l s a is e = rests l

-- ---- putting away, discarding, a string before a list

put-way : (away : Away) → Way (InPutAway GiveAway away) (way_of_put away)
put-way ForInstall = same _ _ refl refl refl
put-way ForSpent = out _ _ refl refl refl refl refl
put-way (ForSweep sweep) = same _ _ refl refl refl

quiet-unfrozen : (m : Setup) (value : ℕ → LockValue) (l : Local) (away : Away) → l.spot ≡ InPutAway Unfreeze away → IsQuiet l (unfrozen m value l away)
quiet-unfrozen m value l away is = elim (cases_Bool (head_away (hand_of l) l.slab_word == 0)) [
  | inl e ↦ rw e (goes-on l _ _ _ is refl (same _ _ refl refl refl) refl refl refl refl refl refl)
  | inr e ↦ rw e (goes-on l _ _ _ is refl (way_if (is_to_discard m value l) _ _ _ (same _ _ refl refl refl) (same _ _ refl refl refl)) refl refl refl refl refl refl)
]

quiet-put_away : (m : Setup) (value : ℕ → LockValue) (l : Local) (s : PutAwaySpot) (away : Away) (a : Answer) → l.spot ≡ InPutAway s away → IsQuiet l (put_away_advance m value l s away a).local
quiet-put_away m value l WalkChain away (Word x) is =
    let hand = walked_on (hand_of l) (found_at m l.cache (hand_of l).frame (reached (hand_of l) - 1) x) in
    goes-on l _ _ _ is refl (way_if ((hand.head == 0) || hand.walked) _ _ _ (same _ _ refl refl refl) (same _ _ refl refl refl)) refl refl refl refl refl refl
quiet-put_away m value l LockAway away Won is = goes-on l _ _ _ is refl (same _ _ refl refl refl) refl refl refl refl refl refl
quiet-put_away m value l LoadAway away (Word x) is = goes-on l _ _ _ is refl (way_if ((hand_of l).head == 0) _ _ _ (same _ _ refl refl refl) (same _ _ refl refl refl)) refl refl refl refl refl refl
quiet-put_away m value l LinkLast away Done is = goes-on l _ _ _ is refl (same _ _ refl refl refl) refl refl refl refl refl refl
quiet-put_away m value l Unfreeze away Won is = quiet-unfrozen m value l away is
quiet-put_away m value l Unfreeze away (Lost x) is = goes-on l _ _ _ is refl (same _ _ refl refl refl) refl refl refl refl refl refl
quiet-put_away m value l GiveAway away Done is = goes-on l _ _ _ is refl (put-way away) refl refl refl refl refl refl
quiet-put_away m value l s away a is = rests l

discarded-way : (discard : Discard) → Way (InDiscard GiveDiscard discard) (way_of_discarded discard)
discarded-way (FromAway away) = same _ _ refl refl refl
discarded-way FromFree = same _ _ refl refl refl
discarded-way (FromMove move) = same _ _ refl refl refl
discarded-way FromTrim = same _ _ refl refl refl

quiet-discard : (m : Setup) (l : Local) (s : DiscardSpot) (discard : Discard) (a : Answer) → l.spot ≡ InDiscard s discard → IsQuiet l (discard_advance m l s discard a).local
quiet-discard m l Unmake discard Done is = goes-on l _ _ _ is refl (same _ _ refl refl refl) refl refl refl refl refl refl
quiet-discard m l LockDiscard discard Won is = goes-on l _ _ _ is refl (same _ _ refl refl refl) refl refl refl refl refl refl
quiet-discard m l GiveDiscard discard Done is = goes-on l _ _ _ is refl (discarded-way discard) refl refl refl refl refl refl
quiet-discard m l s discard a is = rests l

put-doing : (s t : PutOnListSpot) (put : PutOnList) → Way (InPutOnList s put) (InPutOnList t put)
put-doing s t OfRest = same _ _ refl refl refl
put-doing s t OfNode = same _ _ refl refl refl
put-doing s t OfFree = same _ _ refl refl refl

pushed-way : (put : PutOnList) → Way (InPutOnList PushString put) (way_of_pushed put)
pushed-way OfRest = same _ _ refl refl refl
pushed-way OfNode = same _ _ refl refl refl
pushed-way OfFree = same _ _ refl refl refl

quiet-put_on_list : (l : Local) (s : PutOnListSpot) (put : PutOnList) (a : Answer) → l.spot ≡ InPutOnList s put → IsQuiet l (put_on_list_advance l s put a).local
quiet-put_on_list l LoadList put (Word x) is =
    goes-on l _ _ _ is refl (way_if (leads_to (string_of l).link (list_in x).front) _ _ _ (put-doing _ _ put) (way_if (nat_lt (string_of l).place (string_of l).count) _ _ _ (put-doing _ _ put) (put-doing _ _ put))) refl refl refl refl refl refl
quiet-put_on_list l WalkString put (Word x) is = goes-on l _ _ _ is refl (way_if _ _ _ _ (put-doing _ _ put) (put-doing _ _ put)) refl refl refl refl refl refl
quiet-put_on_list l LinkString put Done is = goes-on l _ _ _ is refl (put-doing _ _ put) refl refl refl refl refl refl
quiet-put_on_list l PushString put Won is = goes-on l _ _ _ is refl (pushed-way put) refl refl refl refl refl refl
quiet-put_on_list l PushString put (Lost x) is = goes-on l _ _ _ is refl (put-doing _ _ put) refl refl refl refl refl refl
quiet-put_on_list l s put a is = rests l

-- ---- a sweep

trim-names : (l : Local) (cpu : ℕ) (spot : Spot) (kind : CallKind) → Some Trim ≡ Some kind → NamesCache l kind → NamesCache (record l { cpu = cpu; spot = spot }) kind
trim-names l cpu spot Trim e h = h
trim-names l cpu spot Alloc e h = absurd (let z : Trim ≡ Alloc = cc in cc)
trim-names l cpu spot Free e h = tt
trim-names l cpu spot Write e h = tt
trim-names l cpu spot Read e h = tt
trim-names l cpu spot Poke e h = tt
trim-names l cpu spot Flush e h = tt

flush-names : (l n : Local) (kind : CallKind) → Some Flush ≡ Some kind → NamesCache l kind → NamesCache n kind
flush-names l n Trim e h = absurd (let z : Flush ≡ Trim = cc in cc)
flush-names l n Alloc e h = absurd (let z : Flush ≡ Alloc = cc in cc)
flush-names l n Free e h = tt
flush-names l n Write e h = tt
flush-names l n Read e h = tt
flush-names l n Poke e h = tt
flush-names l n Flush e h = tt

-- the next CPU of a trim, or the next cache of a flush
quiet-next : (m : Setup) (l : Local) (sweep : Sweep) (s : Spot) → l.spot ≡ s → is_freeing s ≡ false → frees s ≡ false → doing s ≡ of_sweep sweep → IsQuiet l (next_swept m l sweep).local
quiet-next m l Trimming s is a b c =
    going l _ s _ is refl (way_if (nat_lt (l.cpu + 1) m.cpus) _ _ _ (same _ _ (sym a) (sym b) (sym c)) (same _ _ (sym a) (sym b) (sym c))) refl refl refl refl (λ kind d. trim-names l (next_swept m l Trimming).local.cpu (next_swept m l Trimming).local.spot kind (sym c ∙ d))
quiet-next m l Flushing s is a b c =
    going l _ s _ is refl (way_if (nat_lt (l.turn + 1) (length m.plain)) _ _ _ (same _ _ (sym a) (sym b) (sym c)) (out _ _ a b refl refl refl)) refl refl refl refl (λ kind d. flush-names l (next_swept m l Flushing).local kind (sym c ∙ d))

quiet-swept : (m : Setup) (l : Local) (sweep : Sweep) (list : ListWord) → l.spot ≡ InOffline TakeCurrent sweep → IsQuiet l (list_swept m l sweep list).local
quiet-swept m l sweep list is = elim (cases_Bool (list.count == 0)) [
  | inl e ↦ rw e (quiet-next m l sweep _ is refl refl refl)
  | inr e ↦ rw e (goes-on l _ _ _ is refl (same _ _ refl refl refl) refl refl refl refl refl refl)
]

quiet-offline : (m : Setup) (l : Local) (s : OfflineSpot) (sweep : Sweep) (a : Answer) → l.spot ≡ InOffline s sweep → IsQuiet l (offline_advance m l s sweep a).local
quiet-offline m l LoadCurrent sweep (Word x) is = goes-on l _ _ _ is refl (way_if ((cpu_in x).frame == 0) _ _ _ (same _ _ refl refl refl) (same _ _ refl refl refl)) refl refl refl refl refl refl
quiet-offline m l DetachCurrent sweep Won is = goes-on l _ _ _ is refl (way_if ((l.cpu_word.head == 0) || false) _ _ _ (same _ _ refl refl refl) (same _ _ refl refl refl)) refl refl refl refl refl refl
quiet-offline m l DetachCurrent sweep (Lost x) is = goes-on l _ _ _ is refl (same _ _ refl refl refl) refl refl refl refl refl refl
quiet-offline m l TakeCurrent sweep (Word x) is = quiet-swept m l sweep (list_in x) is
quiet-offline m l s sweep a is = rests l

quiet-trim : (l : Local) (s : TrimSpot) (a : Answer) → l.spot ≡ InTrim s → IsQuiet l (trim_advance l s a).local
quiet-trim l LockTrim Won is = goes-on l _ _ _ is refl (same _ _ refl refl refl) refl refl refl refl refl refl
quiet-trim l LoadScanned (Word x) is = goes-on l _ _ _ is refl (way_if ((slab_in x).inuse == 0) _ _ _ (same _ _ refl refl refl) (same _ _ refl refl refl)) refl refl refl refl refl refl
quiet-trim l GiveTrim Done is = goes-on l _ _ _ is refl (out _ _ refl refl refl refl refl) refl refl refl refl refl refl
quiet-trim l s a is = rests l

-- ---- a set that is moved, a free

after-way : (m : Setup) (l : Local) (move : MoveSet) → l.spot ≡ InMoveSet GiveMove move → IsQuiet l (after_move m l move).local
after-way m l ForFree is = goes-on l _ _ _ is refl (same _ _ refl refl refl) refl refl refl refl refl refl
after-way m l (ForOffline sweep) is = quiet-next m l sweep _ is refl refl refl

quiet-move_set : (m : Setup) (value : ℕ → LockValue) (l : Local) (s : MoveSetSpot) (move : MoveSet) (a : Answer) → l.spot ≡ InMoveSet s move → IsQuiet l (move_set_advance m value l s move a).local
quiet-move_set m value l LockMove move Won is = goes-on l _ _ _ is refl (same _ _ refl refl refl) refl refl refl refl refl refl
quiet-move_set m value l FollowSet move (Word x) is = goes-on l _ _ _ is refl (same _ _ refl refl refl) refl refl refl refl refl refl
quiet-move_set m value l LoadMoved move (Word x) is = goes-on l _ _ _ is refl (way_if (((slab_in x).inuse == 0) && has_enough m value l) _ _ _ (same _ _ refl refl refl) (same _ _ refl refl refl)) refl refl refl refl refl refl
quiet-move_set m value l ListSlab move Won is = goes-on l _ _ _ is refl (same _ _ refl refl refl) refl refl refl refl refl refl
quiet-move_set m value l ListSlab move (Lost x) is = goes-on l _ _ _ is refl (same _ _ refl refl refl) refl refl refl refl refl refl
quiet-move_set m value l GiveMove move Done is = after-way m l move is
quiet-move_set m value l s move a is = rests l

quiet-counted : (m : Setup) (l : Local) (list : ListWord) → l.spot ≡ InFree LoadCount → IsQuiet l (count_loaded m l list)
quiet-counted m l list is = elim (cases_Bool (is_long m l list)) [
  | inl e ↦ rw e (goes-on l _ _ _ is refl (same _ _ refl refl refl) refl refl refl refl refl refl)
  | inr e ↦ rw e (goes-on l _ _ _ is refl (same _ _ refl refl refl) refl refl refl refl refl refl)
]

quiet-taken : (l : Local) (list : ListWord) → l.spot ≡ InFree TakeSet → IsQuiet l (set_taken l list)
quiet-taken l list is = elim (cases_Bool (list.count == 0)) [
  | inl e ↦ rw e (goes-on l _ _ _ is refl (same _ _ refl refl refl) refl refl refl refl refl refl)
  | inr e ↦ rw e (goes-on l _ _ _ is refl (same _ _ refl refl refl) refl refl refl refl refl refl)
]

quiet-free : (m : Setup) (l : Local) (s : FreeSpot) (a : Answer) → l.spot ≡ InFree s → takes_board (InFree s) ≡ false → (free_advance m l s a).reply ≡ None → IsQuiet l (free_advance m l s a).local
quiet-free m l TakeBoard a is away e = absurd (false≢true (sym away))
quiet-free m l LoadOwn (Word x) is away e = goes-on l _ _ _ is refl (way_if (((cpu_in x).frame == (here l).frame) && not (is_spent m (cpu_in x))) _ _ _ (same _ _ refl refl refl) (same _ _ refl refl refl)) refl refl refl refl refl refl
quiet-free m l LinkOwn Done is away e = goes-on l _ _ _ is refl (same _ _ refl refl refl) refl refl refl refl refl refl
quiet-free m l Push Won is away e = absurd (some-none _ e)
quiet-free m l Push (Lost x) is away e = goes-on l _ _ _ is refl (same _ _ refl refl refl) refl refl refl refl refl refl
quiet-free m l LoadSlab (Word x) is away e = goes-on l _ _ _ is refl (way_if (is_last_listed (slab_in x)) _ _ _ (same _ _ refl refl refl) (same _ _ refl refl refl)) refl refl refl refl refl refl
quiet-free m l LinkSlab Done is away e = goes-on l _ _ _ is refl (same _ _ refl refl refl) refl refl refl refl refl refl
quiet-free m l FreeSlab Won is away e = absurd (some-none _ e)
quiet-free m l FreeSlab (Lost x) is away e = goes-on l _ _ _ is refl (same _ _ refl refl refl) refl refl refl refl refl refl
quiet-free m l LockFree Won is away e = goes-on l _ _ _ is refl (same _ _ refl refl refl) refl refl refl refl refl refl
quiet-free m l LoadLocked (Word x) is away e = goes-on l _ _ _ is refl (way_if (is_last_listed (slab_in x)) _ _ _ (same _ _ refl refl refl) (same _ _ refl refl refl)) refl refl refl refl refl refl
quiet-free m l GoBack Done is away e = goes-on l _ _ _ is refl (same _ _ refl refl refl) refl refl refl refl refl refl
quiet-free m l LinkLocked Done is away e = goes-on l _ _ _ is refl (same _ _ refl refl refl) refl refl refl refl refl refl
quiet-free m l FreeLocked Won is away e = absurd (some-none _ e)
quiet-free m l FreeLocked (Lost x) is away e = goes-on l _ _ _ is refl (same _ _ refl refl refl) refl refl refl refl refl refl
quiet-free m l GiveFree Done is away e = goes-on l _ _ _ is refl (same _ _ refl refl refl) refl refl refl refl refl refl
quiet-free m l LoadCount (Word x) is away e = quiet-counted m l (list_in x) is
quiet-free m l TakeSet (Word x) is away e = quiet-taken l (list_in x) is
quiet-free m l s a is away e = rests l

-- ---- a checked cache

checked-way : (kind : CallKind) → Way (InChecked LockChecked kind) (InChecked DoChecked kind)
checked-way Alloc = (same _ _ refl refl refl)
checked-way Free = (same _ _ refl refl refl)
checked-way Write = (same _ _ refl refl refl)
checked-way Read = (same _ _ refl refl refl)
checked-way Poke = (same _ _ refl refl refl)
checked-way Trim = (same _ _ refl refl refl)
checked-way Flush = (same _ _ refl refl refl)

run-way : (kind : CallKind) → Way (InChecked LockRun kind) (InChecked MoveRun kind)
run-way Alloc = (same _ _ refl refl refl)
run-way Free = (same _ _ refl refl refl)
run-way Write = (same _ _ refl refl refl)
run-way Read = (same _ _ refl refl refl)
run-way Poke = (same _ _ refl refl refl)
run-way Trim = (same _ _ refl refl refl)
run-way Flush = (same _ _ refl refl refl)

quiet-checked : (l : Local) (s : CheckedSpot) (kind : CallKind) (a : Answer) → l.spot ≡ InChecked s kind → IsQuiet l (checked_advance l s kind a).local
quiet-checked l LockChecked kind Won is = goes-on l _ _ _ is refl (checked-way kind) refl refl refl refl refl refl
quiet-checked l LockRun kind Won is = goes-on l _ _ _ is refl (run-way kind) refl refl refl refl refl refl
quiet-checked l GiveRun kind Done is = goes-on l _ _ _ is refl (same _ _ refl refl refl) refl refl refl refl refl refl
quiet-checked l GiveChecked kind Done is = goes-on l _ _ _ is refl (same _ _ refl refl refl) refl refl refl refl refl refl
quiet-checked l s kind a is = rests l

-- ---- each spot

quiet-read : (m : Setup) (value : ℕ → LockValue) (l : Local) (a : Answer) → l.spot ≡ ReadWord → IsQuiet l (advance_at m value l ReadWord a).local
quiet-read m value l (Word x) is = goes-on l _ _ _ is refl (out _ _ refl refl refl refl refl) refl refl refl refl refl refl
quiet-read m value l a is = rests l

quiet-write : (m : Setup) (value : ℕ → LockValue) (l : Local) (a : Answer) → l.spot ≡ WriteWord → IsQuiet l (advance_at m value l WriteWord a).local
quiet-write m value l Done is = goes-on l _ _ _ is refl (out _ _ refl refl refl refl refl) refl refl refl refl refl refl
quiet-write m value l a is = rests l

-- where an answer leads without a reply, but for the take from the board, what the worker knows and what it was answered stay
pub quiet_turn : (m : Setup) (value : ℕ → LockValue) (l : Local) (spot : Spot) (a : Answer) → l.spot ≡ spot → takes_board spot ≡ false → (advance_at m value l spot a).reply ≡ None → IsQuiet l (advance_at m value l spot a).local
quiet_turn m value l Between a is away none = rests l
quiet_turn m value l (InAlloc s) a is away none = quiet-alloc m l s a is none
quiet_turn m value l (InPutAway s u) a is away none = quiet-put_away m value l s u a is
quiet_turn m value l (InDiscard s u) a is away none = quiet-discard m l s u a is
quiet_turn m value l (InPutOnList s u) a is away none = quiet-put_on_list l s u a is
quiet_turn m value l (InFree s) a is away none = quiet-free m l s a is away none
quiet_turn m value l (InMoveSet s u) a is away none = quiet-move_set m value l s u a is
quiet_turn m value l (InOffline s u) a is away none = quiet-offline m l s u a is
quiet_turn m value l (InTrim s) a is away none = quiet-trim l s a is
quiet_turn m value l WriteWord a is away none = quiet-write m value l a is
quiet_turn m value l ReadWord a is away none = quiet-read m value l a is
quiet_turn m value l (InChecked s kind) a is away none = quiet-checked l s kind a is
