-- What a worker does at once looks at what its locks guard, and changes nothing else.
use Rattle.std.proofs.Common.{◌≡◌, ℕ, Bool, true, false, if◌then◌else◌, nat_lt, nat_le, length, slice_index, ◌++◌, List, [], ◌∷◌, Contains, Option, Some, None, refl, sym, ◌∙◌, subst, inl, inr}
use Rattle.std.proofs.lemmas.Bool.{cases_eq}
use Rattle.slub_page_pool.specs.FreeFrames.{FreeFrames}
use Rattle.slub_object_layout.specs.declared.layout.Layout.{Layout}
use Rattle.slub_trace.specs.declared.damage.Damage.{Damage}
use Rattle.slub_red_zone.specs.declared.checked.CheckedGive.{CheckedGive}
use Rattle.slub_red_zone.specs.declared.checked.CheckedGive.TheVariants as give
use Rattle.slub_red_zone.specs.State.{CheckedState}
use Rattle.slub_red_zone.specs.Steps.{damage_of_used}
use Rattle.slub_trace.specs.declared.reply.Reply.{Reply}
use Rattle.slub_core.specs.declared.call.CallKind.{CallKind}
use Rattle.slub_core.specs.declared.call.CallKind.TheVariants.{Alloc, Free, Write, Read, Poke}
use Rattle.slub_core.specs.declared.local.FrameRun.{FrameRun}
use Rattle.slub_core.specs.declared.spot.Spot.{Spot}
use Rattle.slub_core.specs.declared.spot.Spot.TheVariants.{InAlloc, InPutAway, InDiscard, InFree, InMoveSet, InTrim, InChecked}
use Rattle.slub_core.specs.declared.spot.AllocSpot.{AllocSpot}
use Rattle.slub_core.specs.declared.spot.AllocSpot.TheVariants.{PopNode, TakeRun}
use Rattle.slub_core.specs.declared.spot.PutAwaySpot.{PutAwaySpot}
use Rattle.slub_core.specs.declared.spot.PutAwaySpot.TheVariants.{PutNode, GiveAway}
use Rattle.slub_core.specs.declared.spot.Away.{Away}
use Rattle.slub_core.specs.declared.spot.DiscardSpot.{DiscardSpot}
use Rattle.slub_core.specs.declared.spot.DiscardSpot.TheVariants.{Unmake, PutRun, GiveDiscard}
use Rattle.slub_core.specs.declared.spot.Discard.{Discard}
use Rattle.slub_core.specs.declared.spot.Discard.TheVariants.{FromFree, FromTrim}
use Rattle.slub_core.specs.declared.spot.FreeSpot.{FreeSpot}
use Rattle.slub_core.specs.declared.spot.FreeSpot.TheVariants.{TakeOff, GiveFree}
use Rattle.slub_core.specs.declared.spot.MoveSetSpot.{MoveSetSpot}
use Rattle.slub_core.specs.declared.spot.MoveSetSpot.TheVariants.{ChooseFront, PutTail}
use Rattle.slub_core.specs.declared.spot.MoveSet.{MoveSet}
use Rattle.slub_core.specs.declared.spot.TrimSpot.{TrimSpot}
use Rattle.slub_core.specs.declared.spot.TrimSpot.TheVariants.{ScanNode, DropScanned}
use Rattle.slub_core.specs.declared.spot.CheckedSpot.{CheckedSpot}
use Rattle.slub_core.specs.declared.spot.CheckedSpot.TheVariants.{DoChecked, MoveRun, AddSlab}
use Rattle.slub_core.specs.Setup.{Setup, node_lock, pool_lock}
use Rattle.slub_core.specs.World.{LockValue, update, frames_in, pool_in}
use Rattle.slub_core.specs.Local.{Local, Change, here, at, with_hand, less_hand, bare_hand, hand_of, run_of, stays}
use Rattle.slub_core.specs.Alloc.{node_of, with_node, asks_for_another, pop_node, take_run, run_taken, found_run, alloc_at_once, pool_with}
use Rattle.slub_core.specs.PutAway.{has_enough, put_on_node, put_away_at_once}
use Rattle.slub_core.specs.Discard.{with_put, discard_at_once}
use Rattle.slub_core.specs.Free.{without, free_at_once}
use Rattle.slub_core.specs.MoveSet.{move_set_at_once}
use Rattle.slub_core.specs.Offline.{scan_node, without_at, trim_at_once}
use Rattle.slub_core.specs.Checked.{slabs_in, slabs_of, slot_of, gave, took_back, do_checked, move_run, slab_added, slab_refused, with_slabs, checked_at_once}
use Rattle.slub_core.specs.Spots.{has_node}
use Rattle.slub_core.specs.Steps.{at_once}
use Rattle.slub_core.proofs.Update.{update_other, update_at}
use Rattle.slub_workers.specs.Locks.{locks_of}
use Rattle.slub_workers.proofs.Locals.{locks_at, node_at, pool_at}

-- ---- two values of the locks

-- the same is guarded by these locks
abbrev pub Agree : List ℕ → (ℕ → LockValue) → (ℕ → LockValue) → Type 0
Agree locks v w = (lock : ℕ) → Contains locks lock → v lock ≡ w lock

-- two changes, the one with the values v, the other with w: they are the same but for what other locks guard, which stays
pub record AreAlike (locks : List ℕ) (v w : ℕ → LockValue) (c d : Change) : Type 0 where
  pub local : c.local ≡ d.local
  pub reply : c.reply ≡ d.reply
  pub here : (lock : ℕ) → Contains locks lock → c.value lock ≡ d.value lock
  pub one : (lock : ℕ) → ¬ Contains locks lock → c.value lock ≡ v lock
  pub other : (lock : ℕ) → ¬ Contains locks lock → d.value lock ≡ w lock

-- no value is changed
same_as : (locks : List ℕ) (v w : ℕ → LockValue) (k : Local) (reply : Option Reply) → Agree locks v w → AreAlike locks v w (record { value = v; local = k; reply = reply }) (record { value = w; local = k; reply = reply })
same_as locks v w k reply agree = record {
  local = refl;
  reply = refl;
  here = agree;
  one = λ lock hasnt. refl;
  other = λ lock hasnt. refl;
}

-- what one of the locks guards is changed
changed_at : (locks : List ℕ) (v w : ℕ → LockValue) (n : ℕ) (x : LockValue) (k : Local) (reply : Option Reply) → Contains locks n → Agree locks v w
    → AreAlike locks v w (record { value = update v n x; local = k; reply = reply }) (record { value = update w n x; local = k; reply = reply })
changed_at locks v w n x k reply has agree = record {
  local = refl;
  reply = refl;
  here = λ lock within. elim (cases_eq lock n) [
    | inl is ↦ update_at v n x lock is ∙ sym (update_at w n x lock is)
    | inr isnt ↦ update_other v n x lock isnt ∙ agree lock within ∙ sym (update_other w n x lock isnt)
  ];
  one = λ lock hasnt. update_other v n x lock (λ is. hasnt (subst (λ a. Contains locks a) (sym is) has));
  other = λ lock hasnt. update_other w n x lock (λ is. hasnt (subst (λ a. Contains locks a) (sym is) has));
}

either : (locks : List ℕ) (v w : ℕ → LockValue) (b : Bool) (c d e f : Change) → AreAlike locks v w c d → AreAlike locks v w e f → AreAlike locks v w (if b then c else e) (if b then d else f)
either locks v w true c d e f one other = one
either locks v w false c d e f one other = other

-- ---- spot by spot

popped : (m : Setup) (v w : ℕ → LockValue) (l : Local) (frames : List ℕ) → Agree (locks_at (InAlloc PopNode) l.cache) v w → AreAlike (locks_at (InAlloc PopNode) l.cache) v w (pop_node m v l frames) (pop_node m w l frames)
popped m v w l [] agree = same_as _ v w _ None agree
popped m v w l (frame ∷ frames) agree = either _ v w (asks_for_another m l) _ _ _ _ (changed_at _ v w (node_lock l.cache) _ _ None (node_at (InAlloc PopNode) l.cache refl) agree) (same_as _ v w _ None agree)

found_alike : (locks : List ℕ) (v w : ℕ → LockValue) (pool : FreeFrames) (layout : Layout) (l : Local) (found : Option FrameRun) → Contains locks pool_lock → Agree locks v w → AreAlike locks v w (run_taken v pool layout l found) (run_taken w pool layout l found)
found_alike locks v w pool layout l None has agree = changed_at locks v w pool_lock _ _ _ has agree
found_alike locks v w pool layout l (Some run) has agree = changed_at locks v w pool_lock _ _ None has agree

alloc_alike : (m : Setup) (v w : ℕ → LockValue) (l : Local) (s : AllocSpot) → Agree (locks_at (InAlloc s) l.cache) v w → AreAlike (locks_at (InAlloc s) l.cache) v w (alloc_at_once m v l s) (alloc_at_once m w l s)
alloc_alike m v w l PopNode agree =
    let locks = locks_at (InAlloc PopNode) l.cache in
    let at_node = agree (node_lock l.cache) (node_at (InAlloc PopNode) l.cache refl) in
    subst (λ x. AreAlike locks v w (pop_node m v l (node_of v l)) (pop_node m w l (frames_in x))) at_node (popped m v w l (node_of v l) agree)
alloc_alike m v w l TakeRun agree =
    let locks = locks_at (InAlloc TakeRun) l.cache in
    let has = pool_at (InAlloc TakeRun) l.cache refl in
    let pool = pool_in (v pool_lock) in
    subst (λ x. AreAlike locks v w (take_run m v l pool) (take_run m w l (pool_in x))) (agree pool_lock has) (found_alike locks v w pool (m.layout l.cache) _ (found_run m pool (m.layout l.cache)) has agree)
alloc_alike m v w l s agree = same_as _ v w l None agree

away_alike : (v w : ℕ → LockValue) (l : Local) (s : PutAwaySpot) (away : Away) → Agree (locks_at (InPutAway s away) l.cache) v w → AreAlike (locks_at (InPutAway s away) l.cache) v w (put_away_at_once v l s away) (put_away_at_once w l s away)
away_alike v w l PutNode away agree =
    let locks = locks_at (InPutAway PutNode away) l.cache in
    let has = node_at (InPutAway PutNode away) l.cache refl in
    let put : LockValue → Change = λ x. stays (with_node w l (put_on_node l.slab_word (hand_of l).frame (frames_in x))) (at (less_hand l) (InPutAway GiveAway away)) in
    subst (λ x. AreAlike locks v w (put_away_at_once v l PutNode away) (put x)) (agree (node_lock l.cache) has) (changed_at locks v w (node_lock l.cache) _ _ None has agree)
away_alike v w l s away agree = same_as _ v w l None agree

discard_alike : (v w : ℕ → LockValue) (l : Local) (s : DiscardSpot) (discard : Discard) → Agree (locks_at (InDiscard s discard) l.cache) v w → AreAlike (locks_at (InDiscard s discard) l.cache) v w (discard_at_once v l s discard) (discard_at_once w l s discard)
discard_alike v w l PutRun discard agree =
    let locks = locks_at (InDiscard PutRun discard) l.cache in
    let has = pool_at (InDiscard PutRun discard) l.cache refl in
    let put : LockValue → Change = λ x. stays (pool_with w (with_put (pool_in x) (run_of l))) (record l { run = None; spot = InDiscard GiveDiscard discard }) in
    subst (λ x. AreAlike locks v w (discard_at_once v l PutRun discard) (put x)) (agree pool_lock has) (changed_at locks v w pool_lock _ _ None has agree)
discard_alike v w l s discard agree = same_as _ v w l None agree

-- the slab of the freed object comes off the list or stays
abbrev taken_off : (ℕ → LockValue) → Local → Bool → List ℕ → Change
taken_off v l off frames = record {
  value = (if off then with_node v l (without frames (here l).frame) else v);
  local = (if off then at (with_hand l (bare_hand (here l).frame)) (InDiscard Unmake FromFree)
      else at l (InFree GiveFree));
  reply = None;
}

off_alike : (v w : ℕ → LockValue) (l : Local) (off : Bool) (frames : List ℕ) → Agree (locks_at (InFree TakeOff) l.cache) v w
    → AreAlike (locks_at (InFree TakeOff) l.cache) v w (taken_off v l off frames) (taken_off w l off frames)
off_alike v w l true frames agree = changed_at _ v w (node_lock l.cache) _ _ None (node_at (InFree TakeOff) l.cache refl) agree
off_alike v w l false frames agree = same_as _ v w _ None agree

free_alike : (m : Setup) (v w : ℕ → LockValue) (l : Local) (s : FreeSpot) → Agree (locks_at (InFree s) l.cache) v w → AreAlike (locks_at (InFree s) l.cache) v w (free_at_once m v l s) (free_at_once m w l s)
free_alike m v w l TakeOff agree =
    let locks = locks_at (InFree TakeOff) l.cache in
    let least = (m.layout l.cache).min_partial in
    subst (λ x. AreAlike locks v w (free_at_once m v l TakeOff) (taken_off w l (nat_le least (length (frames_in x))) (frames_in x)))
    (agree (node_lock l.cache) (node_at (InFree TakeOff) l.cache refl)) (off_alike v w l (has_enough m v l) (node_of v l) agree)
free_alike m v w l s agree = same_as _ v w l None agree

move_alike : (v w : ℕ → LockValue) (l : Local) (s : MoveSetSpot) (move : MoveSet) → Agree (locks_at (InMoveSet s move) l.cache) v w → AreAlike (locks_at (InMoveSet s move) l.cache) v w (move_set_at_once v l s move) (move_set_at_once w l s move)
move_alike v w l PutTail move agree =
    let locks = locks_at (InMoveSet PutTail move) l.cache in
    let has = node_at (InMoveSet PutTail move) l.cache refl in
    let put : LockValue → Change = λ x. stays (with_node w l (frames_in x ++ (hand_of l).frame ∷ [])) (at (less_hand l) (InMoveSet ChooseFront move)) in
    subst (λ x. AreAlike locks v w (move_set_at_once v l PutTail move) (put x)) (agree (node_lock l.cache) has) (changed_at locks v w (node_lock l.cache) _ _ None has agree)
move_alike v w l ChooseFront move agree = same_as _ v w _ None agree
move_alike v w l s move agree = same_as _ v w l None agree

scanned_alike : (m : Setup) (v w : ℕ → LockValue) (l : Local) (frames : List ℕ) → Agree (locks_at (InTrim ScanNode) l.cache) v w → AreAlike (locks_at (InTrim ScanNode) l.cache) v w (scan_node m v l frames) (scan_node m w l frames)
scanned_alike m v w l frames agree = either _ v w (nat_lt (length l.scanned) (length frames)) _ _ _ _ (same_as _ v w _ None agree) (changed_at _ v w (node_lock l.cache) _ _ None (node_at (InTrim ScanNode) l.cache refl) agree)

trim_alike : (m : Setup) (v w : ℕ → LockValue) (l : Local) (s : TrimSpot) → Agree (locks_at (InTrim s) l.cache) v w → AreAlike (locks_at (InTrim s) l.cache) v w (trim_at_once m v l s) (trim_at_once m w l s)
trim_alike m v w l ScanNode agree =
    let locks = locks_at (InTrim ScanNode) l.cache in
    subst (λ x. AreAlike locks v w (scan_node m v l (node_of v l)) (scan_node m w l (frames_in x))) (agree (node_lock l.cache) (node_at (InTrim ScanNode) l.cache refl)) (scanned_alike m v w l (node_of v l) agree)
trim_alike m v w l DropScanned agree =
    let locks = locks_at (InTrim DropScanned) l.cache in
    let has = node_at (InTrim DropScanned) l.cache refl in
    let dropped : LockValue → Change = λ x. stays (with_node w l (without_at (frames_in x) (length l.scanned))) (at (with_hand l (bare_hand (slice_index (frames_in x) (length l.scanned)))) (InDiscard Unmake FromTrim)) in
    subst (λ x. AreAlike locks v w (trim_at_once m v l DropScanned) (dropped x)) (agree (node_lock l.cache) has) (changed_at locks v w (node_lock l.cache) _ _ None has agree)
trim_alike m v w l s agree = same_as _ v w l None agree

-- ---- checked caches

abbrev checked_locks : CheckedSpot → CallKind → Local → List ℕ
checked_locks s kind l = locks_at (InChecked s kind) l.cache

slabs_changed : (s : CheckedSpot) (kind : CallKind) (v w : ℕ → LockValue) (l k : Local) (slabs : CheckedState) (reply : Option Reply) → has_node (InChecked s kind) ≡ true → Agree (checked_locks s kind l) v w
    → AreAlike (checked_locks s kind l) v w (record { value = with_slabs v l slabs; local = k; reply = reply }) (record { value = with_slabs w l slabs; local = k; reply = reply })
slabs_changed s kind v w l k slabs reply has agree = changed_at _ v w (node_lock l.cache) _ k reply (node_at (InChecked s kind) l.cache has) agree

gave_alike : (m : Setup) (v w : ℕ → LockValue) (l : Local) (s : CheckedState) (what : CheckedGive) → Agree (checked_locks DoChecked Alloc l) v w → AreAlike (checked_locks DoChecked Alloc l) v w (gave m v l s what) (gave m w l s what)
gave_alike m v w l s (give.Given slot) agree = slabs_changed DoChecked Alloc v w l _ s _ refl agree
gave_alike m v w l s give.Empty agree = slabs_changed DoChecked Alloc v w l _ s None refl agree

took_alike : (m : Setup) (v w : ℕ → LockValue) (l : Local) (s : CheckedState) (damage : Option Damage) → Agree (checked_locks DoChecked Free l) v w → AreAlike (checked_locks DoChecked Free l) v w (took_back m v l s damage) (took_back m w l s damage)
took_alike m v w l s None agree = slabs_changed DoChecked Free v w l _ _ _ refl agree
took_alike m v w l s (Some damage) agree = same_as _ v w _ _ agree

done_alike : (m : Setup) (v w : ℕ → LockValue) (l : Local) (kind : CallKind) (s : CheckedState) → Agree (checked_locks DoChecked kind l) v w → AreAlike (checked_locks DoChecked kind l) v w (do_checked m v l kind s) (do_checked m w l kind s)
done_alike m v w l Alloc s agree = gave_alike m v w l (m.means.give s) (m.means.gave s) agree
done_alike m v w l Free s agree = took_alike m v w l s (damage_of_used s (slot_of l)) agree
done_alike m v w l Write s agree = slabs_changed DoChecked Write v w l _ _ _ refl agree
done_alike m v w l Read s agree = same_as _ v w _ _ agree
done_alike m v w l Poke s agree = slabs_changed DoChecked Poke v w l _ _ _ refl agree
done_alike m v w l kind s agree = same_as _ v w l None agree

run_alike : (m : Setup) (v w : ℕ → LockValue) (l : Local) (kind : CallKind) (pool : FreeFrames) → Agree (checked_locks MoveRun kind l) v w → AreAlike (checked_locks MoveRun kind l) v w (move_run m v l kind pool) (move_run m w l kind pool)
run_alike m v w l Alloc pool agree = found_alike _ v w pool (m.layout l.cache) _ (found_run m pool (m.layout l.cache)) (pool_at (InChecked MoveRun Alloc) l.cache refl) agree
run_alike m v w l kind pool agree = changed_at _ v w pool_lock _ _ None (pool_at (InChecked MoveRun kind) l.cache refl) agree

-- a new slab is added, or the run goes back to the pool
abbrev added : Setup → (ℕ → LockValue) → Local → Bool → CheckedState → FreeFrames → Change
added m v l r slabs pool = if r then slab_refused v l pool (run_of l) else slab_added m v l slabs (run_of l)

added_alike : (m : Setup) (v w : ℕ → LockValue) (l : Local) (kind : CallKind) (r : Bool) (slabs : CheckedState) (pool : FreeFrames) → Agree (checked_locks AddSlab kind l) v w → AreAlike (checked_locks AddSlab kind l) v w (added m v l r slabs pool) (added m w l r slabs pool)
added_alike m v w l kind r slabs pool agree = either _ v w r _ _ _ _ (changed_at _ v w pool_lock _ _ _ (pool_at (InChecked AddSlab kind) l.cache refl) agree) (slabs_changed AddSlab kind v w l _ _ _ refl agree)

checked_alike : (m : Setup) (r : Bool) (v w : ℕ → LockValue) (l : Local) (s : CheckedSpot) (kind : CallKind) → Agree (checked_locks s kind l) v w → AreAlike (checked_locks s kind l) v w (checked_at_once m r v l s kind) (checked_at_once m r w l s kind)
checked_alike m r v w l DoChecked kind agree =
    subst (λ x. AreAlike (checked_locks DoChecked kind l) v w (do_checked m v l kind (slabs_of m v l)) (do_checked m w l kind (slabs_in (m.layout l.cache) x)))
    (agree (node_lock l.cache) (node_at (InChecked DoChecked kind) l.cache refl)) (done_alike m v w l kind (slabs_of m v l) agree)
checked_alike m r v w l MoveRun kind agree =
    subst (λ x. AreAlike (checked_locks MoveRun kind l) v w (move_run m v l kind (pool_in (v pool_lock))) (move_run m w l kind (pool_in x)))
    (agree pool_lock (pool_at (InChecked MoveRun kind) l.cache refl)) (run_alike m v w l kind (pool_in (v pool_lock)) agree)
checked_alike m r v w l AddSlab kind agree =
    let pool = pool_in (v pool_lock) in
    let by_pool = subst (λ x. AreAlike (checked_locks AddSlab kind l) v w (added m v l r (slabs_of m v l) pool) (added m w l r (slabs_of m v l) (pool_in x)))
    (agree pool_lock (pool_at (InChecked AddSlab kind) l.cache refl)) (added_alike m v w l kind r (slabs_of m v l) pool agree) in
    subst (λ x. AreAlike (checked_locks AddSlab kind l) v w (added m v l r (slabs_of m v l) pool) (added m w l r (slabs_in (m.layout l.cache) x) (pool_in (w pool_lock))))
    (agree (node_lock l.cache) (node_at (InChecked AddSlab kind) l.cache refl)) by_pool
checked_alike m r v w l s kind agree = same_as _ v w l None agree

-- ---- any spot

at_spot : (m : Setup) (r : Bool) (v w : ℕ → LockValue) (l : Local) (s : Spot) → Agree (locks_at s l.cache) v w → AreAlike (locks_at s l.cache) v w (at_once m r v l s) (at_once m r w l s)
at_spot m r v w l (InAlloc s) agree = alloc_alike m v w l s agree
at_spot m r v w l (InPutAway s away) agree = away_alike v w l s away agree
at_spot m r v w l (InDiscard s discard) agree = discard_alike v w l s discard agree
at_spot m r v w l (InFree s) agree = free_alike m v w l s agree
at_spot m r v w l (InMoveSet s move) agree = move_alike v w l s move agree
at_spot m r v w l (InTrim s) agree = trim_alike m v w l s agree
at_spot m r v w l (InChecked s kind) agree = checked_alike m r v w l s kind agree
at_spot m r v w l s agree = same_as _ v w l None agree

pub at_once_alike : (m : Setup) (r : Bool) (v w : ℕ → LockValue) (l : Local) → ((lock : ℕ) → Contains (locks_of l) lock → v lock ≡ w lock) → AreAlike (locks_of l) v w (at_once m r v l l.spot) (at_once m r w l l.spot)
at_once_alike m r v w l agree = at_spot m r v w l l.spot agree
