-- Exchanges of slab words and of list words that are lost: the word is loaded again.
use Rattle.std.proofs.Common.{◌≡◌, ℕ, List, [], ◌∷◌, refl, arith}
use Rattle.std.proofs.lemmas.List.Elements.{All-head}
use Rattle.slub_core.specs.declared.local.Hand.{Hand}
use Rattle.slub_core.specs.declared.step.Answer.TheVariants.{Lost}
use Rattle.slub_core.specs.declared.spot.Spot.TheVariants.{InAlloc, InPutAway, InPutOnList, InFree, InMoveSet}
use Rattle.slub_core.specs.declared.spot.AllocSpot.TheVariants.{LoadTaken, TakeAll, MarkFull, LoadKept, FreezeKept, LoadPopped, FreezePopped, Unlist}
use Rattle.slub_core.specs.declared.spot.Away.{Away}
use Rattle.slub_core.specs.declared.spot.PutAwaySpot.TheVariants.{LoadAway, Unfreeze}
use Rattle.slub_core.specs.declared.spot.PutOnList.{PutOnList}
use Rattle.slub_core.specs.declared.spot.PutOnListSpot.TheVariants.{LoadList, PushString}
use Rattle.slub_core.specs.declared.spot.FreeSpot.TheVariants.{LoadSlab, FreeSlab, LoadLocked, FreeLocked}
use Rattle.slub_core.specs.declared.spot.MoveSet.{MoveSet}
use Rattle.slub_core.specs.declared.spot.MoveSetSpot.TheVariants.{LoadMoved, ListSlab}
use Rattle.slub_core.specs.World.{World}
use Rattle.slub_core.specs.Local.{Worker, at}
use Rattle.slub_core.specs.Alloc.{alloc_advance}
use Rattle.slub_core.specs.PutAway.{put_away_advance}
use Rattle.slub_core.specs.PutOnList.{put_on_list_advance}
use Rattle.slub_core.specs.Free.{free_advance}
use Rattle.slub_core.specs.MoveSet.{move_set_advance}
use Rattle.slub_core.specs.Spots.{Popped, Ready}
use Rattle.slub_core.specs.Fresh.{IsAtWork}
use Rattle.slub_core.specs.Coherent.{Stands}
use Rattle.slub_core.proofs.StepHands.{one-hand, two-hands}
use Rattle.slub_core.proofs.LocalStep.{local_step}
use Rattle.slub_core.proofs.Locks.{ComesTo}

-- ---- an allocation

lost_take_all-work : (w : World) (x : Worker) → x.local.spot ≡ InAlloc TakeAll → IsAtWork w x → IsAtWork w (record x { local = at x.local (InAlloc LoadTaken) })
lost_take_all-work w x is ok = grind arith

pub at_TakeAll-lost : (w : World) (x : Worker) (others : List Worker) (word : ℕ) → x.local.spot ≡ InAlloc TakeAll → Stands w (x ∷ others)
    → ComesTo w others (alloc_advance w.setup x.local TakeAll (Lost word)).local
at_TakeAll-lost w x others word is s =
    (record x { local = at x.local (InAlloc LoadTaken) }, refl, local_step w x _ others s (λ f i. refl) (record { home = λ f. refl; marked = λ f. rw is refl; covered = λ g. refl; takes = λ k. rw is refl }) (lost_take_all-work w x is (All-head (IsAtWork w) x others s.fresh.workers)))

lost_mark_full-work : (w : World) (x : Worker) → x.local.spot ≡ InAlloc MarkFull → IsAtWork w x → IsAtWork w (record x { local = at x.local (InAlloc LoadTaken) })
lost_mark_full-work w x is ok = grind arith

pub at_MarkFull-lost : (w : World) (x : Worker) (others : List Worker) (word : ℕ) → x.local.spot ≡ InAlloc MarkFull → Stands w (x ∷ others)
    → ComesTo w others (alloc_advance w.setup x.local MarkFull (Lost word)).local
at_MarkFull-lost w x others word is s =
    (record x { local = at x.local (InAlloc LoadTaken) }, refl, local_step w x _ others s (λ f i. refl) (record { home = λ f. refl; marked = λ f. rw is refl; covered = λ g. refl; takes = λ k. rw is refl }) (lost_mark_full-work w x is (All-head (IsAtWork w) x others s.fresh.workers)))

lost_freeze_kept-work : (w : World) (x : Worker) → x.local.spot ≡ InAlloc FreezeKept → IsAtWork w x → IsAtWork w (record x { local = at x.local (InAlloc LoadKept) })
lost_freeze_kept-work w x is ok = grind arith

pub at_FreezeKept-lost : (w : World) (x : Worker) (others : List Worker) (word : ℕ) → x.local.spot ≡ InAlloc FreezeKept → Stands w (x ∷ others)
    → ComesTo w others (alloc_advance w.setup x.local FreezeKept (Lost word)).local
at_FreezeKept-lost w x others word is s =
    (record x { local = at x.local (InAlloc LoadKept) }, refl, local_step w x _ others s (λ f i. refl) (record { home = λ f. refl; marked = λ f. rw is refl; covered = λ g. refl; takes = λ k. rw is refl }) (lost_freeze_kept-work w x is (All-head (IsAtWork w) x others s.fresh.workers)))

lost_freeze_popped-work : (w : World) (x : Worker) (h : Hand) → x.local.spot ≡ InAlloc FreezePopped → x.local.hands ≡ h ∷ [] → IsAtWork w x → IsAtWork w (record x { local = at x.local (InAlloc LoadPopped) })
lost_freeze_popped-work w x h is some ok = grind arith

pub at_FreezePopped-lost : (w : World) (x : Worker) (others : List Worker) (word : ℕ) → x.local.spot ≡ InAlloc FreezePopped → Stands w (x ∷ others)
    → ComesTo w others (alloc_advance w.setup x.local FreezePopped (Lost word)).local
at_FreezePopped-lost w x others word is s =
    let ok = All-head (IsAtWork w) x others s.fresh.workers in
    let r = one-hand Popped x.local.hands x.chains (rw is at ok.spot.hands) in
    (record x { local = at x.local (InAlloc LoadPopped) }, refl, local_step w x _ others s (λ f i. refl) (record { home = λ f. refl; marked = λ f. rw is refl; covered = λ g. refl; takes = λ k. rw is refl }) (lost_freeze_popped-work w x r.0 is r.2 ok))

lost_unlist-work : (w : World) (x : Worker) (h k : Hand) → x.local.spot ≡ InAlloc Unlist → x.local.hands ≡ h ∷ k ∷ [] → IsAtWork w x → IsAtWork w (record x { local = at x.local (InAlloc LoadPopped) })
lost_unlist-work w x h k is some ok = grind arith

pub at_Unlist-lost : (w : World) (x : Worker) (others : List Worker) (word : ℕ) → x.local.spot ≡ InAlloc Unlist → Stands w (x ∷ others)
    → ComesTo w others (alloc_advance w.setup x.local Unlist (Lost word)).local
at_Unlist-lost w x others word is s =
    let ok = All-head (IsAtWork w) x others s.fresh.workers in
    let r = two-hands Popped Ready x.local.hands x.chains (rw is at ok.spot.hands) in
    (record x { local = at x.local (InAlloc LoadPopped) }, refl, local_step w x _ others s (λ f i. refl) (record { home = λ f. refl; marked = λ f. rw is refl; covered = λ g. refl; takes = λ k. rw is refl }) (lost_unlist-work w x r.0 r.1 is r.4 ok))

-- ---- a slab that is put away, a string that is put on a list

lost_unfreeze-work : (w : World) (x : Worker) (away : Away) → x.local.spot ≡ InPutAway Unfreeze away → IsAtWork w x → IsAtWork w (record x { local = at x.local (InPutAway LoadAway away) })
lost_unfreeze-work w x away is ok = grind arith

pub at_Unfreeze-lost : (w : World) (x : Worker) (others : List Worker) (away : Away) (word : ℕ) → x.local.spot ≡ InPutAway Unfreeze away → Stands w (x ∷ others)
    → ComesTo w others (put_away_advance w.setup w.value x.local Unfreeze away (Lost word)).local
at_Unfreeze-lost w x others away word is s =
    (record x { local = at x.local (InPutAway LoadAway away) }, refl, local_step w x _ others s (λ f i. refl) (record { home = λ f. refl; marked = λ f. rw is refl; covered = λ g. refl; takes = λ k. rw is refl }) (lost_unfreeze-work w x away is (All-head (IsAtWork w) x others s.fresh.workers)))

lost_push_string-work : (w : World) (x : Worker) (put : PutOnList) → x.local.spot ≡ InPutOnList PushString put → IsAtWork w x → IsAtWork w (record x { local = at x.local (InPutOnList LoadList put) })
lost_push_string-work w x put is ok = grind arith

pub at_PushString-lost : (w : World) (x : Worker) (others : List Worker) (put : PutOnList) (word : ℕ) → x.local.spot ≡ InPutOnList PushString put → Stands w (x ∷ others)
    → ComesTo w others (put_on_list_advance x.local PushString put (Lost word)).local
at_PushString-lost w x others put word is s =
    (record x { local = at x.local (InPutOnList LoadList put) }, refl, local_step w x _ others s (λ f i. refl) (record { home = λ f. refl; marked = λ f. rw is refl; covered = λ g. refl; takes = λ k. rw is refl }) (lost_push_string-work w x put is (All-head (IsAtWork w) x others s.fresh.workers)))

-- ---- a free, a set that is moved

lost_free_slab-work : (w : World) (x : Worker) → x.local.spot ≡ InFree FreeSlab → IsAtWork w x → IsAtWork w (record x { local = at x.local (InFree LoadSlab) })
lost_free_slab-work w x is ok = grind arith

pub at_FreeSlab-lost : (w : World) (x : Worker) (others : List Worker) (word : ℕ) → x.local.spot ≡ InFree FreeSlab → Stands w (x ∷ others)
    → ComesTo w others (free_advance w.setup x.local FreeSlab (Lost word)).local
at_FreeSlab-lost w x others word is s =
    (record x { local = at x.local (InFree LoadSlab) }, refl, local_step w x _ others s (λ f i. refl) (record { home = λ f. refl; marked = λ f. rw is refl; covered = λ g. refl; takes = λ k. rw is refl }) (lost_free_slab-work w x is (All-head (IsAtWork w) x others s.fresh.workers)))

lost_free_locked-work : (w : World) (x : Worker) → x.local.spot ≡ InFree FreeLocked → IsAtWork w x → IsAtWork w (record x { local = at x.local (InFree LoadLocked) })
lost_free_locked-work w x is ok = grind arith

pub at_FreeLocked-lost : (w : World) (x : Worker) (others : List Worker) (word : ℕ) → x.local.spot ≡ InFree FreeLocked → Stands w (x ∷ others)
    → ComesTo w others (free_advance w.setup x.local FreeLocked (Lost word)).local
at_FreeLocked-lost w x others word is s =
    (record x { local = at x.local (InFree LoadLocked) }, refl, local_step w x _ others s (λ f i. refl) (record { home = λ f. refl; marked = λ f. rw is refl; covered = λ g. refl; takes = λ k. rw is refl }) (lost_free_locked-work w x is (All-head (IsAtWork w) x others s.fresh.workers)))

lost_list_slab-work : (w : World) (x : Worker) (move : MoveSet) → x.local.spot ≡ InMoveSet ListSlab move → IsAtWork w x → IsAtWork w (record x { local = at x.local (InMoveSet LoadMoved move) })
lost_list_slab-work w x move is ok = grind arith

pub at_ListSlab-lost : (w : World) (x : Worker) (others : List Worker) (move : MoveSet) (word : ℕ) → x.local.spot ≡ InMoveSet ListSlab move → Stands w (x ∷ others)
    → ComesTo w others (move_set_advance w.setup w.value x.local ListSlab move (Lost word)).local
at_ListSlab-lost w x others move word is s =
    (record x { local = at x.local (InMoveSet LoadMoved move) }, refl, local_step w x _ others s (λ f i. refl) (record { home = λ f. refl; marked = λ f. rw is refl; covered = λ g. refl; takes = λ k. rw is refl }) (lost_list_slab-work w x move is (All-head (IsAtWork w) x others s.fresh.workers)))
