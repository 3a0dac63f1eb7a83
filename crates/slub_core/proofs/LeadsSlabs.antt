-- The step of a spot, on the table of words: exchanges on slab words.
use Rattle.std.proofs.Common.{[], ◌∷◌, refl}
use Rattle.slub_core.specs.declared.spot.Spot.TheVariants.{InAlloc, InFree, InPutAway, InMoveSet}
use Rattle.slub_core.specs.declared.spot.AllocSpot.TheVariants.{TakeAll, MarkFull, FreezeKept, FreezePopped, Unlist}
use Rattle.slub_core.specs.declared.spot.FreeSpot.TheVariants.{FreeSlab, FreeLocked}
use Rattle.slub_core.specs.declared.spot.PutAwaySpot.TheVariants.{Unfreeze}
use Rattle.slub_core.specs.declared.spot.MoveSetSpot.TheVariants.{ListSlab}
use Rattle.slub_core.specs.declared.spot.Away.{Away}
use Rattle.slub_core.specs.declared.spot.MoveSet.{MoveSet}
use Rattle.slub_core.specs.declared.step.Answer.TheVariants.{Won, Lost}
use Rattle.slub_core.specs.World.{world_from, world_of, set_slab}
use Rattle.slub_core.specs.Local.{here, hand_of}
use Rattle.slub_core.specs.Alloc.{emptied_word, thawed_word, frozen_word, unlisted_word}
use Rattle.slub_core.specs.PutAway.{unfrozen_word}
use Rattle.slub_core.specs.MoveSet.{listed_word}
use Rattle.slub_core.specs.Free.{freed_word}
use Rattle.slub_core.specs.Spots.{Taken, Kept, Popped, Ready, Leaving, beside_away, beside_move}
use Rattle.slub_core.specs.Steps.{advance_at, told}
use Rattle.slub_core.proofs.Leads.{AtSpot, at_work, slab_fits, held_below}
use Rattle.slub_core.proofs.LeadsHands.{hand_below}
use Rattle.slub_core.proofs.WordSteps.{slab_exchange}
use Rattle.slub_core.proofs.Kind18.{at_TakeAll-won, at_FreezeKept-won, at_FreezePopped-won}
use Rattle.slub_core.proofs.LostWords.{at_TakeAll-lost, at_MarkFull-lost, at_FreezeKept-lost, at_FreezePopped-lost, at_Unlist-lost, at_FreeSlab-lost, at_FreeLocked-lost, at_Unfreeze-lost, at_ListSlab-lost}
use Rattle.slub_core.proofs.Kind12.{at_MarkFull-won, at_Unlist-won}
use Rattle.slub_core.proofs.Kind9.{at_FreeSlab-won, at_FreeLocked-won}
use Rattle.slub_core.proofs.Kind19.{at_Unfreeze-won}
use Rattle.slub_core.proofs.Kind29.{at_ListSlab-won}
use Rattle.slub_core.proofs.Accounts.{Reaches}
use Rattle.slub_core.proofs.TaleSteps.{quietly}
use Rattle.slub_core.proofs.TaleSpots.{unseen-same, unseen-slab, told_FreeLocked, told_FreeSlab}

pub leads_TakeAll : AtSpot (InAlloc TakeAll)
unfolding world_of world_from
leads_TakeAll opening m value words x others t is s ac =
    let w = world_of m value words in
    let f = (hand_of x.local).frame in
    let below = hand_below w x others Taken [] s (rw is at (at_work w x others s).spot.hands) in
    slab_exchange m value words f x.local.slab_word (emptied_word x.local.slab_word) (λ v a. Reaches opening v others (advance_at m value x.local (InAlloc TakeAll) a)) t below (at_work w x others s).spot.packed.slab_word
    (λ won. let c = at_TakeAll-won w x others is won s in (slab_fits w f (emptied_word x.local.slab_word) others (advance_at m value x.local (InAlloc TakeAll) Won).local c, (c, quietly opening w (set_slab w f (emptied_word x.local.slab_word)) value x others (InAlloc TakeAll) Won is ac (unseen-slab w f (emptied_word x.local.slab_word)) refl refl)))
    (λ word. (at_TakeAll-lost w x others word is s, quietly opening w w value x others (InAlloc TakeAll) (Lost word) is ac (unseen-same w) refl refl))

pub leads_MarkFull : AtSpot (InAlloc MarkFull)
unfolding world_of world_from
leads_MarkFull opening m value words x others t is s ac =
    let w = world_of m value words in
    let f = (hand_of x.local).frame in
    let below = hand_below w x others Taken [] s (rw is at (at_work w x others s).spot.hands) in
    slab_exchange m value words f x.local.slab_word (thawed_word x.local.slab_word) (λ v a. Reaches opening v others (advance_at m value x.local (InAlloc MarkFull) a)) t below (at_work w x others s).spot.packed.slab_word
    (λ won. let c = at_MarkFull-won w x others is won s in (slab_fits w f (thawed_word x.local.slab_word) others (advance_at m value x.local (InAlloc MarkFull) Won).local c, (c, quietly opening w (set_slab w f (thawed_word x.local.slab_word)) value x others (InAlloc MarkFull) Won is ac (unseen-slab w f (thawed_word x.local.slab_word)) refl refl)))
    (λ word. (at_MarkFull-lost w x others word is s, quietly opening w w value x others (InAlloc MarkFull) (Lost word) is ac (unseen-same w) refl refl))

pub leads_FreezeKept : AtSpot (InAlloc FreezeKept)
unfolding world_of world_from
leads_FreezeKept opening m value words x others t is s ac =
    let w = world_of m value words in
    let f = (hand_of x.local).frame in
    let below = hand_below w x others Kept [] s (rw is at (at_work w x others s).spot.hands) in
    slab_exchange m value words f x.local.slab_word (frozen_word x.local.slab_word) (λ v a. Reaches opening v others (advance_at m value x.local (InAlloc FreezeKept) a)) t below (at_work w x others s).spot.packed.slab_word
    (λ won. let c = at_FreezeKept-won w x others is won s in (slab_fits w f (frozen_word x.local.slab_word) others (advance_at m value x.local (InAlloc FreezeKept) Won).local c, (c, quietly opening w (set_slab w f (frozen_word x.local.slab_word)) value x others (InAlloc FreezeKept) Won is ac (unseen-slab w f (frozen_word x.local.slab_word)) refl refl)))
    (λ word. (at_FreezeKept-lost w x others word is s, quietly opening w w value x others (InAlloc FreezeKept) (Lost word) is ac (unseen-same w) refl refl))

pub leads_FreezePopped : AtSpot (InAlloc FreezePopped)
unfolding world_of world_from
leads_FreezePopped opening m value words x others t is s ac =
    let w = world_of m value words in
    let f = (hand_of x.local).frame in
    let below = hand_below w x others Popped [] s (rw is at (at_work w x others s).spot.hands) in
    slab_exchange m value words f x.local.slab_word (frozen_word x.local.slab_word) (λ v a. Reaches opening v others (advance_at m value x.local (InAlloc FreezePopped) a)) t below (at_work w x others s).spot.packed.slab_word
    (λ won. let c = at_FreezePopped-won w x others is won s in (slab_fits w f (frozen_word x.local.slab_word) others (advance_at m value x.local (InAlloc FreezePopped) Won).local c, (c, quietly opening w (set_slab w f (frozen_word x.local.slab_word)) value x others (InAlloc FreezePopped) Won is ac (unseen-slab w f (frozen_word x.local.slab_word)) refl refl)))
    (λ word. (at_FreezePopped-lost w x others word is s, quietly opening w w value x others (InAlloc FreezePopped) (Lost word) is ac (unseen-same w) refl refl))

pub leads_Unlist : AtSpot (InAlloc Unlist)
unfolding world_of world_from
leads_Unlist opening m value words x others t is s ac =
    let w = world_of m value words in
    let f = (hand_of x.local).frame in
    let below = hand_below w x others Popped (Ready ∷ []) s (rw is at (at_work w x others s).spot.hands) in
    slab_exchange m value words f x.local.slab_word (unlisted_word x.local.slab_word) (λ v a. Reaches opening v others (advance_at m value x.local (InAlloc Unlist) a)) t below (at_work w x others s).spot.packed.slab_word
    (λ won. let c = at_Unlist-won w x others is won s in (slab_fits w f (unlisted_word x.local.slab_word) others (advance_at m value x.local (InAlloc Unlist) Won).local c, (c, quietly opening w (set_slab w f (unlisted_word x.local.slab_word)) value x others (InAlloc Unlist) Won is ac (unseen-slab w f (unlisted_word x.local.slab_word)) refl refl)))
    (λ word. (at_Unlist-lost w x others word is s, quietly opening w w value x others (InAlloc Unlist) (Lost word) is ac (unseen-same w) refl refl))

pub leads_FreeSlab : AtSpot (InFree FreeSlab)
unfolding world_of world_from
leads_FreeSlab opening m value words x others t is s ac =
    let w = world_of m value words in
    let f = (here x.local).frame in
    let held = (at_work w x others s).spot.frees (rw is refl) in
    let below = held_below w x others s held.0 held.1 in
    slab_exchange m value words f x.local.slab_word (freed_word x.local) (λ v a. Reaches opening v others (advance_at m value x.local (InFree FreeSlab) a)) t below (at_work w x others s).spot.packed.slab_word
    (λ won. let c = at_FreeSlab-won w x others is won s in (slab_fits w f (freed_word x.local) others (advance_at m value x.local (InFree FreeSlab) Won).local c, (c, (record x { local = told (advance_at m value x.local (InFree FreeSlab) Won) }, refl, told_FreeSlab opening w x others is s ac))))
    (λ word. (at_FreeSlab-lost w x others word is s, quietly opening w w value x others (InFree FreeSlab) (Lost word) is ac (unseen-same w) refl refl))

pub leads_FreeLocked : AtSpot (InFree FreeLocked)
unfolding world_of world_from
leads_FreeLocked opening m value words x others t is s ac =
    let w = world_of m value words in
    let f = (here x.local).frame in
    let held = (at_work w x others s).spot.frees (rw is refl) in
    let below = held_below w x others s held.0 held.1 in
    slab_exchange m value words f x.local.slab_word (freed_word x.local) (λ v a. Reaches opening v others (advance_at m value x.local (InFree FreeLocked) a)) t below (at_work w x others s).spot.packed.slab_word
    (λ won. let c = at_FreeLocked-won w x others is won s in (slab_fits w f (freed_word x.local) others (advance_at m value x.local (InFree FreeLocked) Won).local c, (c, (record x { local = told (advance_at m value x.local (InFree FreeLocked) Won) }, refl, told_FreeLocked opening w x others is s ac))))
    (λ word. (at_FreeLocked-lost w x others word is s, quietly opening w w value x others (InFree FreeLocked) (Lost word) is ac (unseen-same w) refl refl))

pub leads_Unfreeze : (away : Away) → AtSpot (InPutAway Unfreeze away)
unfolding world_of world_from
leads_Unfreeze away opening m value words x others t is s ac =
    let w = world_of m value words in
    let f = (hand_of x.local).frame in
    let below = hand_below w x others Leaving (beside_away away) s (rw is at (at_work w x others s).spot.hands) in
    slab_exchange m value words f x.local.slab_word (unfrozen_word m value x.local) (λ v a. Reaches opening v others (advance_at m value x.local (InPutAway Unfreeze away) a)) t below (at_work w x others s).spot.packed.slab_word
    (λ won. let c = at_Unfreeze-won w x others away is won s in (slab_fits w f (unfrozen_word m value x.local) others (advance_at m value x.local (InPutAway Unfreeze away) Won).local c, (c, quietly opening w (set_slab w f (unfrozen_word m value x.local)) value x others (InPutAway Unfreeze away) Won is ac (unseen-slab w f (unfrozen_word m value x.local)) refl refl)))
    (λ word. (at_Unfreeze-lost w x others away word is s, quietly opening w w value x others (InPutAway Unfreeze away) (Lost word) is ac (unseen-same w) refl refl))

pub leads_ListSlab : (move : MoveSet) → AtSpot (InMoveSet ListSlab move)
unfolding world_of world_from
leads_ListSlab move opening m value words x others t is s ac =
    let w = world_of m value words in
    let f = (hand_of x.local).frame in
    let below = hand_below w x others Kept (beside_move move) s (rw is at (at_work w x others s).spot.hands) in
    slab_exchange m value words f x.local.slab_word (listed_word x.local.slab_word) (λ v a. Reaches opening v others (advance_at m value x.local (InMoveSet ListSlab move) a)) t below (at_work w x others s).spot.packed.slab_word
    (λ won. let c = at_ListSlab-won w x others move is won s in (slab_fits w f (listed_word x.local.slab_word) others (advance_at m value x.local (InMoveSet ListSlab move) Won).local c, (c, quietly opening w (set_slab w f (listed_word x.local.slab_word)) value x others (InMoveSet ListSlab move) Won is ac (unseen-slab w f (listed_word x.local.slab_word)) refl refl)))
    (λ word. (at_ListSlab-lost w x others move word is s, quietly opening w w value x others (InMoveSet ListSlab move) (Lost word) is ac (unseen-same w) refl refl))
