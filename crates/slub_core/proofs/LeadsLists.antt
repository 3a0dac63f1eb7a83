-- The step of a spot, on the table of words: partial lists taken and put before, links stored.
use Rattle.std.proofs.Common.{◌+◌, ◌≤◌, get_or, refl}
use Rattle.slub_core.specs.declared.spot.Spot.TheVariants.{InPutOnList, InAlloc, InFree, InOffline}
use Rattle.slub_core.specs.declared.spot.PutOnListSpot.TheVariants.{PushString, LinkString}
use Rattle.slub_core.specs.declared.spot.AllocSpot.TheVariants.{TakeList}
use Rattle.slub_core.specs.declared.spot.FreeSpot.TheVariants.{TakeSet}
use Rattle.slub_core.specs.declared.spot.OfflineSpot.TheVariants.{TakeCurrent}
use Rattle.slub_core.specs.declared.spot.PutOnList.{PutOnList}
use Rattle.slub_core.specs.declared.spot.Sweep.{Sweep}
use Rattle.slub_core.specs.declared.step.Answer.TheVariants.{Won, Lost, Done, Word}
use Rattle.slub_core.specs.World.{world_from, world_of, set_list, set_link}
use Rattle.slub_core.specs.Words.{list_base, no_list_word}
use Rattle.slub_core.specs.Local.{string_of}
use Rattle.slub_core.specs.Ops.{own_cpu}
use Rattle.slub_core.specs.PutOnList.{longer_list}
use Rattle.slub_core.specs.Steps.{advance_at}
use Rattle.slub_core.proofs.Leads.{AtSpot, at_work, cpu_below, list_fits}
use Rattle.slub_core.proofs.LeadsStrings.{cursor_below}
use Rattle.slub_core.proofs.StepWords.{list-read}
use Rattle.slub_core.proofs.WordSteps.{list_exchange, list_swap, link_store}
use Rattle.slub_core.proofs.Kind24.{at_PushString-won, at_LinkString}
use Rattle.slub_core.proofs.LostWords.{at_PushString-lost}
use Rattle.slub_core.proofs.Kind23.{at_TakeList, at_TakeSet, at_TakeCurrent}
use Rattle.slub_core.proofs.Accounts.{Reaches}
use Rattle.slub_core.proofs.TaleSteps.{quietly, tale_TakeCurrent}
use Rattle.slub_core.proofs.TaleSpots.{unseen-same, unseen-list, unseen-link}

pub leads_PushString : (put : PutOnList) → AtSpot (InPutOnList PushString put)
unfolding world_of world_from
leads_PushString put opening m value words x others t is s ac =
    let w = world_of m value words in
    let n = own_cpu x.local in
    list_exchange m value words n x.local.list_word (longer_list x.local) (λ v a. Reaches opening v others (advance_at m value x.local (InPutOnList PushString put) a)) t
    (cpu_below m value words x others t (rw is refl) s) (at_work w x others s).spot.packed.list_word
    (λ won. let c = at_PushString-won w x others put is won s in (list_fits w n (longer_list x.local) others (advance_at m value x.local (InPutOnList PushString put) Won).local c, (c, quietly opening w (set_list w n (longer_list x.local)) value x others (InPutOnList PushString put) Won is ac (unseen-list w n (longer_list x.local)) refl refl)))
    (λ word. (at_PushString-lost w x others put word is s, quietly opening w w value x others (InPutOnList PushString put) (Lost word) is ac (unseen-same w) refl refl))

pub leads_TakeList : AtSpot (InAlloc TakeList)
unfolding world_of world_from
leads_TakeList opening m value words x others t is s ac =
    let w = world_of m value words in
    let n = own_cpu x.local in
    let below = cpu_below m value words x others t (rw is refl) s in
    list_swap m value words n (λ v a. Reaches opening v others (advance_at m value x.local (InAlloc TakeList) a)) t below
    (at_TakeList w x others (get_or words (list_base + n) 0) is (list-read m value words n below) s, quietly opening w (set_list w n no_list_word) value x others (InAlloc TakeList) (Word (get_or words (list_base + n) 0)) is ac (unseen-list w n no_list_word) refl refl)

pub leads_TakeSet : AtSpot (InFree TakeSet)
unfolding world_of world_from
leads_TakeSet opening m value words x others t is s ac =
    let w = world_of m value words in
    let n = own_cpu x.local in
    let below = cpu_below m value words x others t (rw is refl) s in
    list_swap m value words n (λ v a. Reaches opening v others (advance_at m value x.local (InFree TakeSet) a)) t below
    (at_TakeSet w x others (get_or words (list_base + n) 0) is (list-read m value words n below) s, quietly opening w (set_list w n no_list_word) value x others (InFree TakeSet) (Word (get_or words (list_base + n) 0)) is ac (unseen-list w n no_list_word) refl refl)

pub leads_TakeCurrent : (sweep : Sweep) → AtSpot (InOffline TakeCurrent sweep)
unfolding world_of world_from
leads_TakeCurrent sweep opening m value words x others t is s ac =
    let w = world_of m value words in
    let n = own_cpu x.local in
    let below = cpu_below m value words x others t (rw is refl) s in
    list_swap m value words n (λ v a. Reaches opening v others (advance_at m value x.local (InOffline TakeCurrent sweep) a)) t below
    (at_TakeCurrent w x others sweep (get_or words (list_base + n) 0) is (list-read m value words n below) s, tale_TakeCurrent opening w (set_list w n no_list_word) value x others sweep (get_or words (list_base + n) 0) is (unseen-list w n no_list_word) ac)

pub leads_LinkString : (put : PutOnList) → AtSpot (InPutOnList LinkString put)
unfolding world_of world_from
leads_LinkString put opening m value words x others t is s ac =
    let w = world_of m value words in
    let f = (string_of x.local).cursor in
    let least : 1 ≤ (string_of x.local).count = rw is at (at_work w x others s).spot.least in
    link_store m value words f x.local.list_word.front (λ v a. Reaches opening v others (advance_at m value x.local (InPutOnList LinkString put) a)) t (cursor_below w x others s least)
    (at_LinkString w x others put is s, quietly opening w (set_link w f x.local.list_word.front) value x others (InPutOnList LinkString put) Done is ac (unseen-link w f x.local.list_word.front) refl refl)
