-- The step of a spot, on the table of words: exchanges on CPU words.
use Rattle.std.proofs.Common.{refl, ap, arith}
use Rattle.slub_core.specs.declared.spot.Spot.TheVariants.{InAlloc, InFree, InOffline}
use Rattle.slub_core.specs.declared.spot.AllocSpot.TheVariants.{Pop, Detach, DetachOther, Install}
use Rattle.slub_core.specs.declared.spot.FreeSpot.TheVariants.{Push}
use Rattle.slub_core.specs.declared.spot.Sweep.{Sweep}
use Rattle.slub_core.specs.declared.spot.OfflineSpot.TheVariants.{DetachCurrent}
use Rattle.slub_core.specs.declared.step.Answer.TheVariants.{Won, Lost}
use Rattle.slub_core.specs.World.{world_from, world_of, set_cpu}
use Rattle.slub_core.specs.Ops.{own_cpu}
use Rattle.slub_core.specs.Alloc.{popped_word, detached_word, installed_word}
use Rattle.slub_core.specs.Free.{pushed_word}
use Rattle.slub_core.specs.Steps.{advance_at, told}
use Rattle.slub_core.proofs.Leads.{AtSpot, at_work, cpu_below, cpu_fits}
use Rattle.slub_core.proofs.WordSteps.{cpu_exchange}
use Rattle.slub_core.proofs.Kind3.{at_Pop-won}
use Rattle.slub_core.proofs.Kind6.{at_Push-won}
use Rattle.slub_core.proofs.Kind15.{at_Detach-won, at_DetachOther-won, at_DetachCurrent-won}
use Rattle.slub_core.proofs.Kind16.{at_Install-won}
use Rattle.slub_core.proofs.Changes.{at_Pop-lost, at_Push-lost, at_Detach-lost, at_DetachOther-lost, at_DetachCurrent-lost, at_Install-lost}
use Rattle.slub_core.proofs.Accounts.{Reaches}
use Rattle.slub_core.proofs.TaleSteps.{quietly}
use Rattle.slub_core.proofs.TaleSpots.{unseen-same, unseen-cpu, told_Pop, told_Push}
use Rattle.slub_core.proofs.TaleEnds.{told_Install}
use Rattle.slub_words.specs.declared.cpu.CpuWord.{CpuWord}

pub leads_Pop : AtSpot (InAlloc Pop)
unfolding world_of world_from
leads_Pop opening m value words x others t is s ac =
    let w = world_of m value words in
    let n = own_cpu x.local in
    cpu_exchange m value words n x.local.cpu_word (popped_word m x.local) (λ v a. Reaches opening v others (advance_at m value x.local (InAlloc Pop) a)) t
    (cpu_below m value words x others t (rw is refl) s) (at_work w x others s).spot.packed.cpu_word
    (λ won. let c = at_Pop-won w x others is won s in (cpu_fits w n (popped_word m x.local) others (advance_at m value x.local (InAlloc Pop) Won).local c, (c, (record x { local = told (advance_at m value x.local (InAlloc Pop) Won) }, refl, told_Pop opening w x others is won s ac))))
    (λ word. (at_Pop-lost w x others word is s, quietly opening w w value x others (InAlloc Pop) (Lost word) is ac (unseen-same w) refl refl))

pub leads_Push : AtSpot (InFree Push)
unfolding world_of world_from
leads_Push opening m value words x others t is s ac =
    let w = world_of m value words in
    let n = own_cpu x.local in
    cpu_exchange m value words n x.local.cpu_word (pushed_word m x.local) (λ v a. Reaches opening v others (advance_at m value x.local (InFree Push) a)) t
    (cpu_below m value words x others t (rw is refl) s) (at_work w x others s).spot.packed.cpu_word
    (λ won. let c = at_Push-won w x others is won s in (cpu_fits w n (pushed_word m x.local) others (advance_at m value x.local (InFree Push) Won).local c, (c, (record x { local = told (advance_at m value x.local (InFree Push) Won) }, refl, told_Push opening w x others is won s ac))))
    (λ word. (at_Push-lost w x others word is s, quietly opening w w value x others (InFree Push) (Lost word) is ac (unseen-same w) refl refl))

pub leads_Detach : AtSpot (InAlloc Detach)
unfolding world_of world_from
leads_Detach opening m value words x others t is s ac =
    let w = world_of m value words in
    let n = own_cpu x.local in
    cpu_exchange m value words n x.local.cpu_word (detached_word m x.local) (λ v a. Reaches opening v others (advance_at m value x.local (InAlloc Detach) a)) t
    (cpu_below m value words x others t (rw is refl) s) (at_work w x others s).spot.packed.cpu_word
    (λ won. let c = at_Detach-won w x others is won s in (cpu_fits w n (detached_word m x.local) others (advance_at m value x.local (InAlloc Detach) Won).local c, (c, quietly opening w (set_cpu w n (detached_word m x.local)) value x others (InAlloc Detach) Won is ac (unseen-cpu w n (detached_word m x.local) (let more = ap (λ (c : CpuWord). c.tid) won in omega arith)) refl refl)))
    (λ word. (at_Detach-lost w x others word is s, quietly opening w w value x others (InAlloc Detach) (Lost word) is ac (unseen-same w) refl refl))

pub leads_DetachOther : AtSpot (InAlloc DetachOther)
unfolding world_of world_from
leads_DetachOther opening m value words x others t is s ac =
    let w = world_of m value words in
    let n = own_cpu x.local in
    cpu_exchange m value words n x.local.cpu_word (detached_word m x.local) (λ v a. Reaches opening v others (advance_at m value x.local (InAlloc DetachOther) a)) t
    (cpu_below m value words x others t (rw is refl) s) (at_work w x others s).spot.packed.cpu_word
    (λ won. let c = at_DetachOther-won w x others is won s in (cpu_fits w n (detached_word m x.local) others (advance_at m value x.local (InAlloc DetachOther) Won).local c, (c, quietly opening w (set_cpu w n (detached_word m x.local)) value x others (InAlloc DetachOther) Won is ac (unseen-cpu w n (detached_word m x.local) (let more = ap (λ (c : CpuWord). c.tid) won in omega arith)) refl refl)))
    (λ word. (at_DetachOther-lost w x others word is s, quietly opening w w value x others (InAlloc DetachOther) (Lost word) is ac (unseen-same w) refl refl))

pub leads_DetachCurrent : (sweep : Sweep) → AtSpot (InOffline DetachCurrent sweep)
unfolding world_of world_from
leads_DetachCurrent sweep opening m value words x others t is s ac =
    let w = world_of m value words in
    let n = own_cpu x.local in
    cpu_exchange m value words n x.local.cpu_word (detached_word m x.local) (λ v a. Reaches opening v others (advance_at m value x.local (InOffline DetachCurrent sweep) a)) t
    (cpu_below m value words x others t (rw is refl) s) (at_work w x others s).spot.packed.cpu_word
    (λ won. let c = at_DetachCurrent-won w x others sweep is won s in (cpu_fits w n (detached_word m x.local) others (advance_at m value x.local (InOffline DetachCurrent sweep) Won).local c, (c, quietly opening w (set_cpu w n (detached_word m x.local)) value x others (InOffline DetachCurrent sweep) Won is ac (unseen-cpu w n (detached_word m x.local) (let more = ap (λ (c : CpuWord). c.tid) won in omega arith)) refl refl)))
    (λ word. (at_DetachCurrent-lost w x others sweep word is s, quietly opening w w value x others (InOffline DetachCurrent sweep) (Lost word) is ac (unseen-same w) refl refl))

pub leads_Install : AtSpot (InAlloc Install)
unfolding world_of world_from
leads_Install opening m value words x others t is s ac =
    let w = world_of m value words in
    let n = own_cpu x.local in
    cpu_exchange m value words n x.local.cpu_word (installed_word m x.local) (λ v a. Reaches opening v others (advance_at m value x.local (InAlloc Install) a)) t
    (cpu_below m value words x others t (rw is refl) s) (at_work w x others s).spot.packed.cpu_word
    (λ won. let c = at_Install-won w x others is won s in (cpu_fits w n (installed_word m x.local) others (advance_at m value x.local (InAlloc Install) Won).local c, (c, (record x { local = told (advance_at m value x.local (InAlloc Install) Won) }, refl, told_Install opening w x others is won s ac))))
    (λ word. (at_Install-lost w x others word is s, quietly opening w w value x others (InAlloc Install) (Lost word) is ac (unseen-same w) refl refl))
