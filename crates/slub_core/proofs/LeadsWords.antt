-- The step of a spot, on the table of words: words that are loaded, the board, and slabs made and unmade.
use Rattle.std.proofs.Common.{◌+◌, ◌-◌, ◌*◌, ◌<◌, ◌≤◌, ◌∷◌, get_or, None, refl, subst, arith}
use Rattle.slub_core.specs.declared.spot.Spot.TheVariants.{InAlloc, InDiscard, InFree, InOffline, ReadWord}
use Rattle.slub_core.specs.declared.spot.AllocSpot.TheVariants.{LoadCpu, LoadNext, LoadAgain}
use Rattle.slub_core.specs.declared.spot.Discard.{Discard}
use Rattle.slub_core.specs.declared.spot.DiscardSpot.TheVariants.{Unmake}
use Rattle.slub_core.specs.declared.spot.FreeSpot.TheVariants.{TakeBoard, LoadOwn, LoadSlab, LoadLocked}
use Rattle.slub_core.specs.declared.spot.Sweep.{Sweep}
use Rattle.slub_core.specs.declared.spot.OfflineSpot.TheVariants.{LoadCurrent}
use Rattle.slub_core.specs.declared.step.Answer.TheVariants.{Word, Done}
use Rattle.slub_core.specs.declared.step.Place.TheVariants.{CpuOf, SlabOf, MemoryOf}
use Rattle.slub_core.specs.Calls.{call_word}
use Rattle.slub_core.specs.Setup.{pointer_at, word_at}
use Rattle.slub_core.specs.Words.{no_slab_word, cpu_base, slab_base, number_of, board_base}
use Rattle.slub_core.specs.World.{set_board, world_from, world_of, set_slab}
use Rattle.slub_core.specs.Local.{here, hand_of, call_of}
use Rattle.slub_core.specs.Ops.{own_cpu}
use Rattle.slub_core.specs.Alloc.{alloc_advance}
use Rattle.slub_core.specs.Free.{board_taken}
use Rattle.slub_core.specs.Steps.{step_at, advance_at, told}
use Rattle.slub_core.proofs.Locks.{ComesTo}
use Rattle.slub_core.proofs.Leads.{AtSpot, at_work, cpu_below, slab_below, held_below}
use Rattle.slub_core.proofs.StepWords.{cpu-read, slab-read, board-read, memory-read}
use Rattle.slub_core.proofs.WordSteps.{load, board_swap, slab_store}
use Rattle.slub_core.proofs.Kind1.{at_LoadCpu, at_LoadAgain, at_LoadOwn, at_LoadCurrent}
use Rattle.slub_core.proofs.Kind7.{at_TakeBoard}
use Rattle.slub_core.proofs.Kind22.{at_Unmake}
use Rattle.slub_core.proofs.Loads.{at_LoadNext, at_ReadWord, at_LoadSlab, at_LoadLocked}
use Rattle.slub_core.proofs.Accounts.{Reaches}
use Rattle.slub_core.proofs.TaleSteps.{quietly, tale_LoadCpu, tale_LoadAgain}
use Rattle.slub_core.proofs.TaleSpots.{unseen-same, unseen-slab, told_TakeBoard}
use Rattle.slub_core.specs.Accounted.{IsAccounted}
use Rattle.slub_core.proofs.LeadsMemory.{used-inside}
use Rattle.slub_core.proofs.TaleUses.{told_ReadWord}

-- ---- CPU words

pub leads_LoadCpu : AtSpot (InAlloc LoadCpu)
unfolding world_of world_from
leads_LoadCpu opening m value words x others t is s ac =
    let w = world_of m value words in
    let n = own_cpu x.local in
    load m value words (CpuOf n) (λ v a. Reaches opening v others (advance_at m value x.local (InAlloc LoadCpu) a))
    (at_LoadCpu w x others (get_or words (cpu_base + n) 0) is (cpu-read m value words n (cpu_below m value words x others t (rw is refl) s)) s, tale_LoadCpu opening w value x others (get_or words (cpu_base + n) 0) is ((at_work w x others s).spot.plain (rw is refl)).2 (cpu-read m value words n (cpu_below m value words x others t (rw is refl) s)) ac)

pub leads_LoadAgain : AtSpot (InAlloc LoadAgain)
unfolding world_of world_from
leads_LoadAgain opening m value words x others t is s ac =
    let w = world_of m value words in
    let n = own_cpu x.local in
    load m value words (CpuOf n) (λ v a. Reaches opening v others (advance_at m value x.local (InAlloc LoadAgain) a))
    (at_LoadAgain w x others (get_or words (cpu_base + n) 0) is (cpu-read m value words n (cpu_below m value words x others t (rw is refl) s)) s, tale_LoadAgain opening w value x others (get_or words (cpu_base + n) 0) is ((at_work w x others s).spot.plain (rw is refl)).2 (cpu-read m value words n (cpu_below m value words x others t (rw is refl) s)) ac)

pub leads_LoadOwn : AtSpot (InFree LoadOwn)
unfolding world_of world_from
leads_LoadOwn opening m value words x others t is s ac =
    let w = world_of m value words in
    let n = own_cpu x.local in
    load m value words (CpuOf n) (λ v a. Reaches opening v others (advance_at m value x.local (InFree LoadOwn) a))
    (at_LoadOwn w x others (get_or words (cpu_base + n) 0) is (cpu-read m value words n (cpu_below m value words x others t (rw is refl) s)) s, quietly opening w w value x others (InFree LoadOwn) (Word (get_or words (cpu_base + n) 0)) is ac (unseen-same w) refl refl)

pub leads_LoadCurrent : (sweep : Sweep) → AtSpot (InOffline LoadCurrent sweep)
unfolding world_of world_from
leads_LoadCurrent sweep opening m value words x others t is s ac =
    let w = world_of m value words in
    let n = own_cpu x.local in
    load m value words (CpuOf n) (λ v a. Reaches opening v others (advance_at m value x.local (InOffline LoadCurrent sweep) a))
    (at_LoadCurrent w x others sweep (get_or words (cpu_base + n) 0) is (cpu-read m value words n (cpu_below m value words x others t (rw is refl) s)) s, quietly opening w w value x others (InOffline LoadCurrent sweep) (Word (get_or words (cpu_base + n) 0)) is ac (unseen-same w) refl refl)

-- ---- memory

pub leads_LoadNext : AtSpot (InAlloc LoadNext)
unfolding world_of world_from
leads_LoadNext opening m value words x others t is s ac =
    let w = world_of m value words in
    let p = pointer_at m x.local.cache x.local.cpu_word.frame (x.local.cpu_word.head - 1) in
    let below : p < 512 * m.frames = ((at_work w x others s).spot.noted.head (rw is refl)).1 in
    load m value words (MemoryOf p) (λ v a. Reaches opening v others (advance_at m value x.local (InAlloc LoadNext) a))
    (subst (λ q. ComesTo w others (alloc_advance m x.local LoadNext (Word q)).local) (memory-read m value words p below) (at_LoadNext w x others is s), quietly opening w w value x others (InAlloc LoadNext) (Word (get_or words (number_of m (MemoryOf p)) 0)) is ac (unseen-same w) refl refl)

pub leads_ReadWord : AtSpot ReadWord
unfolding world_of world_from
leads_ReadWord opening m value words x others t is s ac =
    let w = world_of m value words in
    let place = (step_at m value x.local ReadWord).place in
    load m value words place (λ v a. Reaches opening v others (advance_at m value x.local ReadWord a)) (
      at_ReadWord w x others (get_or words (number_of m place) 0) is s,
      (
        record x { local = told (advance_at m value x.local ReadWord (Word (get_or words (number_of m place) 0))) },
        refl,
        told_ReadWord opening w value x others (get_or words (number_of m place) 0) is (memory-read m value words (word_at m (here x.local).cache (here x.local).frame (here x.local).index (call_word (call_of x.local))) (used-inside w x others s (rw is refl) (rw is refl) (rw is refl))) s ac,
      ),
    )

-- ---- slab words

pub leads_LoadSlab : AtSpot (InFree LoadSlab)
unfolding world_of world_from
leads_LoadSlab opening m value words x others t is s ac =
    let w = world_of m value words in
    let f = (here x.local).frame in
    let held = (at_work w x others s).spot.frees (rw is refl) in
    load m value words (SlabOf f) (λ v a. Reaches opening v others (advance_at m value x.local (InFree LoadSlab) a))
    (at_LoadSlab w x others (get_or words (slab_base + f) 0) is (slab-read m value words f (held_below w x others s held.0 held.1)) s, quietly opening w w value x others (InFree LoadSlab) (Word (get_or words (slab_base + f) 0)) is ac (unseen-same w) refl refl)

pub leads_LoadLocked : AtSpot (InFree LoadLocked)
unfolding world_of world_from
leads_LoadLocked opening m value words x others t is s ac =
    let w = world_of m value words in
    let f = (here x.local).frame in
    let held = (at_work w x others s).spot.frees (rw is refl) in
    load m value words (SlabOf f) (λ v a. Reaches opening v others (advance_at m value x.local (InFree LoadLocked) a))
    (at_LoadLocked w x others (get_or words (slab_base + f) 0) is (slab-read m value words f (held_below w x others s held.0 held.1)) s, quietly opening w w value x others (InFree LoadLocked) (Word (get_or words (slab_base + f) 0)) is ac (unseen-same w) refl refl)

pub leads_Unmake : (discard : Discard) → AtSpot (InDiscard Unmake discard)
unfolding world_of world_from
leads_Unmake discard opening m value words x others t is s ac =
    let w = world_of m value words in
    let f = (hand_of x.local).frame in
    let empty = (at_work w x others s).seen.emptied (rw is refl) in
    slab_store m value words f no_slab_word (λ v a. Reaches opening v others (advance_at m value x.local (InDiscard Unmake discard) a)) t
    (slab_below w (x ∷ others) f s empty.some) (omega arith, omega arith, omega arith, omega arith)
    (at_Unmake w x others discard is s, quietly opening w (set_slab w f no_slab_word) value x others (InDiscard Unmake discard) Done is ac (unseen-slab w f no_slab_word) refl refl)

-- ---- the board

pub leads_TakeBoard : AtSpot (InFree TakeBoard)
unfolding world_of world_from
leads_TakeBoard opening m value words x others t is s ac =
    let w = world_of m value words in
    let o = (here x.local).object in
    let ok = (at_work w x others s).spot in
    let some : 1 ≤ o = ok.board (rw is refl) in
    let below : o < m.objects = ok.number in
    board_swap m value words o (λ v a. Reaches opening v others (advance_at m value x.local (InFree TakeBoard) a)) t some below (
      subst (λ b. ComesTo (set_board w o None) others (board_taken m x.local b).local) (board-read m value words o some below) (at_TakeBoard w x others is s),
      (
        record x { local = told (advance_at m value x.local (InFree TakeBoard) (Word (get_or words (board_base m + o) 0))) },
        refl,
        subst (λ b. IsAccounted opening (set_board w o None) (record x { local = told (board_taken m x.local b) } ∷ others)) (board-read m value words o some below) (told_TakeBoard opening w x others is s ac),
      ),
    )
