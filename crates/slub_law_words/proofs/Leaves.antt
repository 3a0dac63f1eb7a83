-- The step of each spot leaves words that have no bit beyond their fields, spot by spot.
use Rattle.std.proofs.Common.{◌≡◌, ℕ, ◌-◌, ◌<◌, ◌≤◌, Option, Some, None, List, [], ◌∷◌, get_or, set, refl, arith}
use Rattle.std.specs.Prelude.{IsSome}
use Rattle.std.proofs.lemmas.Bool.{false≢true}
use Rattle.slub_core.specs.declared.call.CallKind.{CallKind}
use Rattle.slub_core.specs.declared.local.FrameRun.{FrameRun}
use Rattle.slub_core.specs.declared.spot.Spot.{Spot}
use Rattle.slub_core.specs.declared.spot.Spot.TheVariants.{Between, InAlloc, InPutAway, InDiscard, InPutOnList, InFree, InMoveSet, InOffline, InTrim, WriteWord, ReadWord, InChecked}
use Rattle.slub_core.specs.declared.spot.AllocSpot.{AllocSpot}
use Rattle.slub_core.specs.declared.spot.AllocSpot.TheVariants.{Pop, Detach, TakeAll, MarkFull, TakeList, FreezeKept, LockNode, FreezePopped, Unlist, GiveNode, LockPool, GivePool, GiveDry, LinkNew, Make, DetachOther, Install}
use Rattle.slub_core.specs.declared.spot.Away.{Away}
use Rattle.slub_core.specs.declared.spot.PutAwaySpot.{PutAwaySpot}
use Rattle.slub_core.specs.declared.spot.PutAwaySpot.TheVariants.{LockAway, LinkLast, Unfreeze, GiveAway}
use Rattle.slub_core.specs.declared.spot.Discard.{Discard}
use Rattle.slub_core.specs.declared.spot.DiscardSpot.{DiscardSpot}
use Rattle.slub_core.specs.declared.spot.DiscardSpot.TheVariants.{Unmake, LockDiscard, GiveDiscard}
use Rattle.slub_core.specs.declared.spot.PutOnList.{PutOnList}
use Rattle.slub_core.specs.declared.spot.PutOnListSpot.{PutOnListSpot}
use Rattle.slub_core.specs.declared.spot.PutOnListSpot.TheVariants.{LinkString, PushString}
use Rattle.slub_core.specs.declared.spot.FreeSpot.{FreeSpot}
use Rattle.slub_core.specs.declared.spot.FreeSpot.TheVariants.{TakeBoard, LinkOwn, Push, LinkSlab, FreeSlab, LockFree, GoBack, LinkLocked, FreeLocked, GiveFree, TakeSet}
use Rattle.slub_core.specs.declared.spot.MoveSet.{MoveSet}
use Rattle.slub_core.specs.declared.spot.MoveSetSpot.{MoveSetSpot}
use Rattle.slub_core.specs.declared.spot.MoveSetSpot.TheVariants.{LockMove, ListSlab, GiveMove}
use Rattle.slub_core.specs.declared.spot.Sweep.{Sweep}
use Rattle.slub_core.specs.declared.spot.OfflineSpot.{OfflineSpot}
use Rattle.slub_core.specs.declared.spot.OfflineSpot.TheVariants.{DetachCurrent, TakeCurrent}
use Rattle.slub_core.specs.declared.spot.TrimSpot.{TrimSpot}
use Rattle.slub_core.specs.declared.spot.TrimSpot.TheVariants.{LockTrim, GiveTrim}
use Rattle.slub_core.specs.declared.spot.CheckedSpot.{CheckedSpot}
use Rattle.slub_core.specs.declared.spot.CheckedSpot.TheVariants.{LockChecked, LockRun, GiveRun, GiveChecked}
use Rattle.slub_core.specs.declared.step.Answer.TheVariants.{Won, Done}
use Rattle.slub_core.specs.declared.step.Place.TheVariants.{LockOf}
use Rattle.slub_core.specs.Calls.{call_word}
use Rattle.slub_core.specs.Setup.{Setup, node_lock, pool_lock, pointer_at, word_at}
use Rattle.slub_core.specs.Words.{number_of, after_op, no_slab_word}
use Rattle.slub_core.specs.World.{World, LockValue, world_from, world_of}
use Rattle.slub_core.specs.Local.{Local, Worker, here, hand_of, string_of, run_of, run_in, call_of}
use Rattle.slub_core.specs.Ops.{own_cpu}
use Rattle.slub_core.specs.Alloc.{alloc_step, emptied_word, thawed_word, frozen_word, unlisted_word, made_word}
use Rattle.slub_core.specs.PutAway.{put_away_step, unfrozen_word}
use Rattle.slub_core.specs.Discard.{discard_step}
use Rattle.slub_core.specs.PutOnList.{put_on_list_step, longer_list}
use Rattle.slub_core.specs.Free.{free_step, freed_word}
use Rattle.slub_core.specs.MoveSet.{move_set_step, listed_word}
use Rattle.slub_core.specs.Offline.{offline_step, trim_step}
use Rattle.slub_core.specs.Checked.{checked_step}
use Rattle.slub_core.specs.Steps.{step_at, advance_at}
use Rattle.slub_core.specs.Spots.{Taken, Kept, Popped, Ready, Leaving, beside_away, beside_move}
use Rattle.slub_core.specs.Fresh.{IsHeldRun}
use Rattle.slub_core.specs.Coherent.{Stands}
use Rattle.slub_core.proofs.Packed.{IsSlabFit}
use Rattle.slub_core.proofs.StepWords.{IsTable}
use Rattle.slub_core.proofs.Leads.{at_work, plain_here, checked_here, node_below, pool_below, cpu_below, slab_below, held_below, slab_fits, list_fits}
use Rattle.slub_core.proofs.LeadsHands.{hand_below}
use Rattle.slub_core.proofs.LeadsStrings.{cursor_below}
use Rattle.slub_core.proofs.LeadsMemory.{freed-inside, used-inside, last-inside, run-inside}
use Rattle.slub_core.proofs.RemakeStep.{pow-some}
use Rattle.slub_core.proofs.Kind9.{at_FreeSlab-won, at_FreeLocked-won}
use Rattle.slub_core.proofs.Kind19.{at_Unfreeze-won}
use Rattle.slub_core.proofs.Kind21.{at_Make}
use Rattle.slub_core.proofs.Kind24.{at_PushString-won}
use Rattle.slub_law_words.proofs.Classes.{AreTight, set-lock, set-cpu, set-memory, set-link, set-board, loaded, list_taken, list_exchanged, slab_exchanged, slab_stored}

-- after the step of a spot
abbrev pub Leaves : Setup → (ℕ → LockValue) → List ℕ → Local → Spot → Type 0
Leaves m value words l spot = let step = step_at m value l spot in let n = number_of m step.place in AreTight m (set words n (after_op step.op (get_or words n 0)))

abbrev pub AtSpot : Spot → Type 0
AtSpot spot = (m : Setup) (value : ℕ → LockValue) (words : List ℕ) (x : Worker) (others : List Worker) → IsTable m words → x.local.spot ≡ spot → Stands (world_of m value words) (x ∷ others) → AreTight m words → Leaves m value words x.local spot

-- ---- slab words

-- a word that keeps the objects and the cache of a noted one, with no freelist
emptied-fits : (l : Local) → IsSlabFit l.slab_word → IsSlabFit (emptied_word l.slab_word)
emptied-fits l fits = (omega arith, fits.2, fits.2, fits.3)

frozen-fits : (l : Local) → IsSlabFit l.slab_word → IsSlabFit (frozen_word l.slab_word)
frozen-fits l fits = (omega arith, fits.2, fits.2, fits.3)

leaves_TakeAll : AtSpot (InAlloc TakeAll)
unfolding world_of world_from
leaves_TakeAll m value words x others t is s tight =
    let w = world_of m value words in
    let ok = (at_work w x others s).spot in
    slab_exchanged m value words (hand_of x.local).frame x.local.slab_word (emptied_word x.local.slab_word) t (hand_below w x others Taken [] s (rw is at ok.hands)) ok.packed.slab_word (λ won. emptied-fits x.local ok.packed.slab_word) tight

leaves_MarkFull : AtSpot (InAlloc MarkFull)
unfolding world_of world_from
leaves_MarkFull m value words x others t is s tight =
    let w = world_of m value words in
    let ok = (at_work w x others s).spot in
    slab_exchanged m value words (hand_of x.local).frame x.local.slab_word (thawed_word x.local.slab_word) t (hand_below w x others Taken [] s (rw is at ok.hands)) ok.packed.slab_word (λ won. ok.packed.slab_word) tight

leaves_FreezeKept : AtSpot (InAlloc FreezeKept)
unfolding world_of world_from
leaves_FreezeKept m value words x others t is s tight =
    let w = world_of m value words in
    let ok = (at_work w x others s).spot in
    slab_exchanged m value words (hand_of x.local).frame x.local.slab_word (frozen_word x.local.slab_word) t (hand_below w x others Kept [] s (rw is at ok.hands)) ok.packed.slab_word (λ won. frozen-fits x.local ok.packed.slab_word) tight

leaves_FreezePopped : AtSpot (InAlloc FreezePopped)
unfolding world_of world_from
leaves_FreezePopped m value words x others t is s tight =
    let w = world_of m value words in
    let ok = (at_work w x others s).spot in
    slab_exchanged m value words (hand_of x.local).frame x.local.slab_word (frozen_word x.local.slab_word) t (hand_below w x others Popped [] s (rw is at ok.hands)) ok.packed.slab_word (λ won. frozen-fits x.local ok.packed.slab_word) tight

leaves_Unlist : AtSpot (InAlloc Unlist)
unfolding world_of world_from
leaves_Unlist m value words x others t is s tight =
    let w = world_of m value words in
    let ok = (at_work w x others s).spot in
    slab_exchanged m value words (hand_of x.local).frame x.local.slab_word (unlisted_word x.local.slab_word) t (hand_below w x others Popped (Ready ∷ []) s (rw is at ok.hands)) ok.packed.slab_word (λ won. ok.packed.slab_word) tight

leaves_FreeSlab : AtSpot (InFree FreeSlab)
unfolding world_of world_from
leaves_FreeSlab m value words x others t is s tight =
    let w = world_of m value words in
    let ok = (at_work w x others s).spot in
    let held = ok.frees (rw is refl) in
    let f = (here x.local).frame in
    slab_exchanged m value words f x.local.slab_word (freed_word x.local) t (held_below w x others s held.0 held.1) ok.packed.slab_word
    (λ won. slab_fits w f (freed_word x.local) others (advance_at m value x.local (InFree FreeSlab) Won).local (at_FreeSlab-won w x others is won s)) tight

leaves_FreeLocked : AtSpot (InFree FreeLocked)
unfolding world_of world_from
leaves_FreeLocked m value words x others t is s tight =
    let w = world_of m value words in
    let ok = (at_work w x others s).spot in
    let held = ok.frees (rw is refl) in
    let f = (here x.local).frame in
    slab_exchanged m value words f x.local.slab_word (freed_word x.local) t (held_below w x others s held.0 held.1) ok.packed.slab_word
    (λ won. slab_fits w f (freed_word x.local) others (advance_at m value x.local (InFree FreeLocked) Won).local (at_FreeLocked-won w x others is won s)) tight

leaves_Unfreeze : (away : Away) → AtSpot (InPutAway Unfreeze away)
unfolding world_of world_from
leaves_Unfreeze away m value words x others t is s tight =
    let w = world_of m value words in
    let ok = (at_work w x others s).spot in
    let f = (hand_of x.local).frame in
    slab_exchanged m value words f x.local.slab_word (unfrozen_word m value x.local) t (hand_below w x others Leaving (beside_away away) s (rw is at ok.hands)) ok.packed.slab_word
    (λ won. slab_fits w f (unfrozen_word m value x.local) others (advance_at m value x.local (InPutAway Unfreeze away) Won).local (at_Unfreeze-won w x others away is won s)) tight

leaves_ListSlab : (move : MoveSet) → AtSpot (InMoveSet ListSlab move)
unfolding world_of world_from
leaves_ListSlab move m value words x others t is s tight =
    let w = world_of m value words in
    let ok = (at_work w x others s).spot in
    slab_exchanged m value words (hand_of x.local).frame x.local.slab_word (listed_word x.local.slab_word) t (hand_below w x others Kept (beside_move move) s (rw is at ok.hands)) ok.packed.slab_word (λ won. ok.packed.slab_word) tight

-- a run in hand begins among the frames
run_below : (w : World) (cache : ℕ) (run : Option FrameRun) (n : ℕ) → IsSome run → IsHeldRun w cache run n → (run_in run).frame < w.setup.frames
run_below w cache None n some held = absurd (false≢true some)
run_below w cache (Some run) n some held = let p = pow-some run.order in let i = held.0.inside in omega arith

leaves_Make : AtSpot (InAlloc Make)
unfolding world_of world_from
leaves_Make m value words x others t is s tight =
    let w = world_of m value words in
    let ok = at_work w x others s in
    let f = (run_of x.local).frame in
    slab_stored m words f (made_word x.local) t (run_below w x.local.cache x.local.run _ (ok.spot.run (rw is refl)) ok.seen.run)
    (slab_fits w f (made_word x.local) others (advance_at m value x.local (InAlloc Make) Done).local (at_Make w x others is s)) tight

leaves_Unmake : (discard : Discard) → AtSpot (InDiscard Unmake discard)
unfolding world_of world_from
leaves_Unmake discard m value words x others t is s tight =
    let w = world_of m value words in
    let empty = (at_work w x others s).seen.emptied (rw is refl) in
    slab_stored m words (hand_of x.local).frame no_slab_word t (slab_below w (x ∷ others) (hand_of x.local).frame s empty.some) (omega arith, omega arith, omega arith, omega arith) tight

-- ---- list words, links and the board

leaves_PushString : (put : PutOnList) → AtSpot (InPutOnList PushString put)
unfolding world_of world_from
leaves_PushString put m value words x others t is s tight =
    let w = world_of m value words in
    let n = own_cpu x.local in
    list_exchanged m value words n x.local.list_word (longer_list x.local) t (cpu_below m value words x others t (rw is refl) s) (at_work w x others s).spot.packed.list_word
    (λ won. list_fits w n (longer_list x.local) others (advance_at m value x.local (InPutOnList PushString put) Won).local (at_PushString-won w x others put is won s)) tight

leaves_LinkString : (put : PutOnList) → AtSpot (InPutOnList LinkString put)
unfolding world_of world_from
leaves_LinkString put m value words x others t is s tight =
    let w = world_of m value words in
    let least : 1 ≤ (string_of x.local).count = rw is at (at_work w x others s).spot.least in
    set-link m words (string_of x.local).cursor x.local.list_word.front t (cursor_below w x others s least) tight

leaves_TakeBoard : AtSpot (InFree TakeBoard)
unfolding world_of world_from
leaves_TakeBoard m value words x others t is s tight =
    let ok = (at_work (world_of m value words) x others s).spot in
    set-board m words (here x.local).object t (ok.board (rw is refl)) ok.number tight

-- ---- memory

leaves_LinkOwn : AtSpot (InFree LinkOwn)
unfolding world_of world_from
leaves_LinkOwn m value words x others t is s tight = set-memory m words (pointer_at m (here x.local).cache (here x.local).frame (here x.local).index) _ t (freed-inside (world_of m value words) x others s (rw is refl)) tight

leaves_LinkSlab : AtSpot (InFree LinkSlab)
unfolding world_of world_from
leaves_LinkSlab m value words x others t is s tight = set-memory m words (pointer_at m (here x.local).cache (here x.local).frame (here x.local).index) _ t (freed-inside (world_of m value words) x others s (rw is refl)) tight

leaves_LinkLocked : AtSpot (InFree LinkLocked)
unfolding world_of world_from
leaves_LinkLocked m value words x others t is s tight = set-memory m words (pointer_at m (here x.local).cache (here x.local).frame (here x.local).index) _ t (freed-inside (world_of m value words) x others s (rw is refl)) tight

leaves_WriteWord : AtSpot WriteWord
unfolding world_of world_from
leaves_WriteWord m value words x others t is s tight = set-memory m words (word_at m (here x.local).cache (here x.local).frame (here x.local).index (call_word (call_of x.local))) _ t (used-inside (world_of m value words) x others s (rw is refl) (rw is refl) (rw is refl)) tight

leaves_LinkNew : (i : ℕ) → AtSpot (InAlloc (LinkNew i))
unfolding world_of world_from
leaves_LinkNew i m value words x others t is s tight = set-memory m words (pointer_at m x.local.cache (run_of x.local).frame i) _ t (run-inside (world_of m value words) x others i is s) tight

leaves_LinkLast : (away : Away) → AtSpot (InPutAway LinkLast away)
unfolding world_of world_from
leaves_LinkLast away m value words x others t is s tight = set-memory m words (pointer_at m x.local.cache (hand_of x.local).frame ((hand_of x.local).last - 1)) _ t (last-inside (world_of m value words) x others away is s) tight

-- ---- by path; a spot that isn't named loads a word

leaves_alloc : (s : AllocSpot) → AtSpot (InAlloc s)
leaves_alloc Pop m value words x others t is s tight = set-cpu m words (own_cpu x.local) _ t (cpu_below m value words x others t (rw is refl) s) tight
leaves_alloc Detach m value words x others t is s tight = set-cpu m words (own_cpu x.local) _ t (cpu_below m value words x others t (rw is refl) s) tight
leaves_alloc DetachOther m value words x others t is s tight = set-cpu m words (own_cpu x.local) _ t (cpu_below m value words x others t (rw is refl) s) tight
leaves_alloc Install m value words x others t is s tight = set-cpu m words (own_cpu x.local) _ t (cpu_below m value words x others t (rw is refl) s) tight
leaves_alloc TakeAll m value words x others t is s tight = leaves_TakeAll m value words x others t is s tight
leaves_alloc MarkFull m value words x others t is s tight = leaves_MarkFull m value words x others t is s tight
leaves_alloc FreezeKept m value words x others t is s tight = leaves_FreezeKept m value words x others t is s tight
leaves_alloc FreezePopped m value words x others t is s tight = leaves_FreezePopped m value words x others t is s tight
leaves_alloc Unlist m value words x others t is s tight = leaves_Unlist m value words x others t is s tight
leaves_alloc Make m value words x others t is s tight = leaves_Make m value words x others t is s tight
leaves_alloc TakeList m value words x others t is s tight = list_taken m words (own_cpu x.local) t (cpu_below m value words x others t (rw is refl) s) tight
leaves_alloc LockNode m value words x others t is s tight = set-lock m words (node_lock x.local.cache) _ t (node_below m x.local.cache t (plain_here m value words x others (rw is refl) s).0) tight
leaves_alloc GiveNode m value words x others t is s tight = set-lock m words (node_lock x.local.cache) _ t (node_below m x.local.cache t (plain_here m value words x others (rw is refl) s).0) tight
leaves_alloc LockPool m value words x others t is s tight = set-lock m words pool_lock _ t (pool_below m t) tight
leaves_alloc GivePool m value words x others t is s tight = set-lock m words pool_lock _ t (pool_below m t) tight
leaves_alloc GiveDry m value words x others t is s tight = set-lock m words pool_lock _ t (pool_below m t) tight
leaves_alloc (LinkNew i) m value words x others t is s tight = leaves_LinkNew i m value words x others t is s tight
leaves_alloc spot m value words x others t is s tight = loaded m words (alloc_step m x.local spot).place tight

leaves_put_away : (s : PutAwaySpot) (away : Away) → AtSpot (InPutAway s away)
leaves_put_away LockAway away m value words x others t is s tight = set-lock m words (node_lock x.local.cache) _ t (node_below m x.local.cache t (plain_here m value words x others (rw is refl) s).0) tight
leaves_put_away LinkLast away m value words x others t is s tight = leaves_LinkLast away m value words x others t is s tight
leaves_put_away Unfreeze away m value words x others t is s tight = leaves_Unfreeze away m value words x others t is s tight
leaves_put_away GiveAway away m value words x others t is s tight = set-lock m words (node_lock x.local.cache) _ t (node_below m x.local.cache t (plain_here m value words x others (rw is refl) s).0) tight
leaves_put_away spot away m value words x others t is s tight = loaded m words (put_away_step m value x.local spot).place tight

leaves_discard : (s : DiscardSpot) (discard : Discard) → AtSpot (InDiscard s discard)
leaves_discard Unmake discard m value words x others t is s tight = leaves_Unmake discard m value words x others t is s tight
leaves_discard LockDiscard discard m value words x others t is s tight = set-lock m words pool_lock _ t (pool_below m t) tight
leaves_discard GiveDiscard discard m value words x others t is s tight = set-lock m words pool_lock _ t (pool_below m t) tight
leaves_discard spot discard m value words x others t is s tight = loaded m words (discard_step x.local spot).place tight

leaves_put_on_list : (s : PutOnListSpot) (put : PutOnList) → AtSpot (InPutOnList s put)
leaves_put_on_list LinkString put m value words x others t is s tight = leaves_LinkString put m value words x others t is s tight
leaves_put_on_list PushString put m value words x others t is s tight = leaves_PushString put m value words x others t is s tight
leaves_put_on_list spot put m value words x others t is s tight = loaded m words (put_on_list_step x.local spot).place tight

leaves_free : (s : FreeSpot) → AtSpot (InFree s)
leaves_free TakeBoard m value words x others t is s tight = leaves_TakeBoard m value words x others t is s tight
leaves_free LinkOwn m value words x others t is s tight = leaves_LinkOwn m value words x others t is s tight
leaves_free Push m value words x others t is s tight = set-cpu m words (own_cpu x.local) _ t (cpu_below m value words x others t (rw is refl) s) tight
leaves_free LinkSlab m value words x others t is s tight = leaves_LinkSlab m value words x others t is s tight
leaves_free FreeSlab m value words x others t is s tight = leaves_FreeSlab m value words x others t is s tight
leaves_free LockFree m value words x others t is s tight = set-lock m words (node_lock x.local.cache) _ t (node_below m x.local.cache t (plain_here m value words x others (rw is refl) s).0) tight
leaves_free GoBack m value words x others t is s tight = set-lock m words (node_lock x.local.cache) _ t (node_below m x.local.cache t (plain_here m value words x others (rw is refl) s).0) tight
leaves_free LinkLocked m value words x others t is s tight = leaves_LinkLocked m value words x others t is s tight
leaves_free FreeLocked m value words x others t is s tight = leaves_FreeLocked m value words x others t is s tight
leaves_free GiveFree m value words x others t is s tight = set-lock m words (node_lock x.local.cache) _ t (node_below m x.local.cache t (plain_here m value words x others (rw is refl) s).0) tight
leaves_free TakeSet m value words x others t is s tight = list_taken m words (own_cpu x.local) t (cpu_below m value words x others t (rw is refl) s) tight
leaves_free spot m value words x others t is s tight = loaded m words (free_step m x.local spot).place tight

leaves_move_set : (s : MoveSetSpot) (move : MoveSet) → AtSpot (InMoveSet s move)
leaves_move_set LockMove move m value words x others t is s tight = set-lock m words (node_lock x.local.cache) _ t (node_below m x.local.cache t (plain_here m value words x others (rw is refl) s).0) tight
leaves_move_set ListSlab move m value words x others t is s tight = leaves_ListSlab move m value words x others t is s tight
leaves_move_set GiveMove move m value words x others t is s tight = set-lock m words (node_lock x.local.cache) _ t (node_below m x.local.cache t (plain_here m value words x others (rw is refl) s).0) tight
leaves_move_set spot move m value words x others t is s tight = loaded m words (move_set_step x.local spot).place tight

leaves_offline : (s : OfflineSpot) (sweep : Sweep) → AtSpot (InOffline s sweep)
leaves_offline DetachCurrent sweep m value words x others t is s tight = set-cpu m words (own_cpu x.local) _ t (cpu_below m value words x others t (rw is refl) s) tight
leaves_offline TakeCurrent sweep m value words x others t is s tight = list_taken m words (own_cpu x.local) t (cpu_below m value words x others t (rw is refl) s) tight
leaves_offline spot sweep m value words x others t is s tight = loaded m words (offline_step m x.local spot).place tight

leaves_trim : (s : TrimSpot) → AtSpot (InTrim s)
leaves_trim LockTrim m value words x others t is s tight = set-lock m words (node_lock x.local.cache) _ t (node_below m x.local.cache t (plain_here m value words x others (rw is refl) s).0) tight
leaves_trim GiveTrim m value words x others t is s tight = set-lock m words (node_lock x.local.cache) _ t (node_below m x.local.cache t (plain_here m value words x others (rw is refl) s).0) tight
leaves_trim spot m value words x others t is s tight = loaded m words (trim_step value x.local spot).place tight

leaves_checked : (s : CheckedSpot) (kind : CallKind) → AtSpot (InChecked s kind)
leaves_checked LockChecked kind m value words x others t is s tight = set-lock m words (node_lock x.local.cache) _ t (node_below m x.local.cache t (checked_here m value words x others (rw is refl) s).0) tight
leaves_checked LockRun kind m value words x others t is s tight = set-lock m words pool_lock _ t (pool_below m t) tight
leaves_checked GiveRun kind m value words x others t is s tight = set-lock m words pool_lock _ t (pool_below m t) tight
leaves_checked GiveChecked kind m value words x others t is s tight = set-lock m words (node_lock x.local.cache) _ t (node_below m x.local.cache t (checked_here m value words x others (rw is refl) s).0) tight
leaves_checked spot kind m value words x others t is s tight = loaded m words (checked_step x.local spot).place tight

pub leaves : (spot : Spot) → AtSpot spot
leaves Between m value words x others t is s tight = loaded m words (LockOf 0) tight
leaves (InAlloc spot) m value words x others t is s tight = leaves_alloc spot m value words x others t is s tight
leaves (InPutAway spot away) m value words x others t is s tight = leaves_put_away spot away m value words x others t is s tight
leaves (InDiscard spot discard) m value words x others t is s tight = leaves_discard spot discard m value words x others t is s tight
leaves (InPutOnList spot put) m value words x others t is s tight = leaves_put_on_list spot put m value words x others t is s tight
leaves (InFree spot) m value words x others t is s tight = leaves_free spot m value words x others t is s tight
leaves (InMoveSet spot move) m value words x others t is s tight = leaves_move_set spot move m value words x others t is s tight
leaves (InOffline spot sweep) m value words x others t is s tight = leaves_offline spot sweep m value words x others t is s tight
leaves (InTrim spot) m value words x others t is s tight = leaves_trim spot m value words x others t is s tight
leaves WriteWord m value words x others t is s tight = leaves_WriteWord m value words x others t is s tight
leaves ReadWord m value words x others t is s tight = loaded m words (step_at m value x.local ReadWord).place tight
leaves (InChecked spot kind) m value words x others t is s tight = leaves_checked spot kind m value words x others t is s tight
