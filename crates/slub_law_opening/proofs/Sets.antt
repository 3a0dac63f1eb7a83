-- What is done at once changes only what a lock of the worker guards, and leaves checked slabs their flags.
use Rattle.std.proofs.Common.{◌≡◌, ℕ, ◌⊎◌, ◌&&◌, Bool, true, false, Option, Some, None, List, [], ◌∷◌, length, refl, inl, inr}
use Rattle.std.specs.Prelude.{nat_lt}
use Rattle.std.proofs.lemmas.Bool.{cases_Bool}
use Rattle.slub_page_pool.specs.FreeFrames.{FreeFrames}
use Rattle.slub_object_layout.specs.declared.layout.Layout.{Layout}
use Rattle.slub_red_zone.specs.State.{CheckedState, slab_of, objects_in}
use Rattle.slub_red_zone.specs.Sound.{IsSound}
use Rattle.slub_red_zone.specs.Steps.{Gives, damage_of_used, with_taken}
use Rattle.slub_red_zone.specs.Steps.Gives.{nothing_listed, next_is_whole, next_is_damaged}
use Rattle.slub_red_zone.specs.declared.checked.CheckedGive.{CheckedGive}
use Rattle.slub_red_zone.specs.declared.checked.CheckedGive.TheVariants as give
use Rattle.slub_trace.specs.declared.damage.Damage.{Damage}
use Rattle.slub_core.specs.declared.local.FrameRun.{FrameRun}
use Rattle.slub_core.specs.declared.call.CallKind.{CallKind}
use Rattle.slub_core.specs.declared.call.CallKind.TheVariants.{Alloc, Free, Write, Read, Poke}
use Rattle.slub_core.specs.declared.spot.Spot.{Spot}
use Rattle.slub_core.specs.declared.spot.Spot.TheVariants.{InAlloc, InPutAway, InDiscard, InFree, InMoveSet, InTrim, InChecked}
use Rattle.slub_core.specs.declared.spot.AllocSpot.TheVariants.{PopNode, TakeRun}
use Rattle.slub_core.specs.declared.spot.PutAwaySpot.TheVariants.{PutNode}
use Rattle.slub_core.specs.declared.spot.DiscardSpot.TheVariants.{PutRun}
use Rattle.slub_core.specs.declared.spot.FreeSpot.TheVariants.{TakeOff}
use Rattle.slub_core.specs.declared.spot.MoveSetSpot.TheVariants.{PutTail}
use Rattle.slub_core.specs.declared.spot.TrimSpot.TheVariants.{ScanNode, DropScanned}
use Rattle.slub_core.specs.declared.spot.CheckedSpot.TheVariants.{DoChecked, MoveRun, AddSlab}
use Rattle.slub_core.specs.Calls.{call_offset}
use Rattle.slub_core.specs.Setup.{Setup, node_lock, pool_lock}
use Rattle.slub_core.specs.World.{LockValue, Node, Checked, Pool, update, pool_in}
use Rattle.slub_core.specs.Local.{Local, here, at, call_of}
use Rattle.slub_core.specs.Alloc.{way_of_run, found_run, run_taken, pop_node, node_of, asks_for_another}
use Rattle.slub_core.specs.PutAway.{has_enough}
use Rattle.slub_core.specs.Offline.{scan_node}
use Rattle.slub_core.specs.Checked.{do_checked, gave, took_back, is_spare, is_offset, poked, move_run, way_of_found, slabs_of, slot_of}
use Rattle.slub_core.specs.Spots.{has_node, in_plain, in_checked}
use Rattle.slub_core.specs.Steps.{at_once}

-- ---- what is touched

-- the node list of its call's cache, under its lock
pub record SetsNode (l : Local) (s : Spot) (value after : ℕ → LockValue) : Type 0 where
  pub frames : List ℕ
  pub is_set : after ≡ update value (node_lock l.cache) (Node frames)
  pub has : has_node s ≡ true
  pub plain : in_plain s ≡ true

-- the slabs of its call's cache, under its lock, with the flags that they had
pub record SetsSlabs (m : Setup) (l : Local) (s : Spot) (value after : ℕ → LockValue) : Type 0 where
  pub slabs : CheckedState
  pub is_set : after ≡ update value (node_lock l.cache) (Checked slabs)
  pub has : has_node s ≡ true
  pub checked : in_checked s ≡ true
  pub flags : IsSound (slabs_of m value l) → slabs.flags ≡ (slabs_of m value l).flags

-- the pool, under its lock
pub record SetsPool (s : Spot) (value after : ℕ → LockValue) : Type 0 where
  pub pool : FreeFrames
  pub is_set : after ≡ update value pool_lock (Pool pool)

-- one of these, or nothing
abbrev pub Sets : Setup → Local → Spot → (ℕ → LockValue) → (ℕ → LockValue) → Type 0
Sets m l s value after = (after ≡ value) ⊎ SetsNode l s value after ⊎ SetsSlabs m l s value after ⊎ SetsPool s value after

nothing : {m : Setup} {l : Local} {s : Spot} {value : ℕ → LockValue} → Sets m l s value value
nothing = inl refl

sets_node : {m : Setup} {l : Local} {s : Spot} {value : ℕ → LockValue} (frames : List ℕ) → has_node s ≡ true → in_plain s ≡ true → Sets m l s value (update value (node_lock l.cache) (Node frames))
sets_node frames has plain = inr (inl (record { frames = frames; is_set = refl; has = has; plain = plain }))

sets_slabs : {m : Setup} {l : Local} {s : Spot} {value : ℕ → LockValue} (slabs : CheckedState) → has_node s ≡ true → in_checked s ≡ true → (IsSound (slabs_of m value l) → slabs.flags ≡ (slabs_of m value l).flags) → Sets m l s value (update value (node_lock l.cache) (Checked slabs))
sets_slabs slabs has checked flags = inr (inr (inl (record { slabs = slabs; is_set = refl; has = has; checked = checked; flags = flags })))

sets_pool : {m : Setup} {l : Local} {s : Spot} {value : ℕ → LockValue} (pool : FreeFrames) → Sets m l s value (update value pool_lock (Pool pool))
sets_pool pool = inr (inr (inr (record { pool = pool; is_set = refl })))

-- ---- by change

pop-sets : (m : Setup) (value : ℕ → LockValue) (l : Local) (frames : List ℕ) → Sets m l (InAlloc PopNode) value (pop_node m value l frames).value
pop-sets m value l [] = nothing
pop-sets m value l (frame ∷ frames) = elim (cases_Bool (asks_for_another m l)) [ inl e ↦ rw e (sets_node frames refl refl) | inr e ↦ rw e nothing ]

run-sets : (m : Setup) (value : ℕ → LockValue) (free : FreeFrames) (layout : Layout) (l n : Local) (s : Spot) (run : Option FrameRun) → Sets m l s value (run_taken value free layout n run).value
run-sets m value free layout l n s None = sets_pool _
run-sets m value free layout l n s (Some run) = sets_pool _

scan-sets : (m : Setup) (value : ℕ → LockValue) (l : Local) (frames : List ℕ) → Sets m l (InTrim ScanNode) value (scan_node m value l frames).value
scan-sets m value l frames = elim (cases_Bool (nat_lt (length l.scanned) (length frames))) [ inl e ↦ rw e nothing | inr e ↦ rw e (sets_node _ refl refl) ]

-- the flags of checked slabs, which no gift changes
give-flags : (s : CheckedState) (g : CheckedGive) (after : CheckedState) → Gives s g after → after.flags ≡ s.flags
give-flags s _ _ (nothing_listed _ none) = refl
give-flags s _ _ (next_is_whole _ slot next whole) = refl
give-flags s g after (next_is_damaged _ slot damage _ _ next damaged rest) = give-flags _ g after rest

gave-sets : (m : Setup) (value : ℕ → LockValue) (l : Local) (after : CheckedState) (g : CheckedGive) → (IsSound (slabs_of m value l) → after.flags ≡ (slabs_of m value l).flags) → Sets m l (InChecked DoChecked Alloc) value (gave m value l after g).value
gave-sets m value l after (give.Given slot) flags = sets_slabs after refl refl flags
gave-sets m value l after give.Empty flags = sets_slabs after refl refl flags

took-sets : (m : Setup) (value : ℕ → LockValue) (l : Local) (d : Option Damage) → Sets m l (InChecked DoChecked Free) value (took_back m value l (slabs_of m value l) d).value
took-sets m value l None = elim (cases_Bool (is_spare m (with_taken (slabs_of m value l) (slot_of l)) l.cache (here l).frame)) [ inl e ↦ rw e (sets_slabs _ refl refl (λ _. refl)) | inr e ↦ rw e (sets_slabs _ refl refl (λ _. refl)) ]
took-sets m value l (Some damage) = nothing

poked-flags : (l : Local) (s : CheckedState) → (poked l s).flags ≡ s.flags
poked-flags l s = elim (cases_Bool (is_offset s.layout (call_offset (call_of l)) && nat_lt (here l).index (objects_in (slab_of s (here l).frame)))) [ inl e ↦ rw e refl | inr e ↦ rw e refl ]

do-sets : (m : Setup) (value : ℕ → LockValue) (l : Local) (kind : CallKind) → Sets m l (InChecked DoChecked kind) value (do_checked m value l kind (slabs_of m value l)).value
do-sets m value l Alloc = let s = slabs_of m value l in gave-sets m value l (m.means.give s) (m.means.gave s) (λ sound. give-flags s (m.means.gave s) (m.means.give s) (m.means.gives s sound))
do-sets m value l Free = took-sets m value l (damage_of_used (slabs_of m value l) (slot_of l))
do-sets m value l Write = sets_slabs _ refl refl (λ _. refl)
do-sets m value l Read = nothing
do-sets m value l Poke = sets_slabs _ refl refl (λ _. poked-flags l (slabs_of m value l))
do-sets m value l kind = nothing

move-sets : (m : Setup) (value : ℕ → LockValue) (l : Local) (kind : CallKind) (free : FreeFrames) → Sets m l (InChecked MoveRun kind) value (move_run m value l kind free).value
move-sets m value l Alloc free = let found = found_run m free (m.layout l.cache) in run-sets m value free (m.layout l.cache) l (at l (way_of_found found)) (InChecked MoveRun Alloc) found
move-sets m value l kind free = sets_pool _

pub once-sets : (m : Setup) (refused : Bool) (value : ℕ → LockValue) (l : Local) (s : Spot) → Sets m l s value (at_once m refused value l s).value
once-sets m refused value l (InAlloc PopNode) = pop-sets m value l (node_of value l)
once-sets m refused value l (InAlloc TakeRun) =
    let free = pool_in (value pool_lock) in
    let found = found_run m free (m.layout l.cache) in run-sets m value free (m.layout l.cache) l (at l (way_of_run found)) (InAlloc TakeRun) found
once-sets m refused value l (InPutAway PutNode away) = sets_node _ refl refl
once-sets m refused value l (InDiscard PutRun discard) = sets_pool _
once-sets m refused value l (InFree TakeOff) = elim (cases_Bool (has_enough m value l)) [ inl e ↦ rw e (sets_node _ refl refl) | inr e ↦ rw e nothing ]
once-sets m refused value l (InMoveSet PutTail move) = sets_node _ refl refl
once-sets m refused value l (InTrim ScanNode) = scan-sets m value l (node_of value l)
once-sets m refused value l (InTrim DropScanned) = sets_node _ refl refl
once-sets m refused value l (InChecked DoChecked kind) = do-sets m value l kind
once-sets m refused value l (InChecked MoveRun kind) = move-sets m value l kind (pool_in (value pool_lock))
once-sets m true value l (InChecked AddSlab kind) = sets_pool _
once-sets m false value l (InChecked AddSlab kind) = sets_slabs _ refl refl (λ _. refl)
once-sets m refused value l s = nothing
