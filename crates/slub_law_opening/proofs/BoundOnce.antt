-- What is done at once leads a worker to where it counts no further than its numbers go, and changes only what a lock of its own guards.
use Rattle.std.proofs.Common.{◌≡◌, ℕ, zero, suc, ◌+◌, ◌*◌, ◌/◌, ◌<◌, ◌≤◌, ◌==◌, ◌||◌, Bool, true, false, Option, Some, None, List, [], ◌∷◌, ◌++◌, length, refl, sym, ap, ◌∙◌, subst, arith, inl, inr}
use Rattle.std.specs.Prelude.{nat_lt, nat_le, take, drop, if◌then◌else◌}
use Rattle.std.proofs.lemmas.Bool.{cases_Bool, eqb-true, leb-true, ne_eqb}
use Rattle.slub_page_pool.specs.FreeFrames.{FreeFrames}
use Rattle.slub_object_layout.specs.declared.layout.Layout.{Layout}
use Rattle.slub_red_zone.specs.State.{CheckedState}
use Rattle.slub_red_zone.specs.Steps.{damage_of_used, with_taken}
use Rattle.slub_red_zone.specs.declared.checked.CheckedGive.{CheckedGive}
use Rattle.slub_red_zone.specs.declared.checked.CheckedGive.TheVariants as give
use Rattle.slub_trace.specs.declared.damage.Damage.{Damage}
use Rattle.slub_core.specs.declared.local.FrameRun.{FrameRun}
use Rattle.slub_core.specs.declared.local.PartialString.{PartialString}
use Rattle.slub_core.specs.declared.call.CallKind.{CallKind}
use Rattle.slub_core.specs.declared.call.CallKind.TheVariants.{Alloc, Free, Write, Read, Poke}
use Rattle.slub_core.specs.declared.spot.Spot.{Spot}
use Rattle.slub_core.specs.declared.spot.Spot.TheVariants.{InAlloc, InPutAway, InDiscard, InFree, InMoveSet, InTrim, InChecked}
use Rattle.slub_core.specs.declared.spot.MoveSet.{MoveSet}
use Rattle.slub_core.specs.declared.spot.MoveSet.TheVariants.{ForFree, ForOffline}
use Rattle.slub_core.specs.declared.spot.Sweep.TheVariants.{Trimming, Flushing}
use Rattle.slub_core.specs.declared.spot.AllocSpot.TheVariants.{PopNode, TakeRun}
use Rattle.slub_core.specs.declared.spot.PutAwaySpot.TheVariants.{PutNode}
use Rattle.slub_core.specs.declared.spot.DiscardSpot.TheVariants.{PutRun}
use Rattle.slub_core.specs.declared.spot.FreeSpot.TheVariants.{TakeOff}
use Rattle.slub_core.specs.declared.spot.MoveSetSpot.TheVariants.{ChooseFront, PutTail}
use Rattle.slub_core.specs.declared.spot.TrimSpot.TheVariants.{ScanNode, DropScanned}
use Rattle.slub_core.specs.declared.spot.CheckedSpot.{CheckedSpot}
use Rattle.slub_core.specs.declared.spot.CheckedSpot.TheVariants.{DoChecked, MoveRun, AddSlab}
use Rattle.slub_core.specs.declared.spot.Discard.TheVariants.{FromMove}
use Rattle.slub_core.specs.Setup.{Setup, node_lock, pool_lock}
use Rattle.slub_core.specs.World.{LockValue, Node, Pool, frames_in, pool_in}
use Rattle.slub_core.specs.Local.{Local, here, string_of, run_of, at}
use Rattle.slub_core.specs.Alloc.{way_of_run, found_run, run_taken, pop_node, node_of, with_node, asks_for_another, pool_with}
use Rattle.slub_core.specs.PutAway.{has_enough}
use Rattle.slub_core.specs.Discard.{counts_for, with_put}
use Rattle.slub_core.specs.MoveSet.{front_taken}
use Rattle.slub_core.specs.Offline.{scan_node, without_at}
use Rattle.slub_core.specs.Checked.{do_checked, gave, took_back, is_spare, move_run, way_of_found, slabs_of, slot_of}
use Rattle.slub_core.specs.Steps.{at_once}
use Rattle.slub_core.proofs.Update.{update_same, update_other}
use Rattle.slub_law_opening.specs.Bounded.{come_by, left_to_move, CountsFew}
use Rattle.slub_law_opening.proofs.Steps.{KnowsFew, IsCalm, calm, calm-if, goes-few}

-- ---- the node list

-- a pool is no node list
pool-node : (value : ℕ → LockValue) (l : Local) (pool : FreeFrames) → node_of (pool_with value pool) l ≡ node_of value l
pool-node value l pool = ap frames_in (update_other value pool_lock (Pool pool) (node_lock l.cache) (λ e. absurd (omega arith)))

here-node : (value : ℕ → LockValue) (l : Local) (frames : List ℕ) → node_of (with_node value l frames) l ≡ frames
here-node value l frames = ap frames_in (update_same value (node_lock l.cache) (Node frames))

-- one slab less
length-without : (fs : List ℕ) (n : ℕ) → n < length fs → length (without_at fs n) + 1 ≤ length fs
length-without [] n below = absurd (omega arith)
length-without (f ∷ fs) zero below = omega arith
length-without (f ∷ fs) (suc n) below =
    let r = length-without fs n (omega arith) in
    let e : suc n + 1 ≡ suc (n + 1) = omega arith in
    let s : length (without_at (f ∷ fs) (suc n)) ≡ suc (length (without_at fs n)) = ap (λ k. length (f ∷ (take n fs ++ drop k (f ∷ fs)))) e in
    omega arith

-- ---- by change

pop-few : (m : Setup) (value : ℕ → LockValue) (l : Local) (frames : List ℕ) → CountsFew m value l (InAlloc PopNode) → let c = pop_node m value l frames in CountsFew m c.value c.local c.local.spot
pop-few m value l [] ok = goes-few ok.put refl ok.count
pop-few m value l (frame ∷ frames) ok = elim (cases_Bool (asks_for_another m l)) [
  | inl e ↦ rw e (let c = ok.count in record { put = ok.put; asked = λ asks. by_hands l.put ((m.layout l.cache).cpu_partial_slabs / 2) (length l.hands) (ok.asked refl) e; count = c })
  | inr e ↦ rw e (goes-few ok.put refl ok.count)
]
  where
    by_hands : (put half hands : ℕ) → put ≤ half + 1 → ((hands == 0) || nat_le put half) ≡ true → put ≤ half + (if suc hands == 1 then 1 else 0)
    by_hands put half zero most asks = most
    by_hands put half (suc hands) most asks = let more = ne_eqb (suc hands) 0 (λ e. absurd (omega arith)) in let e = leb-true put half (rw more at asks) in omega arith

run-few : (m : Setup) (value : ℕ → LockValue) (pool : FreeFrames) (layout : Layout) (n : Local) (run : Option FrameRun) → n.put ≤ 4097 → n.count ≤ 135168 → IsCalm n.spot → let c = run_taken value pool layout n run in CountsFew m c.value c.local c.local.spot
run-few m value pool layout n None put count is = calm m _ n put count is
run-few m value pool layout n (Some run) put count is = calm m _ (record n { run = Some run }) put count is

scan-few : (m : Setup) (value : ℕ → LockValue) (l : Local) (frames : List ℕ) → CountsFew m value l (InTrim ScanNode) → let c = scan_node m value l frames in CountsFew m c.value c.local c.local.spot
scan-few m value l frames ok = elim (cases_Bool (nat_lt (length l.scanned) (length frames))) [
  | inl e ↦ rw e (goes-few ok.put refl ok.count)
  | inr e ↦ rw e (let c = ok.count in goes-few ok.put refl (omega arith))
]

-- a string in hand is one slab shorter by it
front-few : (m : Setup) (value : ℕ → LockValue) (l : Local) (move : MoveSet) (string : Option PartialString) → l.string ≡ string → CountsFew m value l (InMoveSet ChooseFront move) → let n = front_taken l move string in CountsFew m value n n.spot
front-few m value l move None has ok = goes-few ok.put refl ok.count
front-few m value l move (Some string) has ok = elim (cases_Bool (string.count == 1)) [
  | inl e ↦ rw e (goes-few ok.put refl (let one = eqb-true string.count 1 e in let is : (string_of l).count ≡ string.count = rw has refl in last move (string_of l).count l.count (4096 * come_by l.cpu l.turn (InMoveSet ChooseFront move)) (is ∙ one) ok.count))
  | inr e ↦ rw e (goes-few ok.put refl ok.count)
]
  where
    last : (move : MoveSet) (string count bound : ℕ) → string ≡ 1 → count + (left_to_move string move + 0) ≤ bound → count + (left_to_move 0 move + counts_for (FromMove move)) ≤ bound
    last ForFree string count bound one c = c
    last (ForOffline Trimming) string count bound one c = omega arith
    last (ForOffline Flushing) string count bound one c = c

checked-same : (m : Setup) (value : ℕ → LockValue) (l : Local) (s : CheckedSpot) (kind : CallKind) → CountsFew m value l (InChecked s kind) → l.count ≤ 135168
checked-same m value l s kind ok = let c = ok.count in omega arith

gave-few : (m : Setup) (value : ℕ → LockValue) (l : Local) (after : CheckedState) (g : CheckedGive) → l.put ≤ 4097 → l.count ≤ 135168 → let c = gave m value l after g in CountsFew m c.value c.local c.local.spot
gave-few m value l after (give.Given slot) put count = calm m _ _ put count (refl, λ a b. refl, λ a b. refl)
gave-few m value l after give.Empty put count = calm m _ _ put count (refl, λ a b. refl, λ a b. refl)

took-few : (m : Setup) (value : ℕ → LockValue) (l : Local) (s : CheckedState) (d : Option Damage) → l.put ≤ 4097 → l.count ≤ 135168 → let c = took_back m value l s d in CountsFew m c.value c.local c.local.spot
took-few m value l s None put count = calm m _ _ put count (calm-if (is_spare m (with_taken s (slot_of l)) l.cache (here l).frame) _ _ (refl, λ a b. refl, λ a b. refl) (refl, λ a b. refl, λ a b. refl))
took-few m value l s (Some damage) put count = calm m _ _ put count (refl, λ a b. refl, λ a b. refl)

do-few : (m : Setup) (value : ℕ → LockValue) (l : Local) (kind : CallKind) (s : CheckedState) → l.spot ≡ InChecked DoChecked kind → l.put ≤ 4097 → l.count ≤ 135168 → let c = do_checked m value l kind s in CountsFew m c.value c.local c.local.spot
do-few m value l Alloc s is put count = gave-few m value l (m.means.give s) (m.means.gave s) put count
do-few m value l Free s is put count = took-few m value l s (damage_of_used s (slot_of l)) put count
do-few m value l Write s is put count = calm m _ _ put count (refl, λ a b. refl, λ a b. refl)
do-few m value l Read s is put count = calm m _ _ put count (refl, λ a b. refl, λ a b. refl)
do-few m value l Poke s is put count = calm m _ _ put count (refl, λ a b. refl, λ a b. refl)
do-few m value l kind s is put count = calm m value l put count (rw is (refl, λ a b. refl, λ a b. refl))

move-few : (m : Setup) (value : ℕ → LockValue) (l : Local) (kind : CallKind) (pool : FreeFrames) → l.put ≤ 4097 → l.count ≤ 135168 → let c = move_run m value l kind pool in CountsFew m c.value c.local c.local.spot
move-few m value l Alloc pool put count =
    let found = found_run m pool (m.layout l.cache) in run-few m value pool (m.layout l.cache) (at l (way_of_found found)) found put count (by_run found)
  where
    by_run : (run : Option FrameRun) → IsCalm (way_of_found run)
    by_run None = (refl, λ a b. refl, λ a b. refl)
    by_run (Some run) = (refl, λ a b. refl, λ a b. refl)
move-few m value l kind pool put count = calm m _ _ put count (refl, λ a b. refl, λ a b. refl)

way-calm : (run : Option FrameRun) → IsCalm (way_of_run run)
way-calm None = (refl, λ a b. refl, λ a b. refl)
way-calm (Some run) = (refl, λ a b. refl, λ a b. refl)

-- ---- at once

pub once-few : (m : Setup) (refused : Bool) (value : ℕ → LockValue) (l : Local) (s : Spot) → KnowsFew value l s → l.spot ≡ s → CountsFew m value l s → let c = at_once m refused value l s in CountsFew m c.value c.local c.local.spot
once-few m refused value l (InAlloc PopNode) knows is ok = pop-few m value l (node_of value l) ok
once-few m refused value l (InAlloc TakeRun) knows is ok =
    let pool = pool_in (value pool_lock) in
    let found = found_run m pool (m.layout l.cache) in run-few m value pool (m.layout l.cache) (at l (way_of_run found)) found ok.put (let c = ok.count in omega arith) (way-calm found)
once-few m refused value l (InPutAway PutNode away) knows is ok = let c = ok.count in goes-few ok.put refl (omega arith)
once-few m refused value l (InDiscard PutRun discard) knows is ok =
    goes-few ok.put refl (rw (pool-node value l (with_put (pool_in (value pool_lock)) (run_of l))) ok.count)
once-few m refused value l (InFree TakeOff) knows is ok = elim (cases_Bool (has_enough m value l)) [
  | inl e ↦ rw e (goes-few ok.put refl ok.count)
  | inr e ↦ rw e (goes-few ok.put refl ok.count)
]
once-few m refused value l (InMoveSet ChooseFront move) knows is ok = front-few m value l move l.string refl ok
once-few m refused value l (InMoveSet PutTail move) knows is ok = let c = ok.count in goes-few ok.put refl (omega arith)
once-few m refused value l (InTrim ScanNode) knows is ok = scan-few m value l (node_of value l) ok
once-few m refused value l (InTrim DropScanned) knows is ok =
    let c = ok.count in
    let fewer = length-without (node_of value l) (length l.scanned) (knows.next refl) in
    goes-few ok.put refl (rw (here-node value l (without_at (node_of value l) (length l.scanned))) (omega arith))
once-few m refused value l (InChecked DoChecked kind) knows is ok = do-few m value l kind (slabs_of m value l) is ok.put (checked-same m value l DoChecked kind ok)
once-few m refused value l (InChecked MoveRun kind) knows is ok = move-few m value l kind (pool_in (value pool_lock)) ok.put (checked-same m value l MoveRun kind ok)
once-few m true value l (InChecked AddSlab kind) knows is ok = goes-few ok.put refl ok.count
once-few m false value l (InChecked AddSlab kind) knows is ok = goes-few ok.put refl ok.count
once-few m refused value l s knows is ok = subst (CountsFew m value l) (sym is) ok
