-- At once, under a lock: a node list or the pool changes, and nobody is answered but where no run is there.
use Rattle.std.proofs.Common.{◌≡◌, ℕ, ◌<◌, ◌==◌, true, List, [], ◌∷◌, length, refl, arith, inl, inr, Option, Some, None}
use Rattle.std.specs.Prelude.{nat_lt}
use Rattle.std.proofs.lemmas.Bool.{cases_Bool}
use Rattle.std.proofs.lemmas.List.Elements.{All-head}
use Rattle.slub_page_pool.specs.FreeFrames.{FreeFrames}
use Rattle.slub_trace.specs.declared.reply.Reply.TheVariants as reply
use Rattle.slub_core.specs.declared.call.CallKind.{CallKind}
use Rattle.slub_core.specs.declared.call.CallKind.TheVariants.{Alloc, Free, Write, Read, Poke, Trim, Flush}
use Rattle.slub_core.specs.declared.local.PartialString.{PartialString}
use Rattle.slub_core.specs.declared.local.FrameRun.{FrameRun}
use Rattle.slub_core.specs.declared.spot.Spot.{Spot}
use Rattle.slub_core.specs.declared.spot.Spot.TheVariants.{InAlloc, InPutAway, InDiscard, InFree, InMoveSet, InTrim, InChecked}
use Rattle.slub_core.specs.declared.spot.AllocSpot.TheVariants.{PopNode, TakeRun, GiveDry}
use Rattle.slub_core.specs.declared.spot.PutAwaySpot.TheVariants.{PutNode}
use Rattle.slub_core.specs.declared.spot.Away.{Away}
use Rattle.slub_core.specs.declared.spot.Discard.{Discard}
use Rattle.slub_core.specs.declared.spot.DiscardSpot.TheVariants.{PutRun}
use Rattle.slub_core.specs.declared.spot.FreeSpot.TheVariants.{TakeOff}
use Rattle.slub_core.specs.declared.spot.MoveSet.{MoveSet}
use Rattle.slub_core.specs.declared.spot.MoveSetSpot.TheVariants.{ChooseFront, PutTail}
use Rattle.slub_core.specs.declared.spot.TrimSpot.TheVariants.{ScanNode, DropScanned}
use Rattle.slub_core.specs.declared.spot.CheckedSpot.TheVariants.{MoveRun, GiveRun}
use Rattle.slub_core.specs.Setup.{pool_lock, node_lock}
use Rattle.slub_core.specs.World.{World, LockValue, Node, Pool, set_value, pool_of}
use Rattle.slub_core.specs.Local.{Local, Worker, at, answered, stays}
use Rattle.slub_core.specs.Alloc.{node_of, with_node, pool_with, asks_for_another, pop_node, found_run, run_taken, way_of_run}
use Rattle.slub_core.specs.PutAway.{has_enough}
use Rattle.slub_core.specs.MoveSet.{front_taken}
use Rattle.slub_core.specs.Checked.{way_of_found}
use Rattle.slub_core.specs.Spots.{doing, frees, is_freeing}
use Rattle.slub_core.specs.Fresh.{IsAtWork}
use Rattle.slub_core.specs.Coherent.{Stands}
use Rattle.slub_core.specs.Accounted.{IsAccounted}
use Rattle.slub_core.proofs.Accounts.{Tells, TellsAt}
use Rattle.slub_core.proofs.PoolSpots.{the-pool}
use Rattle.slub_core.proofs.TaleQuiet.{Unseen, IsQuiet, told_quiet}
use Rattle.slub_core.proofs.TaleTurns.{Way, goes-on}
use Rattle.slub_core.proofs.TaleSpots.{unseen-same}
use Rattle.slub_core.proofs.TaleEnds.{unseen-value}
use Rattle.slub_core.proofs.TaleDry.{told_dry}

-- ---- without a reply

-- between two spots of one call
along : (s t : Spot) → is_freeing t ≡ is_freeing s → frees t ≡ frees s → doing t ≡ doing s → Way s t
along s t a b c = record { freeing = a; frees = b; call = λ kind e. rw c at e }

pub tells_quiet : (opening w : World) (value : ℕ → LockValue) (x : Worker) (others : List Worker) (l : Local) → IsAccounted opening w (x ∷ others) → Unseen w (record w { value = value }) → IsQuiet x.local l → Tells opening w others (stays value l)
tells_quiet opening w value x others l ac same quiet = (record x { local = l }, refl, told_quiet opening w (record w { value = value }) x (record x { local = l }) others ac same quiet)

-- no value changes
pub tells_same : (opening w : World) (x : Worker) (others : List Worker) (l : Local) → IsAccounted opening w (x ∷ others) → IsQuiet x.local l → Tells opening w others (stays w.value l)
tells_same opening w x others l ac quiet = tells_quiet opening w w.value x others l ac (unseen-same w) quiet

-- what isn't the pool changes
pub unseen-guarded : (w : World) (cache : ℕ) (v : LockValue) → Unseen w (set_value w (node_lock cache) v)
unseen-guarded w cache v = unseen-value w (node_lock cache) v (λ e. absurd (omega arith))

tells_node : (opening w : World) (x : Worker) (others : List Worker) (frames : List ℕ) (l : Local) → IsAccounted opening w (x ∷ others) → IsQuiet x.local l → Tells opening w others (stays (with_node w.value x.local frames) l)
tells_node opening w x others frames l ac quiet = tells_quiet opening w (with_node w.value x.local frames) x others l ac (unseen-guarded w x.local.cache (Node frames)) quiet

-- the pool's counts of lacking runs stay
pub unseen-pool : (w : World) (pool : FreeFrames) → pool.dry ≡ (pool_of w).dry → Unseen w (set_value w pool_lock (Pool pool))
unseen-pool w pool same = unseen-value w pool_lock (Pool pool) (λ e order. rw same refl)

tells_pool : (opening w : World) (x : Worker) (others : List Worker) (pool : FreeFrames) (l : Local) → pool.dry ≡ (pool_of w).dry → IsAccounted opening w (x ∷ others) → IsQuiet x.local l → Tells opening w others (stays (pool_with w.value pool) l)
tells_pool opening w x others pool l same ac quiet = tells_quiet opening w (pool_with w.value pool) x others l ac (unseen-pool w pool same) quiet

-- ---- node lists

pub tells_PopNode : TellsAt (InAlloc PopNode)
tells_PopNode opening w refused x others is s ac = by_list (node_of w.value x.local)
  where
    by_list : (frames : List ℕ) → Tells opening w others (pop_node w.setup w.value x.local frames)
    by_list [] = tells_same opening w x others _ ac (goes-on x.local _ _ _ is refl (along _ _ refl refl refl) refl refl refl refl refl refl)
    by_list (frame ∷ frames) = elim (cases_Bool (asks_for_another w.setup x.local)) [
      | inl e ↦ rw e (tells_node opening w x others frames _ ac (goes-on x.local _ _ _ is refl (along _ _ refl refl refl) refl refl refl refl refl refl))
      | inr e ↦ rw e (tells_same opening w x others _ ac (goes-on x.local _ _ _ is refl (along _ _ refl refl refl) refl refl refl refl refl refl))
    ]

pub tells_PutNode : (away : Away) → TellsAt (InPutAway PutNode away)
tells_PutNode away opening w refused x others is s ac = tells_node opening w x others _ _ ac (goes-on x.local _ _ _ is refl (along _ _ refl refl refl) refl refl refl refl refl refl)

pub tells_TakeOff : TellsAt (InFree TakeOff)
tells_TakeOff opening w refused x others is s ac = elim (cases_Bool (has_enough w.setup w.value x.local)) [
  | inl e ↦ rw e (tells_node opening w x others _ _ ac (goes-on x.local _ _ _ is refl (along _ _ refl refl refl) refl refl refl refl refl refl))
  | inr e ↦ rw e (tells_same opening w x others _ ac (goes-on x.local _ _ _ is refl (along _ _ refl refl refl) refl refl refl refl refl refl))
]

pub tells_ChooseFront : (move : MoveSet) → TellsAt (InMoveSet ChooseFront move)
tells_ChooseFront move opening w refused x others is s ac = tells_same opening w x others _ ac (by_string x.local.string)
  where
    by_string : (string : Option PartialString) → IsQuiet x.local (front_taken x.local move string)
    by_string None = goes-on x.local _ _ _ is refl (along _ _ refl refl refl) refl refl refl refl refl refl
    by_string (Some string) = elim (cases_Bool (string.count == 1)) [
      | inl e ↦ rw e (goes-on x.local _ _ _ is refl (along _ _ refl refl refl) refl refl refl refl refl refl)
      | inr e ↦ rw e (goes-on x.local _ _ _ is refl (along _ _ refl refl refl) refl refl refl refl refl refl)
    ]

pub tells_PutTail : (move : MoveSet) → TellsAt (InMoveSet PutTail move)
tells_PutTail move opening w refused x others is s ac = tells_node opening w x others _ _ ac (goes-on x.local _ _ _ is refl (along _ _ refl refl refl) refl refl refl refl refl refl)

pub tells_ScanNode : TellsAt (InTrim ScanNode)
tells_ScanNode opening w refused x others is s ac = elim (cases_Bool (nat_lt (length x.local.scanned) (length (node_of w.value x.local)))) [
  | inl e ↦ rw e (tells_same opening w x others _ ac (goes-on x.local _ _ _ is refl (along _ _ refl refl refl) refl refl refl refl refl refl))
  | inr e ↦ rw e (tells_node opening w x others _ _ ac (goes-on x.local _ _ _ is refl (along _ _ refl refl refl) refl refl refl refl refl refl))
]

pub tells_DropScanned : TellsAt (InTrim DropScanned)
tells_DropScanned opening w refused x others is s ac = tells_node opening w x others _ _ ac (goes-on x.local _ _ _ is refl (along _ _ refl refl refl) refl refl refl refl refl refl)

-- ---- the pool

pub tells_PutRun : (discard : Discard) → TellsAt (InDiscard PutRun discard)
tells_PutRun discard opening w refused x others is s ac = tells_pool opening w x others _ _ refl ac (goes-on x.local _ _ _ is refl (along _ _ refl refl refl) refl refl refl refl refl refl)

-- the least order of a live cache is one that the pool counts
least-counted : (w : World) (x : Worker) (others : List Worker) → Stands w (x ∷ others) → w.setup.lives x.local.cache ≡ true → (w.setup.layout x.local.cache).min_order < length (pool_of w).dry
least-counted w x others s live =
    let layout = s.fresh.setup.layout x.local.cache live in
    omega (arith, layout.order, layout.min_order, (the-pool w (x ∷ others) s).0.orders)

pub tells_TakeRun : TellsAt (InAlloc TakeRun)
tells_TakeRun opening w refused x others is s ac =
    let ok = All-head (IsAtWork w) x others s.fresh.workers in
    by_found (found_run w.setup (pool_of w) (w.setup.layout x.local.cache)) (least-counted w x others s (ok.spot.plain (rw is refl)).1)
  where
    by_found : (found : Option FrameRun) → (w.setup.layout x.local.cache).min_order < length (pool_of w).dry → Tells opening w others (run_taken w.value (pool_of w) (w.setup.layout x.local.cache) (at x.local (way_of_run found)) found)
    by_found None small =
        let z : Worker = record x { local = answered (at x.local (InAlloc GiveDry)) reply.NoFrames } in
        (z, refl, told_dry opening w x z others ac (rw is refl) (rw is refl) small (record { known = refl; done = refl; todo = refl; freeing = refl; call = refl }))
    by_found (Some run) small = tells_pool opening w x others _ _ refl ac (goes-on x.local _ _ _ is refl (along _ _ refl refl refl) refl refl refl refl refl refl)

-- for a checked cache
pub tells_MoveRun : (kind : CallKind) → TellsAt (InChecked MoveRun kind)
tells_MoveRun Alloc opening w refused x others is s ac =
    let ok = All-head (IsAtWork w) x others s.fresh.workers in
    by_found (found_run w.setup (pool_of w) (w.setup.layout x.local.cache)) (least-counted w x others s (ok.spot.checked (rw is refl)).1)
  where
    by_found : (found : Option FrameRun) → (w.setup.layout x.local.cache).min_order < length (pool_of w).dry → Tells opening w others (run_taken w.value (pool_of w) (w.setup.layout x.local.cache) (at x.local (way_of_found found)) found)
    by_found None small =
        let z : Worker = record x { local = answered (at x.local (InChecked GiveRun Alloc)) reply.NoFrames } in
        (z, refl, told_dry opening w x z others ac (rw is refl) (rw is refl) small (record { known = refl; done = refl; todo = refl; freeing = refl; call = refl }))
    by_found (Some run) small = tells_pool opening w x others _ _ refl ac (goes-on x.local _ _ _ is refl (along _ _ refl refl refl) refl refl refl refl refl refl)
tells_MoveRun Free opening w refused x others is s ac = tells_pool opening w x others _ _ refl ac (goes-on x.local _ _ _ is refl (along _ _ refl refl refl) refl refl refl refl refl refl)
tells_MoveRun Write opening w refused x others is s ac = tells_pool opening w x others _ _ refl ac (goes-on x.local _ _ _ is refl (along _ _ refl refl refl) refl refl refl refl refl refl)
tells_MoveRun Read opening w refused x others is s ac = tells_pool opening w x others _ _ refl ac (goes-on x.local _ _ _ is refl (along _ _ refl refl refl) refl refl refl refl refl refl)
tells_MoveRun Poke opening w refused x others is s ac = tells_pool opening w x others _ _ refl ac (goes-on x.local _ _ _ is refl (along _ _ refl refl refl) refl refl refl refl refl refl)
tells_MoveRun Trim opening w refused x others is s ac = tells_pool opening w x others _ _ refl ac (goes-on x.local _ _ _ is refl (along _ _ refl refl refl) refl refl refl refl refl refl)
tells_MoveRun Flush opening w refused x others is s ac = tells_pool opening w x others _ _ refl ac (goes-on x.local _ _ _ is refl (along _ _ refl refl refl) refl refl refl refl refl refl)
