-- The step of a spot, on the table of words: spots whose step takes a lock or gives one back.
use Rattle.std.proofs.Common.{refl, suc}
use Rattle.slub_core.specs.declared.call.CallKind.{CallKind}
use Rattle.slub_core.specs.declared.spot.Spot.TheVariants.{InAlloc, InPutAway, InDiscard, InFree, InMoveSet, InTrim, InChecked}
use Rattle.slub_core.specs.declared.spot.AllocSpot.TheVariants.{LockNode, GiveNode, LockPool, GivePool, GiveDry}
use Rattle.slub_core.specs.declared.spot.Away.{Away}
use Rattle.slub_core.specs.declared.spot.PutAwaySpot.TheVariants.{LockAway, GiveAway}
use Rattle.slub_core.specs.declared.spot.Discard.{Discard}
use Rattle.slub_core.specs.declared.spot.DiscardSpot.TheVariants.{LockDiscard, GiveDiscard}
use Rattle.slub_core.specs.declared.spot.FreeSpot.TheVariants.{LockFree, GoBack, GiveFree}
use Rattle.slub_core.specs.declared.spot.MoveSet.{MoveSet}
use Rattle.slub_core.specs.declared.spot.MoveSetSpot.TheVariants.{LockMove, GiveMove}
use Rattle.slub_core.specs.declared.spot.TrimSpot.TheVariants.{LockTrim, GiveTrim}
use Rattle.slub_core.specs.declared.spot.CheckedSpot.TheVariants.{LockChecked, LockRun, GiveRun, GiveChecked}
use Rattle.slub_core.specs.Setup.{node_lock, pool_lock}
use Rattle.slub_core.specs.World.{world_from, world_of, set_lock}
use Rattle.slub_core.specs.Steps.{advance_at, told}
use Rattle.slub_core.proofs.Leads.{AtSpot, node_below, pool_below, plain_here, checked_here}
use Rattle.slub_core.proofs.WordSteps.{lock_exchange, lock_store}
use Rattle.slub_core.proofs.Kind13.{at_LockNode, at_LockPool, at_LockAway, at_LockDiscard, at_LockFree, at_LockMove, at_LockTrim, at_LockChecked, at_LockRun}
use Rattle.slub_core.proofs.Kind14.{at_GiveNode, at_GivePool, at_GiveDry, at_GiveAway, at_GiveDiscard, at_GoBack, at_GiveFree, at_GiveTrim, at_GiveRun, at_GiveChecked}
use Rattle.slub_core.proofs.GiveMove.{at_GiveMove}
use Rattle.slub_core.proofs.Accounts.{Reaches}
use Rattle.slub_core.proofs.TaleSteps.{quietly, tale_GiveMove}
use Rattle.slub_core.proofs.TaleSpots.{unseen-same, unseen-lock, told_GiveTrim}
use Rattle.slub_core.specs.declared.step.Answer.TheVariants.{Won, Lost, Done}

-- ---- a lock is taken

pub leads_LockNode : AtSpot (InAlloc LockNode)
unfolding world_of world_from
leads_LockNode opening m value words x others t is s ac =
    let w = world_of m value words in
    lock_exchange m value words (node_lock x.local.cache) x.local.worker (λ v a. Reaches opening v others (advance_at m value x.local (InAlloc LockNode) a)) t (node_below m x.local.cache t (plain_here m value words x others (rw is refl) s).0)
    (λ free. (at_LockNode w x others is free s, quietly opening w (set_lock w (node_lock x.local.cache) (suc x.local.worker)) value x others (InAlloc LockNode) Won is ac (unseen-lock w (node_lock x.local.cache) (suc x.local.worker)) refl refl))
    (λ word. ((x, refl, s), quietly opening w w value x others (InAlloc LockNode) (Lost word) is ac (unseen-same w) refl refl))

pub leads_LockPool : AtSpot (InAlloc LockPool)
unfolding world_of world_from
leads_LockPool opening m value words x others t is s ac =
    let w = world_of m value words in
    lock_exchange m value words pool_lock x.local.worker (λ v a. Reaches opening v others (advance_at m value x.local (InAlloc LockPool) a)) t (pool_below m t)
    (λ free. (at_LockPool w x others is free s, quietly opening w (set_lock w pool_lock (suc x.local.worker)) value x others (InAlloc LockPool) Won is ac (unseen-lock w pool_lock (suc x.local.worker)) refl refl))
    (λ word. ((x, refl, s), quietly opening w w value x others (InAlloc LockPool) (Lost word) is ac (unseen-same w) refl refl))

pub leads_LockAway : (away : Away) → AtSpot (InPutAway LockAway away)
unfolding world_of world_from
leads_LockAway away opening m value words x others t is s ac =
    let w = world_of m value words in
    lock_exchange m value words (node_lock x.local.cache) x.local.worker (λ v a. Reaches opening v others (advance_at m value x.local (InPutAway LockAway away) a)) t (node_below m x.local.cache t (plain_here m value words x others (rw is refl) s).0)
    (λ free. (at_LockAway w x others away is free s, quietly opening w (set_lock w (node_lock x.local.cache) (suc x.local.worker)) value x others (InPutAway LockAway away) Won is ac (unseen-lock w (node_lock x.local.cache) (suc x.local.worker)) refl refl))
    (λ word. ((x, refl, s), quietly opening w w value x others (InPutAway LockAway away) (Lost word) is ac (unseen-same w) refl refl))

pub leads_LockDiscard : (discard : Discard) → AtSpot (InDiscard LockDiscard discard)
unfolding world_of world_from
leads_LockDiscard discard opening m value words x others t is s ac =
    let w = world_of m value words in
    lock_exchange m value words pool_lock x.local.worker (λ v a. Reaches opening v others (advance_at m value x.local (InDiscard LockDiscard discard) a)) t (pool_below m t)
    (λ free. (at_LockDiscard w x others discard is free s, quietly opening w (set_lock w pool_lock (suc x.local.worker)) value x others (InDiscard LockDiscard discard) Won is ac (unseen-lock w pool_lock (suc x.local.worker)) refl refl))
    (λ word. ((x, refl, s), quietly opening w w value x others (InDiscard LockDiscard discard) (Lost word) is ac (unseen-same w) refl refl))

pub leads_LockFree : AtSpot (InFree LockFree)
unfolding world_of world_from
leads_LockFree opening m value words x others t is s ac =
    let w = world_of m value words in
    lock_exchange m value words (node_lock x.local.cache) x.local.worker (λ v a. Reaches opening v others (advance_at m value x.local (InFree LockFree) a)) t (node_below m x.local.cache t (plain_here m value words x others (rw is refl) s).0)
    (λ free. (at_LockFree w x others is free s, quietly opening w (set_lock w (node_lock x.local.cache) (suc x.local.worker)) value x others (InFree LockFree) Won is ac (unseen-lock w (node_lock x.local.cache) (suc x.local.worker)) refl refl))
    (λ word. ((x, refl, s), quietly opening w w value x others (InFree LockFree) (Lost word) is ac (unseen-same w) refl refl))

pub leads_LockMove : (move : MoveSet) → AtSpot (InMoveSet LockMove move)
unfolding world_of world_from
leads_LockMove move opening m value words x others t is s ac =
    let w = world_of m value words in
    lock_exchange m value words (node_lock x.local.cache) x.local.worker (λ v a. Reaches opening v others (advance_at m value x.local (InMoveSet LockMove move) a)) t (node_below m x.local.cache t (plain_here m value words x others (rw is refl) s).0)
    (λ free. (at_LockMove w x others move is free s, quietly opening w (set_lock w (node_lock x.local.cache) (suc x.local.worker)) value x others (InMoveSet LockMove move) Won is ac (unseen-lock w (node_lock x.local.cache) (suc x.local.worker)) refl refl))
    (λ word. ((x, refl, s), quietly opening w w value x others (InMoveSet LockMove move) (Lost word) is ac (unseen-same w) refl refl))

pub leads_LockTrim : AtSpot (InTrim LockTrim)
unfolding world_of world_from
leads_LockTrim opening m value words x others t is s ac =
    let w = world_of m value words in
    lock_exchange m value words (node_lock x.local.cache) x.local.worker (λ v a. Reaches opening v others (advance_at m value x.local (InTrim LockTrim) a)) t (node_below m x.local.cache t (plain_here m value words x others (rw is refl) s).0)
    (λ free. (at_LockTrim w x others is free s, quietly opening w (set_lock w (node_lock x.local.cache) (suc x.local.worker)) value x others (InTrim LockTrim) Won is ac (unseen-lock w (node_lock x.local.cache) (suc x.local.worker)) refl refl))
    (λ word. ((x, refl, s), quietly opening w w value x others (InTrim LockTrim) (Lost word) is ac (unseen-same w) refl refl))

pub leads_LockChecked : (kind : CallKind) → AtSpot (InChecked LockChecked kind)
unfolding world_of world_from
leads_LockChecked kind opening m value words x others t is s ac =
    let w = world_of m value words in
    lock_exchange m value words (node_lock x.local.cache) x.local.worker (λ v a. Reaches opening v others (advance_at m value x.local (InChecked LockChecked kind) a)) t (node_below m x.local.cache t (checked_here m value words x others (rw is refl) s).0)
    (λ free. (at_LockChecked w x others kind is free s, quietly opening w (set_lock w (node_lock x.local.cache) (suc x.local.worker)) value x others (InChecked LockChecked kind) Won is ac (unseen-lock w (node_lock x.local.cache) (suc x.local.worker)) refl refl))
    (λ word. ((x, refl, s), quietly opening w w value x others (InChecked LockChecked kind) (Lost word) is ac (unseen-same w) refl refl))

pub leads_LockRun : (kind : CallKind) → AtSpot (InChecked LockRun kind)
unfolding world_of world_from
leads_LockRun kind opening m value words x others t is s ac =
    let w = world_of m value words in
    lock_exchange m value words pool_lock x.local.worker (λ v a. Reaches opening v others (advance_at m value x.local (InChecked LockRun kind) a)) t (pool_below m t)
    (λ free. (at_LockRun w x others kind is free s, quietly opening w (set_lock w pool_lock (suc x.local.worker)) value x others (InChecked LockRun kind) Won is ac (unseen-lock w pool_lock (suc x.local.worker)) refl refl))
    (λ word. ((x, refl, s), quietly opening w w value x others (InChecked LockRun kind) (Lost word) is ac (unseen-same w) refl refl))

-- ---- a lock is given back

pub leads_GiveNode : AtSpot (InAlloc GiveNode)
unfolding world_of world_from
leads_GiveNode opening m value words x others t is s ac =
    let w = world_of m value words in
    lock_store m value words (node_lock x.local.cache) 0 (λ v a. Reaches opening v others (advance_at m value x.local (InAlloc GiveNode) a)) t (node_below m x.local.cache t (plain_here m value words x others (rw is refl) s).0)
    (at_GiveNode w x others is s, quietly opening w (set_lock w (node_lock x.local.cache) 0) value x others (InAlloc GiveNode) Done is ac (unseen-lock w (node_lock x.local.cache) 0) refl refl)

pub leads_GivePool : AtSpot (InAlloc GivePool)
unfolding world_of world_from
leads_GivePool opening m value words x others t is s ac =
    let w = world_of m value words in
    lock_store m value words pool_lock 0 (λ v a. Reaches opening v others (advance_at m value x.local (InAlloc GivePool) a)) t (pool_below m t)
    (at_GivePool w x others is s, quietly opening w (set_lock w pool_lock 0) value x others (InAlloc GivePool) Done is ac (unseen-lock w pool_lock 0) refl refl)

pub leads_GiveDry : AtSpot (InAlloc GiveDry)
unfolding world_of world_from
leads_GiveDry opening m value words x others t is s ac =
    let w = world_of m value words in
    lock_store m value words pool_lock 0 (λ v a. Reaches opening v others (advance_at m value x.local (InAlloc GiveDry) a)) t (pool_below m t)
    (at_GiveDry w x others is s, quietly opening w (set_lock w pool_lock 0) value x others (InAlloc GiveDry) Done is ac (unseen-lock w pool_lock 0) refl refl)

pub leads_GiveAway : (away : Away) → AtSpot (InPutAway GiveAway away)
unfolding world_of world_from
leads_GiveAway away opening m value words x others t is s ac =
    let w = world_of m value words in
    lock_store m value words (node_lock x.local.cache) 0 (λ v a. Reaches opening v others (advance_at m value x.local (InPutAway GiveAway away) a)) t (node_below m x.local.cache t (plain_here m value words x others (rw is refl) s).0)
    (at_GiveAway w x others away is s, quietly opening w (set_lock w (node_lock x.local.cache) 0) value x others (InPutAway GiveAway away) Done is ac (unseen-lock w (node_lock x.local.cache) 0) refl refl)

pub leads_GiveDiscard : (discard : Discard) → AtSpot (InDiscard GiveDiscard discard)
unfolding world_of world_from
leads_GiveDiscard discard opening m value words x others t is s ac =
    let w = world_of m value words in
    lock_store m value words pool_lock 0 (λ v a. Reaches opening v others (advance_at m value x.local (InDiscard GiveDiscard discard) a)) t (pool_below m t)
    (at_GiveDiscard w x others discard is s, quietly opening w (set_lock w pool_lock 0) value x others (InDiscard GiveDiscard discard) Done is ac (unseen-lock w pool_lock 0) refl refl)

pub leads_GoBack : AtSpot (InFree GoBack)
unfolding world_of world_from
leads_GoBack opening m value words x others t is s ac =
    let w = world_of m value words in
    lock_store m value words (node_lock x.local.cache) 0 (λ v a. Reaches opening v others (advance_at m value x.local (InFree GoBack) a)) t (node_below m x.local.cache t (plain_here m value words x others (rw is refl) s).0)
    (at_GoBack w x others is s, quietly opening w (set_lock w (node_lock x.local.cache) 0) value x others (InFree GoBack) Done is ac (unseen-lock w (node_lock x.local.cache) 0) refl refl)

pub leads_GiveFree : AtSpot (InFree GiveFree)
unfolding world_of world_from
leads_GiveFree opening m value words x others t is s ac =
    let w = world_of m value words in
    lock_store m value words (node_lock x.local.cache) 0 (λ v a. Reaches opening v others (advance_at m value x.local (InFree GiveFree) a)) t (node_below m x.local.cache t (plain_here m value words x others (rw is refl) s).0)
    (at_GiveFree w x others is s, quietly opening w (set_lock w (node_lock x.local.cache) 0) value x others (InFree GiveFree) Done is ac (unseen-lock w (node_lock x.local.cache) 0) refl refl)

pub leads_GiveMove : (move : MoveSet) → AtSpot (InMoveSet GiveMove move)
unfolding world_of world_from
leads_GiveMove move opening m value words x others t is s ac =
    let w = world_of m value words in
    lock_store m value words (node_lock x.local.cache) 0 (λ v a. Reaches opening v others (advance_at m value x.local (InMoveSet GiveMove move) a)) t (node_below m x.local.cache t (plain_here m value words x others (rw is refl) s).0)
    (at_GiveMove w x others move is s, tale_GiveMove opening w (set_lock w (node_lock x.local.cache) 0) value x others move is (unseen-lock w (node_lock x.local.cache) 0) ac)

pub leads_GiveTrim : AtSpot (InTrim GiveTrim)
unfolding world_of world_from
leads_GiveTrim opening m value words x others t is s ac =
    let w = world_of m value words in
    lock_store m value words (node_lock x.local.cache) 0 (λ v a. Reaches opening v others (advance_at m value x.local (InTrim GiveTrim) a)) t (node_below m x.local.cache t (plain_here m value words x others (rw is refl) s).0)
    (at_GiveTrim w x others is s, (record x { local = told (advance_at m value x.local (InTrim GiveTrim) Done) }, refl, told_GiveTrim opening w x others (node_lock x.local.cache) 0 is s ac))

pub leads_GiveRun : (kind : CallKind) → AtSpot (InChecked GiveRun kind)
unfolding world_of world_from
leads_GiveRun kind opening m value words x others t is s ac =
    let w = world_of m value words in
    lock_store m value words pool_lock 0 (λ v a. Reaches opening v others (advance_at m value x.local (InChecked GiveRun kind) a)) t (pool_below m t)
    (at_GiveRun w x others kind is s, quietly opening w (set_lock w pool_lock 0) value x others (InChecked GiveRun kind) Done is ac (unseen-lock w pool_lock 0) refl refl)

pub leads_GiveChecked : (kind : CallKind) → AtSpot (InChecked GiveChecked kind)
unfolding world_of world_from
leads_GiveChecked kind opening m value words x others t is s ac =
    let w = world_of m value words in
    lock_store m value words (node_lock x.local.cache) 0 (λ v a. Reaches opening v others (advance_at m value x.local (InChecked GiveChecked kind) a)) t (node_below m x.local.cache t (checked_here m value words x others (rw is refl) s).0)
    (at_GiveChecked w x others kind is s, quietly opening w (set_lock w (node_lock x.local.cache) 0) value x others (InChecked GiveChecked kind) Done is ac (unseen-lock w (node_lock x.local.cache) 0) refl refl)
