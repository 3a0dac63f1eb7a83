-- Kind 13, spot by spot: a free lock is taken. A lock that isn't free is tried again, and nothing has changed.
use Rattle.std.proofs.Common.{◌≡◌, ℕ, suc, List, [], ◌∷◌, refl, arith}
use Rattle.std.proofs.lemmas.List.Elements.{All-head}
use Rattle.slub_core.specs.declared.call.CallKind.{CallKind}
use Rattle.slub_core.specs.declared.step.Answer.TheVariants.{Won}
use Rattle.slub_core.specs.declared.spot.Spot.TheVariants.{InAlloc, InPutAway, InDiscard, InFree, InMoveSet, InTrim, InChecked}
use Rattle.slub_core.specs.declared.spot.AllocSpot.TheVariants.{LockNode, PopNode, LockPool, TakeRun}
use Rattle.slub_core.specs.declared.spot.Away.{Away}
use Rattle.slub_core.specs.declared.spot.PutAwaySpot.TheVariants.{LockAway, LoadAway}
use Rattle.slub_core.specs.declared.spot.Discard.{Discard}
use Rattle.slub_core.specs.declared.spot.DiscardSpot.TheVariants.{LockDiscard, PutRun}
use Rattle.slub_core.specs.declared.spot.FreeSpot.TheVariants.{LockFree, LoadLocked}
use Rattle.slub_core.specs.declared.spot.MoveSet.{MoveSet}
use Rattle.slub_core.specs.declared.spot.MoveSetSpot.TheVariants.{LockMove, ChooseFront}
use Rattle.slub_core.specs.declared.spot.TrimSpot.TheVariants.{LockTrim, ScanNode}
use Rattle.slub_core.specs.declared.spot.CheckedSpot.TheVariants.{LockChecked, DoChecked, LockRun, MoveRun}
use Rattle.slub_core.specs.Setup.{node_lock, pool_lock}
use Rattle.slub_core.specs.World.{World, set_lock}
use Rattle.slub_core.specs.Local.{Worker, at}
use Rattle.slub_core.specs.Alloc.{alloc_advance}
use Rattle.slub_core.specs.PutAway.{put_away_advance}
use Rattle.slub_core.specs.Discard.{discard_advance}
use Rattle.slub_core.specs.Free.{free_advance}
use Rattle.slub_core.specs.MoveSet.{move_set_advance}
use Rattle.slub_core.specs.Offline.{trim_advance}
use Rattle.slub_core.specs.Checked.{checked_advance}
use Rattle.slub_core.specs.Fresh.{IsAtWork}
use Rattle.slub_core.specs.Coherent.{Stands}
use Rattle.slub_core.proofs.Locks.{ComesTo, lent, take-node, take-pool}

lock_node-work : (w : World) (x : Worker) → x.local.spot ≡ InAlloc LockNode → ((n : ℕ) → w.lock n ≡ suc x.local.worker) → IsAtWork w x → IsAtWork w (record x { local = record x.local { put = 0; spot = InAlloc PopNode } })
lock_node-work w x is locks ok = grind arith

pub at_LockNode : (w : World) (x : Worker) (others : List Worker) → x.local.spot ≡ InAlloc LockNode → w.lock (node_lock x.local.cache) ≡ 0 → Stands w (x ∷ others)
    → ComesTo (set_lock w (node_lock x.local.cache) (suc x.local.worker)) others (alloc_advance w.setup x.local LockNode Won).local
at_LockNode w x others is free s =
    let cache = ((All-head (IsAtWork w) x others s.fresh.workers).spot.plain (rw is refl)).0 in
    (record x { local = record x.local { put = 0; spot = InAlloc PopNode } }, refl, take-node w x _ others s cache free (record { owned = λ f i. refl; home = λ f. refl; marked = λ f. rw is refl; covered = λ g. refl }) (rw is refl) (rw is refl) refl refl refl refl (lock_node-work (lent w x.local.worker) x is (λ n. refl)))

lock_pool-work : (w : World) (x : Worker) → x.local.spot ≡ InAlloc LockPool → ((n : ℕ) → w.lock n ≡ suc x.local.worker) → IsAtWork w x → IsAtWork w (record x { local = at x.local (InAlloc TakeRun) })
lock_pool-work w x is locks ok = grind arith

pub at_LockPool : (w : World) (x : Worker) (others : List Worker) → x.local.spot ≡ InAlloc LockPool → w.lock pool_lock ≡ 0 → Stands w (x ∷ others)
    → ComesTo (set_lock w pool_lock (suc x.local.worker)) others (alloc_advance w.setup x.local LockPool Won).local
at_LockPool w x others is free s =
    (record x { local = at x.local (InAlloc TakeRun) }, refl, take-pool w x _ others s free (record { owned = λ f i. refl; home = λ f. refl; marked = λ f. rw is refl; covered = λ g. refl }) (rw is refl) refl (rw is refl) refl refl (lock_pool-work (lent w x.local.worker) x is (λ n. refl)))

lock_away-work : (w : World) (x : Worker) (away : Away) → x.local.spot ≡ InPutAway LockAway away → ((n : ℕ) → w.lock n ≡ suc x.local.worker) → IsAtWork w x → IsAtWork w (record x { local = at x.local (InPutAway LoadAway away) })
lock_away-work w x away is locks ok = grind arith

pub at_LockAway : (w : World) (x : Worker) (others : List Worker) (away : Away) → x.local.spot ≡ InPutAway LockAway away → w.lock (node_lock x.local.cache) ≡ 0 → Stands w (x ∷ others)
    → ComesTo (set_lock w (node_lock x.local.cache) (suc x.local.worker)) others (put_away_advance w.setup w.value x.local LockAway away Won).local
at_LockAway w x others away is free s =
    let cache = ((All-head (IsAtWork w) x others s.fresh.workers).spot.plain (rw is refl)).0 in
    (record x { local = at x.local (InPutAway LoadAway away) }, refl, take-node w x _ others s cache free (record { owned = λ f i. refl; home = λ f. refl; marked = λ f. rw is refl; covered = λ g. refl }) (rw is refl) (rw is refl) refl refl refl refl (lock_away-work (lent w x.local.worker) x away is (λ n. refl)))

lock_discard-work : (w : World) (x : Worker) (discard : Discard) → x.local.spot ≡ InDiscard LockDiscard discard → ((n : ℕ) → w.lock n ≡ suc x.local.worker) → IsAtWork w x → IsAtWork w (record x { local = at x.local (InDiscard PutRun discard) })
lock_discard-work w x discard is locks ok = grind arith

pub at_LockDiscard : (w : World) (x : Worker) (others : List Worker) (discard : Discard) → x.local.spot ≡ InDiscard LockDiscard discard → w.lock pool_lock ≡ 0 → Stands w (x ∷ others)
    → ComesTo (set_lock w pool_lock (suc x.local.worker)) others (discard_advance w.setup x.local LockDiscard discard Won).local
at_LockDiscard w x others discard is free s =
    (record x { local = at x.local (InDiscard PutRun discard) }, refl, take-pool w x _ others s free (record { owned = λ f i. refl; home = λ f. refl; marked = λ f. rw is refl; covered = λ g. refl }) (rw is refl) refl (rw is refl) refl refl (lock_discard-work (lent w x.local.worker) x discard is (λ n. refl)))

lock_free-work : (w : World) (x : Worker) → x.local.spot ≡ InFree LockFree → ((n : ℕ) → w.lock n ≡ suc x.local.worker) → IsAtWork w x → IsAtWork w (record x { local = at x.local (InFree LoadLocked) })
lock_free-work w x is locks ok = grind arith

pub at_LockFree : (w : World) (x : Worker) (others : List Worker) → x.local.spot ≡ InFree LockFree → w.lock (node_lock x.local.cache) ≡ 0 → Stands w (x ∷ others)
    → ComesTo (set_lock w (node_lock x.local.cache) (suc x.local.worker)) others (free_advance w.setup x.local LockFree Won).local
at_LockFree w x others is free s =
    let cache = ((All-head (IsAtWork w) x others s.fresh.workers).spot.plain (rw is refl)).0 in
    (record x { local = at x.local (InFree LoadLocked) }, refl, take-node w x _ others s cache free (record { owned = λ f i. refl; home = λ f. refl; marked = λ f. rw is refl; covered = λ g. refl }) (rw is refl) (rw is refl) refl refl refl refl (lock_free-work (lent w x.local.worker) x is (λ n. refl)))

lock_move-work : (w : World) (x : Worker) (move : MoveSet) → x.local.spot ≡ InMoveSet LockMove move → ((n : ℕ) → w.lock n ≡ suc x.local.worker) → IsAtWork w x → IsAtWork w (record x { local = at x.local (InMoveSet ChooseFront move) })
lock_move-work w x move is locks ok = grind arith

pub at_LockMove : (w : World) (x : Worker) (others : List Worker) (move : MoveSet) → x.local.spot ≡ InMoveSet LockMove move → w.lock (node_lock x.local.cache) ≡ 0 → Stands w (x ∷ others)
    → ComesTo (set_lock w (node_lock x.local.cache) (suc x.local.worker)) others (move_set_advance w.setup w.value x.local LockMove move Won).local
at_LockMove w x others move is free s =
    let cache = ((All-head (IsAtWork w) x others s.fresh.workers).spot.plain (rw is refl)).0 in
    (record x { local = at x.local (InMoveSet ChooseFront move) }, refl, take-node w x _ others s cache free (record { owned = λ f i. refl; home = λ f. refl; marked = λ f. rw is refl; covered = λ g. refl }) (rw is refl) (rw is refl) refl refl refl refl (lock_move-work (lent w x.local.worker) x move is (λ n. refl)))

lock_trim-work : (w : World) (x : Worker) → x.local.spot ≡ InTrim LockTrim → ((n : ℕ) → w.lock n ≡ suc x.local.worker) → IsAtWork w x → IsAtWork w (record x { local = record x.local { scanned = []; spot = InTrim ScanNode } })
lock_trim-work w x is locks ok = grind arith

pub at_LockTrim : (w : World) (x : Worker) (others : List Worker) → x.local.spot ≡ InTrim LockTrim → w.lock (node_lock x.local.cache) ≡ 0 → Stands w (x ∷ others)
    → ComesTo (set_lock w (node_lock x.local.cache) (suc x.local.worker)) others (trim_advance x.local LockTrim Won).local
at_LockTrim w x others is free s =
    let cache = ((All-head (IsAtWork w) x others s.fresh.workers).spot.plain (rw is refl)).0 in
    (record x { local = record x.local { scanned = []; spot = InTrim ScanNode } }, refl, take-node w x _ others s cache free (record { owned = λ f i. refl; home = λ f. refl; marked = λ f. rw is refl; covered = λ g. refl }) (rw is refl) (rw is refl) refl refl refl refl (lock_trim-work (lent w x.local.worker) x is (λ n. refl)))

lock_checked-work : (w : World) (x : Worker) (kind : CallKind) → x.local.spot ≡ InChecked LockChecked kind → ((n : ℕ) → w.lock n ≡ suc x.local.worker) → IsAtWork w x → IsAtWork w (record x { local = at x.local (InChecked DoChecked kind) })
lock_checked-work w x kind is locks ok = grind arith

pub at_LockChecked : (w : World) (x : Worker) (others : List Worker) (kind : CallKind) → x.local.spot ≡ InChecked LockChecked kind → w.lock (node_lock x.local.cache) ≡ 0 → Stands w (x ∷ others)
    → ComesTo (set_lock w (node_lock x.local.cache) (suc x.local.worker)) others (checked_advance x.local LockChecked kind Won).local
at_LockChecked w x others kind is free s =
    let cache = ((All-head (IsAtWork w) x others s.fresh.workers).spot.checked (rw is refl)).0 in
    (record x { local = at x.local (InChecked DoChecked kind) }, refl, take-node w x _ others s cache free (record { owned = λ f i. refl; home = λ f. refl; marked = λ f. rw is refl; covered = λ g. refl }) (rw is refl) (rw is refl) refl refl refl refl (lock_checked-work (lent w x.local.worker) x kind is (λ n. refl)))

lock_run-work : (w : World) (x : Worker) (kind : CallKind) → x.local.spot ≡ InChecked LockRun kind → ((n : ℕ) → w.lock n ≡ suc x.local.worker) → IsAtWork w x → IsAtWork w (record x { local = at x.local (InChecked MoveRun kind) })
lock_run-work w x kind is locks ok = grind arith

pub at_LockRun : (w : World) (x : Worker) (others : List Worker) (kind : CallKind) → x.local.spot ≡ InChecked LockRun kind → w.lock pool_lock ≡ 0 → Stands w (x ∷ others)
    → ComesTo (set_lock w pool_lock (suc x.local.worker)) others (checked_advance x.local LockRun kind Won).local
at_LockRun w x others kind is free s =
    (record x { local = at x.local (InChecked MoveRun kind) }, refl, take-pool w x _ others s free (record { owned = λ f i. refl; home = λ f. refl; marked = λ f. rw is refl; covered = λ g. refl }) (rw is refl) refl (rw is refl) refl refl (lock_run-work (lent w x.local.worker) x kind is (λ n. refl)))
