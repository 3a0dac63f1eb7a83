-- What the spots of discarding a slab ask: what is counted has room, and its frames can come back to the pool.
use Rattle.std.proofs.Common.{◌≡◌, true, Option, Some, List, ◌∷◌, refl, sym, subst}
use Rattle.slub_page_pool.specs.Block.{CanPut}
use Rattle.slub_core.specs.declared.local.FrameRun.{FrameRun}
use Rattle.slub_core.specs.declared.spot.Spot.TheVariants.{InDiscard}
use Rattle.slub_core.specs.declared.spot.DiscardSpot.{DiscardSpot}
use Rattle.slub_core.specs.declared.spot.DiscardSpot.TheVariants.{Unmake, PutRun}
use Rattle.slub_core.specs.declared.spot.Discard.{Discard}
use Rattle.slub_core.specs.Setup.{pool_lock}
use Rattle.slub_core.specs.World.{World, LockValue, pool_in}
use Rattle.slub_core.specs.Local.{Worker, run_of}
use Rattle.slub_core.specs.Spots.{has_run, stored_in}
use Rattle.slub_core.specs.Fresh.{IsHeldRun}
use Rattle.slub_core.specs.Coherent.{Stands}
use Rattle.slub_core.proofs.Leads.{at_work}
use Rattle.slub_core.proofs.PoolSpots.{can-put, sized-small, some-run}
use Rattle.slub_core.specs.declared.guarded.Guarded.{Guarded}
use Rattle.slub_core.specs.Values.{values_of}
use Rattle.slub_turns.specs.Fits.{StepFits, AtOnceFits, AreValues}
use Rattle.slub_turns.proofs.Counts.{CountsFit}
use Rattle.slub_turns.proofs.Values.{value-at, pool-there}

-- the run in hand of a worker of a live cache can come back to the pool
pub run-can_put : (w : World) (x : Worker) (others : List Worker) (guarded : List Guarded) → w.setup.lives x.local.cache ≡ true → has_run x.local.spot ≡ true → Stands w (x ∷ others) → AreValues w.setup w.value guarded
    → CanPut (pool_in (values_of guarded pool_lock)) (run_of x.local).frame (run_of x.local).order
run-can_put w x others guarded lives has s are =
    let ok = at_work w x others s in
    let run = run_of x.local in
    let some = some-run x.local.run (ok.spot.run has) in
    let seen : IsHeldRun w x.local.cache (Some run) (stored_in x.local.spot run.objects) = subst (λ (r : Option FrameRun). IsHeldRun w x.local.cache r (stored_in x.local.spot run.objects)) some ok.seen.run in
    let layout = s.fresh.setup.layout x.local.cache lives in
    let small = sized-small (record (w.setup.layout x.local.cache) { min_partial = 5; cpu_partial_slabs = 0 }) run.order run.objects layout seen.0.sized in
    subst (λ (v : LockValue). CanPut (pool_in v) run.frame run.order) (sym (value-at w.setup w.value guarded are pool_lock)) (can-put w x others run s some small seen.0)

pub discard_step : (w : World) (x : Worker) (others : List Worker) (a : DiscardSpot) (discard : Discard) → x.local.spot ≡ InDiscard a discard → Stands w (x ∷ others) → CountsFit x.local (InDiscard a discard) → StepFits w.setup.step x.local (InDiscard a discard)
discard_step w x others Unmake discard is s counts = counts
discard_step w x others _ discard is s counts = tt

pub discard_once : (w : World) (x : Worker) (others : List Worker) (guarded : List Guarded) (a : DiscardSpot) (discard : Discard) → x.local.spot ≡ InDiscard a discard → Stands w (x ∷ others) → AreValues w.setup w.value guarded → AtOnceFits guarded x.local (InDiscard a discard)
discard_once w x others guarded PutRun discard is s are =
    let plain = (at_work w x others s).spot.plain (rw is refl) in
    (pool-there w (x ∷ others) guarded s are, run-can_put w x others guarded plain.1 (rw is refl) s are)
discard_once w x others guarded _ discard is s are = tt
