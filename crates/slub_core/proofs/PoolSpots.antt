-- At once, under the pool's lock, spot by spot: a run is taken, or put back.
use Rattle.std.proofs.Common.{◌≡◌, ℕ, suc, ◌+◌, ◌^◌, ◌<◌, ◌≤◌, ◌&&◌, Bool, true, false, Option, Some, None, List, ◌∷◌, length, refl, sym, ap, arith, inl, inr}
use Rattle.std.specs.Prelude.{All, IsSome, nat_lt}
use Rattle.std.proofs.lemmas.Bool.{cases_lt, lt-ltb, false≢true}
use Rattle.std.proofs.lemmas.List.Elements.{All-head}
use Rattle.slub_common.specs.Times.{times}
use Rattle.slub_object_layout.specs.declared.layout.Layout.{Layout}
use Rattle.slub_object_layout.specs.Layout.{IsWithinBounds, IsSized}
use Rattle.slub_page_pool.specs.FreeFrames.{FreeFrames, IsPool}
use Rattle.slub_page_pool.specs.Block.{CanPut, less_run}
use Rattle.slub_page_pool.proofs.FreeRuns.{IsTaken-free, IsTaken-aligned}
use Rattle.slub_page_pool.proofs.Steps.{IsTaken-within, IsPool-less_run, IsPool-with_run}
use Rattle.slub_common.proofs.Times.{times-rising}
use Rattle.slub_core.specs.declared.call.CallKind.{CallKind}
use Rattle.slub_core.specs.declared.call.CallKind.TheVariants.{Alloc, Free, Write, Read, Poke, Trim, Flush}
use Rattle.slub_core.specs.declared.local.Known.{Known}
use Rattle.slub_core.specs.declared.local.FrameRun.{FrameRun}
use Rattle.slub_core.specs.declared.spot.Spot.TheVariants.{InAlloc, InDiscard, InChecked}
use Rattle.slub_core.specs.declared.spot.AllocSpot.TheVariants.{TakeRun, GivePool, GiveDry}
use Rattle.slub_core.specs.declared.spot.Discard.{Discard}
use Rattle.slub_core.specs.declared.spot.DiscardSpot.TheVariants.{PutRun, GiveDiscard}
use Rattle.slub_core.specs.declared.spot.CheckedSpot.TheVariants.{MoveRun, AddSlab, GiveRun}
use Rattle.slub_core.specs.Setup.{node_lock, pool_lock}
use Rattle.slub_core.specs.World.{World, LockValue, Pool, update, set_value, cache_at, objects_at, frames_in, pool_of, one_if, order_at, covers}
use Rattle.slub_core.specs.Local.{Local, Worker, run_in, run_of, at, stays}
use Rattle.slub_core.specs.Alloc.{found_run, noted_dry, run_taken, way_of_run, alloc_at_once, node_of, pool_with}
use Rattle.slub_core.specs.Discard.{with_put, discard_at_once}
use Rattle.slub_core.specs.Checked.{move_run, way_of_found, checked_at_once}
use Rattle.slub_core.specs.Spots.{beside_discard, has_run, scans}
use Rattle.slub_core.specs.Listed.{takes, covered_by}
use Rattle.slub_core.specs.Fresh.{IsRun, IsHeldRun, IsHeldString, AreHeld, IsAtWork}
use Rattle.slub_core.specs.Coherent.{Stands}
use Rattle.slub_core.proofs.Counts.{roles-cons}
use Rattle.slub_core.proofs.Pools.{IsFound, AllFound, all-found, dry-pool, in-run-yes, times-less, times-with}
use Rattle.slub_core.proofs.RemakeStep.{run-first, pow-some}
use Rattle.slub_core.proofs.UnderLock.{Makes, pool-is, pool_step, known-same, locks-same}
use Rattle.slub_core.proofs.Update.{update_other, term_le_sum}
use Rattle.slub_core.proofs.StepValues.{word-objects}

-- ---- frames that are free, or in a run in hand

bit-most : (a b : Bool) → one_if (a && b) ≤ 1
bit-most true true = omega arith
bit-most true false = omega arith
bit-most false b = omega arith

-- no slab begins at a free frame
pub free-unslabbed : (w : World) (xs : List Worker) (f : ℕ) → Stands w xs → f < w.setup.frames → 1 ≤ times f (pool_of w).free → objects_at w f ≡ 0
free-unslabbed w xs f s below free = elim (cases_lt 0 (objects_at w f)) [
  | inl l ↦ absurd (
      let o = s.listed.framed f in
      let t = term_le_sum w.setup.frames (λ h. covers w f h) f below in
      let here : covers w f f ≡ 1 = rw (lt-ltb 0 (objects_at w f) l) (run-first f (order_at w f)) in
      let one = bit-most (nat_lt 0 f) (nat_lt f w.setup.frames) in
      omega arith)
  | inr g ↦ omega arith
]

-- the pool, as the value of its lock
pub the-pool : (w : World) (xs : List Worker) → Stands w xs → IsPool (pool_of w) × ((pool_of w).frames ≡ w.setup.frames)
the-pool w xs s = let count = s.fresh.setup.locks in let r = pool-is w.setup (w.value pool_lock) (s.listed.shaped.guarded pool_lock (omega arith)) in (r.1, r.2)

-- a run that is found is one that a worker may have in hand
pub found-held : (w : World) (xs : List Worker) (cache : ℕ) (run : FrameRun) → Stands w xs → IsFound (pool_of w) (w.setup.layout cache) run → IsHeldRun w cache (Some run) 0
found-held w xs cache run s found =
    let p = the-pool w xs s in
    let within = IsTaken-within p.0 found.taken in
    let some = pow-some run.order in
    let free = times-rising run.frame (pool_of w).free p.0.rising (IsTaken-free found.taken run.frame (omega arith) (omega arith)) in
    let none = free-unslabbed w xs run.frame s (let e = p.1 in let i = within.1 in omega arith) (omega arith) in
    (record { first = within.0; inside = rw (sym p.1) within.1; aligned = IsTaken-aligned found.taken; sized = found.sized }, unworded none, λ i below. absurd (omega arith))
  where
    unworded : objects_at w run.frame ≡ 0 → (w.slab run.frame).objects ≡ 0
    unworded none = elim (cases_lt 0 (w.slab run.frame).objects) [
      | inl l ↦ absurd (let e = word-objects w run.frame (omega arith) in omega arith)
      | inr g ↦ omega arith
    ]

-- the frames of a run in hand aren't free
pub none-free : (w : World) (x : Worker) (others : List Worker) (run : FrameRun) → Stands w (x ∷ others) → x.local.run ≡ Some run → (g : ℕ) → run.frame ≤ g → g < run.frame + 2 ^ run.order → times g (pool_of w).free ≡ 0
none-free w x others run s has g low high =
    let c = roles-cons w x others g in
    let o = s.listed.framed g in
    let mine : covered_by g x.local.run ≡ 1 = rw has (in-run-yes g run.frame run.order low high) in
    let one = bit-most (nat_lt 0 g) (nat_lt g w.setup.frames) in
    omega arith

-- a run in hand can be put back
pub can-put : (w : World) (x : Worker) (others : List Worker) (run : FrameRun) → Stands w (x ∷ others) → x.local.run ≡ Some run → run.order ≤ 10 → IsRun w.setup x.local.cache run → CanPut (pool_of w) run.frame run.order
can-put w x others run s has small is =
    let p = the-pool w (x ∷ others) s in
    record {
      small = small;
      aligned = is.aligned;
      positive = is.first;
      inside = rw p.1 is.inside;
      none_free = λ g low high found. absurd (let one = times-rising g (pool_of w).free p.0.rising found in let z = none-free w x others run s has g low high in omega arith);
    }

-- orders are small
pub sized-small : (layout : Layout) (order objects : ℕ) → IsWithinBounds layout → IsSized layout order objects → order ≤ 10
sized-small layout order objects b (inl usual) = omega (arith, usual.0, b.order)
sized-small layout order objects b (inr least) = omega (arith, least.0, b.min_order, b.order)

-- ---- a run is taken (`allocate_slab`)

none-work : (w : World) (x : Worker) (n : ℕ) (v : LockValue) → x.local.spot ≡ InAlloc TakeRun → All (λ (k : Known). k.held ≡ true → k.cache ≡ cache_at (set_value w n v) k.frame) x.local.known
    → ((n : ℕ) → 1 ≤ takes n (record x { local = at x.local (InAlloc GiveDry) }) → w.lock n ≡ suc x.local.worker) → IsAtWork w x
    → IsAtWork (set_value w n v) (record x { local = at x.local (InAlloc GiveDry) })
none-work w x n v is known locks ok = grind arith

run-work : (w : World) (x : Worker) (n : ℕ) (v : LockValue) (run : FrameRun) → x.local.spot ≡ InAlloc TakeRun → All (λ (k : Known). k.held ≡ true → k.cache ≡ cache_at (set_value w n v) k.frame) x.local.known
    → IsHeldRun (set_value w n v) x.local.cache (Some run) 0
    → ((n : ℕ) → 1 ≤ takes n (record x { local = record x.local { run = Some run; spot = InAlloc GivePool } }) → w.lock n ≡ suc x.local.worker) → IsAtWork w x
    → IsAtWork (set_value w n v) (record x { local = record x.local { run = Some run; spot = InAlloc GivePool } })
run-work w x n v run is known held locks ok = grind arith

pub at_TakeRun : (w : World) (x : Worker) (others : List Worker) → x.local.spot ≡ InAlloc TakeRun → Stands w (x ∷ others)
    → Makes w others (alloc_at_once w.setup w.value x.local TakeRun)
at_TakeRun w x others is s =
    let ok = All-head (IsAtWork w) x others s.fresh.workers in
    let plain = ok.spot.plain (rw is refl) in
    let layout = s.fresh.setup.layout x.local.cache plain.1 in
    let p = the-pool w (x ∷ others) s in
    by_found (found_run w.setup (pool_of w) (w.setup.layout x.local.cache)) (all-found w.setup (pool_of w) (w.setup.layout x.local.cache) p.0 (omega (arith, layout.order)) (omega (arith, layout.min_order, layout.order))) ok
  where
    by_found : (found : Option FrameRun) → AllFound (pool_of w) (w.setup.layout x.local.cache) found → IsAtWork w x → Makes w others (run_taken w.value (pool_of w) (w.setup.layout x.local.cache) (at x.local (way_of_run found)) found)
    by_found None all ok =
        let p = the-pool w (x ∷ others) s in
        let pool = noted_dry (pool_of w) (w.setup.layout x.local.cache).min_order in
        let z : Worker = record x { local = at x.local (InAlloc GiveDry) } in
        let same : (k : ℕ) → takes k z ≡ takes k x = λ k. rw is refl in (
          z,
          refl,
          pool_step w x z others pool s (rw is refl) (dry-pool (pool_of w) (w.setup.layout x.local.cache).min_order p.0) refl
              (λ f i. refl) (λ f. refl) (λ f. rw is refl) (λ g. refl) same
              (λ slabs. none-work w x pool_lock (Pool pool) is (known-same w pool_lock (Pool pool) x slabs ok) (locks-same w x z refl same ok) ok),
        )
    by_found (Some run) found ok =
        let p = the-pool w (x ∷ others) s in
        let pool : FreeFrames = record (pool_of w) { free = less_run (pool_of w).free run.frame run.order } in
        let z : Worker = record x { local = record x.local { run = Some run; spot = InAlloc GivePool } } in
        let same : (k : ℕ) → takes k z ≡ takes k x = λ k. rw is refl in
        let none : x.local.run ≡ None = ok.spot.no_run (rw is refl) in
        let held : IsHeldRun (set_value w pool_lock (Pool pool)) x.local.cache (Some run) 0 = found-held w (x ∷ others) x.local.cache run s found in (
          z,
          refl,
          pool_step w x z others pool s (rw is refl) (IsPool-less_run p.0 run.frame run.order) refl
              (λ f i. refl) (λ f. refl) (λ f. rw is refl)
              (λ g. let t = times-less (pool_of w) g run.frame run.order p.0 found.taken in rw none (omega arith)) same
              (λ slabs. run-work w x pool_lock (Pool pool) run is (known-same w pool_lock (Pool pool) x slabs ok) held (locks-same w x z refl same ok) ok),
        )

-- ---- a run is put back (`__free_pages`)

put-work : (w : World) (x : Worker) (n : ℕ) (v : LockValue) (discard : Discard) → x.local.spot ≡ InDiscard PutRun discard → All (λ (k : Known). k.held ≡ true → k.cache ≡ cache_at (set_value w n v) k.frame) x.local.known
    → AreHeld (set_value w n v) x.local.cache (beside_discard discard) x.local.hands x.chains 0 → IsHeldString (set_value w n v) x.local.cache x.local.string x.string
    → (scans (InDiscard GiveDiscard discard) ≡ true → length x.local.scanned ≤ length (node_of (update w.value n v) x.local))
    → ((n : ℕ) → 1 ≤ takes n (record x { local = record x.local { run = None; spot = InDiscard GiveDiscard discard } }) → w.lock n ≡ suc x.local.worker) → IsAtWork w x
    → IsAtWork (set_value w n v) (record x { local = record x.local { run = None; spot = InDiscard GiveDiscard discard } })
put-work w x n v discard is known hands string scan locks ok = grind arith

pub some-run : (run : Option FrameRun) → IsSome run → run ≡ Some (run_in run)
some-run None some = absurd (false≢true some)
some-run (Some run) some = refl

-- what putting a run back does to the pool
pub put-pool : (w : World) (x : Worker) (others : List Worker) (run : FrameRun) → Stands w (x ∷ others) → x.local.run ≡ Some run → run.order ≤ 10 → IsRun w.setup x.local.cache run
    → IsPool (with_put (pool_of w) run) × ((g : ℕ) → covered_by g None + times g (with_put (pool_of w) run).free ≡ covered_by g x.local.run + times g (pool_of w).free)
put-pool w x others run s has small is =
    let p = the-pool w (x ∷ others) s in (
      IsPool-with_run p.0 (can-put w x others run s has small is),
      λ g. let t = times-with (pool_of w).free g run.frame run.order (none-free w x others run s has) in rw has (omega arith),
    )

-- another node list isn't the pool
node-pool : (w : World) (l : Local) (pool : FreeFrames) → node_of (update w.value pool_lock (Pool pool)) l ≡ node_of w.value l
node-pool w l pool = ap frames_in (update_other w.value pool_lock (Pool pool) (node_lock l.cache) (λ e. absurd (omega arith)))

pub at_PutRun : (w : World) (x : Worker) (others : List Worker) (discard : Discard) → x.local.spot ≡ InDiscard PutRun discard → Stands w (x ∷ others)
    → Makes w others (discard_at_once w.value x.local PutRun discard)
at_PutRun w x others discard is s =
    let ok = All-head (IsAtWork w) x others s.fresh.workers in
    by_run (run_of x.local) (some-run x.local.run (ok.spot.run (rw is refl))) ok
  where
    by_run : (run : FrameRun) → x.local.run ≡ Some run → IsAtWork w x → Makes w others (stays (pool_with w.value (with_put (pool_of w) run)) (record x.local { run = None; spot = InDiscard GiveDiscard discard }))
    by_run run has ok =
        let plain = ok.spot.plain (rw is refl) in
        let layout = s.fresh.setup.layout x.local.cache plain.1 in
        let seen : IsHeldRun w x.local.cache (Some run) 0 = rw (is, has) at ok.seen.run in
        let small = sized-small (record (w.setup.layout x.local.cache) { min_partial = 5; cpu_partial_slabs = 0 }) run.order run.objects layout seen.0.sized in
        let put = put-pool w x others run s has small seen.0 in
        let pool = with_put (pool_of w) run in
        let z : Worker = record x { local = record x.local { run = None; spot = InDiscard GiveDiscard discard } } in
        let same : (k : ℕ) → takes k z ≡ takes k x = λ k. rw is refl in
        let hands : AreHeld (set_value w pool_lock (Pool pool)) x.local.cache (beside_discard discard) x.local.hands x.chains 0 = rw is at ok.seen.hands in
        let string : IsHeldString (set_value w pool_lock (Pool pool)) x.local.cache x.local.string x.string = ok.seen.string in
        let list = node-pool w x.local pool in (
          z,
          refl,
          pool_step w x z others pool s (rw is refl) put.0 refl
              (λ f i. refl) (λ f. refl) (λ f. rw is refl) put.1 same
              (λ slabs. put-work w x pool_lock (Pool pool) discard is (known-same w pool_lock (Pool pool) x slabs ok) hands string (λ e. rw list (ok.seen.scan (rw is e))) (locks-same w x z refl same ok) ok),
        )

-- ---- for a checked cache

dry-work : (w : World) (x : Worker) (n : ℕ) (v : LockValue) → x.local.spot ≡ InChecked MoveRun Alloc → All (λ (k : Known). k.held ≡ true → k.cache ≡ cache_at (set_value w n v) k.frame) x.local.known
    → ((n : ℕ) → 1 ≤ takes n (record x { local = at x.local (InChecked GiveRun Alloc) }) → w.lock n ≡ suc x.local.worker) → IsAtWork w x
    → IsAtWork (set_value w n v) (record x { local = at x.local (InChecked GiveRun Alloc) })
dry-work w x n v is known locks ok = grind arith

add-work : (w : World) (x : Worker) (n : ℕ) (v : LockValue) (run : FrameRun) → x.local.spot ≡ InChecked MoveRun Alloc → All (λ (k : Known). k.held ≡ true → k.cache ≡ cache_at (set_value w n v) k.frame) x.local.known
    → IsHeldRun (set_value w n v) x.local.cache (Some run) 0
    → ((n : ℕ) → 1 ≤ takes n (record x { local = record x.local { run = Some run; spot = InChecked AddSlab Alloc } }) → w.lock n ≡ suc x.local.worker) → IsAtWork w x
    → IsAtWork (set_value w n v) (record x { local = record x.local { run = Some run; spot = InChecked AddSlab Alloc } })
add-work w x n v run is known held locks ok = grind arith

back-work : (w : World) (x : Worker) (n : ℕ) (v : LockValue) (kind : CallKind) → x.local.spot ≡ InChecked MoveRun kind → All (λ (k : Known). k.held ≡ true → k.cache ≡ cache_at (set_value w n v) k.frame) x.local.known
    → ((n : ℕ) → 1 ≤ takes n (record x { local = record x.local { run = None; spot = InChecked GiveRun kind } }) → w.lock n ≡ suc x.local.worker) → IsAtWork w x
    → IsAtWork (set_value w n v) (record x { local = record x.local { run = None; spot = InChecked GiveRun kind } })
back-work w x n v kind is known locks ok = grind arith

at_MoveRun-alloc : (w : World) (x : Worker) (others : List Worker) → x.local.spot ≡ InChecked MoveRun Alloc → Stands w (x ∷ others) → Makes w others (move_run w.setup w.value x.local Alloc (pool_of w))
at_MoveRun-alloc w x others is s =
    let ok = All-head (IsAtWork w) x others s.fresh.workers in
    let checked = ok.spot.checked (rw is refl) in
    let layout = s.fresh.setup.layout x.local.cache checked.1 in
    let p = the-pool w (x ∷ others) s in
    by_found (found_run w.setup (pool_of w) (w.setup.layout x.local.cache)) (all-found w.setup (pool_of w) (w.setup.layout x.local.cache) p.0 (omega (arith, layout.order)) (omega (arith, layout.min_order, layout.order))) ok
  where
    by_found : (found : Option FrameRun) → AllFound (pool_of w) (w.setup.layout x.local.cache) found → IsAtWork w x → Makes w others (run_taken w.value (pool_of w) (w.setup.layout x.local.cache) (at x.local (way_of_found found)) found)
    by_found None all ok =
        let p = the-pool w (x ∷ others) s in
        let pool = noted_dry (pool_of w) (w.setup.layout x.local.cache).min_order in
        let z : Worker = record x { local = at x.local (InChecked GiveRun Alloc) } in
        let same : (k : ℕ) → takes k z ≡ takes k x = λ k. rw is refl in (
          z,
          refl,
          pool_step w x z others pool s (rw is refl) (dry-pool (pool_of w) (w.setup.layout x.local.cache).min_order p.0) refl
              (λ f i. refl) (λ f. refl) (λ f. rw is refl) (λ g. refl) same
              (λ slabs. dry-work w x pool_lock (Pool pool) is (known-same w pool_lock (Pool pool) x slabs ok) (locks-same w x z refl same ok) ok),
        )
    by_found (Some run) found ok =
        let p = the-pool w (x ∷ others) s in
        let pool : FreeFrames = record (pool_of w) { free = less_run (pool_of w).free run.frame run.order } in
        let z : Worker = record x { local = record x.local { run = Some run; spot = InChecked AddSlab Alloc } } in
        let same : (k : ℕ) → takes k z ≡ takes k x = λ k. rw is refl in
        let none : x.local.run ≡ None = ok.spot.no_run (rw is refl) in
        let held : IsHeldRun (set_value w pool_lock (Pool pool)) x.local.cache (Some run) 0 = found-held w (x ∷ others) x.local.cache run s found in (
          z,
          refl,
          pool_step w x z others pool s (rw is refl) (IsPool-less_run p.0 run.frame run.order) refl
              (λ f i. refl) (λ f. refl) (λ f. rw is refl)
              (λ g. let t = times-less (pool_of w) g run.frame run.order p.0 found.taken in rw none (omega arith)) same
              (λ slabs. add-work w x pool_lock (Pool pool) run is (known-same w pool_lock (Pool pool) x slabs ok) held (locks-same w x z refl same ok) ok),
        )

at_MoveRun-back : (w : World) (x : Worker) (others : List Worker) (kind : CallKind) → x.local.spot ≡ InChecked MoveRun kind → has_run (InChecked MoveRun kind) ≡ true → Stands w (x ∷ others)
    → Makes w others (stays (pool_with w.value (with_put (pool_of w) (run_of x.local))) (record x.local { run = None; spot = InChecked GiveRun kind }))
at_MoveRun-back w x others kind is has_one s =
    let ok = All-head (IsAtWork w) x others s.fresh.workers in
    by_run (run_of x.local) (some-run x.local.run (ok.spot.run (rw is has_one))) ok
  where
    by_run : (run : FrameRun) → x.local.run ≡ Some run → IsAtWork w x → Makes w others (stays (pool_with w.value (with_put (pool_of w) run)) (record x.local { run = None; spot = InChecked GiveRun kind }))
    by_run run has ok =
        let checked = ok.spot.checked (rw is refl) in
        let layout = s.fresh.setup.layout x.local.cache checked.1 in
        let seen : IsHeldRun w x.local.cache (Some run) 0 = rw (is, has) at ok.seen.run in
        let small = sized-small (record (w.setup.layout x.local.cache) { min_partial = 5; cpu_partial_slabs = 0 }) run.order run.objects layout seen.0.sized in
        let put = put-pool w x others run s has small seen.0 in
        let pool = with_put (pool_of w) run in
        let z : Worker = record x { local = record x.local { run = None; spot = InChecked GiveRun kind } } in
        let same : (k : ℕ) → takes k z ≡ takes k x = λ k. rw is refl in (
          z,
          refl,
          pool_step w x z others pool s (rw is refl) put.0 refl
              (λ f i. refl) (λ f. refl) (λ f. rw is refl) put.1 same
              (λ slabs. back-work w x pool_lock (Pool pool) kind is (known-same w pool_lock (Pool pool) x slabs ok) (locks-same w x z refl same ok) ok),
        )

pub at_MoveRun : (w : World) (x : Worker) (others : List Worker) (refused : Bool) (kind : CallKind) → x.local.spot ≡ InChecked MoveRun kind → Stands w (x ∷ others)
    → Makes w others (checked_at_once w.setup refused w.value x.local MoveRun kind)
at_MoveRun w x others refused Alloc is s = at_MoveRun-alloc w x others is s
at_MoveRun w x others refused Free is s = at_MoveRun-back w x others Free is refl s
at_MoveRun w x others refused Write is s = at_MoveRun-back w x others Write is refl s
at_MoveRun w x others refused Read is s = at_MoveRun-back w x others Read is refl s
at_MoveRun w x others refused Poke is s = at_MoveRun-back w x others Poke is refl s
at_MoveRun w x others refused Trim is s = at_MoveRun-back w x others Trim is refl s
at_MoveRun w x others refused Flush is s = at_MoveRun-back w x others Flush is refl s
