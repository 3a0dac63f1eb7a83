-- What is done at once asks of nothing but what the worker's locks guard.
use Rattle.std.proofs.Common.{◌≡◌, ℕ, ◌<◌, ◌≤◌, List, Contains, length, slice_index, slice_index_or, refl, subst}
use Rattle.slub_common.specs.Times.{times}
use Rattle.slub_page_pool.specs.Block.{CanPut}
use Rattle.slub_core.specs.declared.call.CallKind.{CallKind}
use Rattle.slub_core.specs.declared.call.CallKind.TheVariants.{Alloc}
use Rattle.slub_core.specs.declared.spot.Spot.{Spot}
use Rattle.slub_core.specs.declared.spot.Spot.TheVariants.{InAlloc, InPutAway, InDiscard, InFree, InMoveSet, InTrim, InChecked}
use Rattle.slub_core.specs.declared.spot.AllocSpot.{AllocSpot}
use Rattle.slub_core.specs.declared.spot.AllocSpot.TheVariants.{TakeRun}
use Rattle.slub_core.specs.declared.spot.PutAwaySpot.{PutAwaySpot}
use Rattle.slub_core.specs.declared.spot.PutAwaySpot.TheVariants.{PutNode}
use Rattle.slub_core.specs.declared.spot.Away.{Away}
use Rattle.slub_core.specs.declared.spot.DiscardSpot.{DiscardSpot}
use Rattle.slub_core.specs.declared.spot.DiscardSpot.TheVariants.{PutRun}
use Rattle.slub_core.specs.declared.spot.Discard.{Discard}
use Rattle.slub_core.specs.declared.spot.FreeSpot.{FreeSpot}
use Rattle.slub_core.specs.declared.spot.FreeSpot.TheVariants.{TakeOff}
use Rattle.slub_core.specs.declared.spot.MoveSetSpot.{MoveSetSpot}
use Rattle.slub_core.specs.declared.spot.MoveSetSpot.TheVariants.{PutTail}
use Rattle.slub_core.specs.declared.spot.MoveSet.{MoveSet}
use Rattle.slub_core.specs.declared.spot.TrimSpot.{TrimSpot}
use Rattle.slub_core.specs.declared.spot.TrimSpot.TheVariants.{ScanNode, DropScanned}
use Rattle.slub_core.specs.declared.spot.CheckedSpot.{CheckedSpot}
use Rattle.slub_core.specs.declared.spot.CheckedSpot.TheVariants.{DoChecked, MoveRun, AddSlab}
use Rattle.slub_core.specs.Setup.{node_lock, pool_lock}
use Rattle.slub_core.specs.World.{frames_in, pool_in}
use Rattle.slub_core.specs.Local.{Local, here, run_of}
use Rattle.slub_core.specs.declared.guarded.Guarded.{Guarded}
use Rattle.slub_core.specs.declared.guarded.Guarded.TheVariants.{Nothing}
use Rattle.slub_core.specs.Values.{value_in, values_of, HasRoom, IsPoolValue}
use Rattle.slub_alloc_paths.specs.Fits as alloc
use Rattle.slub_free_paths.specs.Fits.{PutsRun, PutsAway, PutsTail, TakesOff}
use Rattle.slub_offline.specs.Fits.{IsNodeList, MayScan}
use Rattle.slub_checked_paths.specs.Slabs.{IsCheckedValue, slabs_at}
use Rattle.slub_checked_paths.specs.Fits.{MayDo, MayAdd, MayMove, CheckedFits}
use Rattle.slub_turns.specs.Fits.{AtOnceFits}
use Rattle.slub_workers.specs.Locks.{locks_of}
use Rattle.slub_workers.proofs.Locals.{locks_at, node_at, pool_at}

-- the same is guarded by these locks
abbrev pub AgreeAt : List ℕ → List Guarded → List Guarded → Type 0
AgreeAt locks g h = (lock : ℕ) → Contains locks lock → slice_index_or g lock Nothing ≡ slice_index_or h lock Nothing

-- by those of a worker
abbrev pub AgreeFor : Local → List Guarded → List Guarded → Type 0
AgreeFor l g h = AgreeAt (locks_of l) g h

-- ---- spot by spot

alloc_fits : (g h : List Guarded) (l : Local) (s : AllocSpot) → AgreeAt (locks_at (InAlloc s) l.cache) g h → alloc.AtOnceFits g l s → alloc.AtOnceFits h l s
alloc_fits g h l TakeRun agree fits = subst IsPoolValue (agree pool_lock (pool_at (InAlloc TakeRun) l.cache refl)) fits
alloc_fits g h l s agree fits = fits

away_fits : (g h : List Guarded) (l : Local) (s : PutAwaySpot) (away : Away) → AgreeAt (locks_at (InPutAway s away) l.cache) g h → PutsAway g l s → PutsAway h l s
away_fits g h l PutNode away agree fits = subst HasRoom (agree (node_lock l.cache) (node_at (InPutAway PutNode away) l.cache refl)) fits
away_fits g h l s away agree fits = fits

-- a run can come back to this pool
abbrev Puts : Local → Guarded → Type 0
Puts l x = IsPoolValue x × CanPut (pool_in (value_in x)) (run_of l).frame (run_of l).order

discard_fits : (g h : List Guarded) (l : Local) (s : DiscardSpot) (discard : Discard) → AgreeAt (locks_at (InDiscard s discard) l.cache) g h → PutsRun g l s → PutsRun h l s
discard_fits g h l PutRun discard agree fits = subst (Puts l) (agree pool_lock (pool_at (InDiscard PutRun discard) l.cache refl)) fits
discard_fits g h l s discard agree fits = fits

free_fits : (g h : List Guarded) (l : Local) (s : FreeSpot) → AgreeAt (locks_at (InFree s) l.cache) g h → TakesOff g l s → TakesOff h l s
free_fits g h l TakeOff agree fits = subst (λ x. times (here l).frame (frames_in (value_in x)) ≡ 1) (agree (node_lock l.cache) (node_at (InFree TakeOff) l.cache refl)) fits
free_fits g h l s agree fits = fits

move_fits : (g h : List Guarded) (l : Local) (s : MoveSetSpot) (move : MoveSet) → AgreeAt (locks_at (InMoveSet s move) l.cache) g h → PutsTail g l s → PutsTail h l s
move_fits g h l PutTail move agree fits = subst HasRoom (agree (node_lock l.cache) (node_at (InMoveSet PutTail move) l.cache refl)) fits
move_fits g h l s move agree fits = fits

-- the scan has come by no more slabs than this list has, or has one before it
abbrev Scans : Local → Guarded → Type 0
Scans l x = IsNodeList (value_in x) × (length l.scanned ≤ length (frames_in (value_in x)))

abbrev Drops : Local → Guarded → Type 0
Drops l x = (length l.scanned < length (frames_in (value_in x))) × (times (slice_index (frames_in (value_in x)) (length l.scanned)) (frames_in (value_in x)) ≡ 1) × (length l.hands < 2)

trim_fits : (g h : List Guarded) (l : Local) (s : TrimSpot) → AgreeAt (locks_at (InTrim s) l.cache) g h → MayScan (values_of g) l s → MayScan (values_of h) l s
trim_fits g h l ScanNode agree fits = subst (Scans l) (agree (node_lock l.cache) (node_at (InTrim ScanNode) l.cache refl)) fits
trim_fits g h l DropScanned agree fits = subst (Drops l) (agree (node_lock l.cache) (node_at (InTrim DropScanned) l.cache refl)) fits
trim_fits g h l s agree fits = fits

abbrev Does : Local → CallKind → Guarded → Type 0
Does l kind x = IsCheckedValue (value_in x) × MayDo l (slabs_at (value_in x)) kind

run_fits : (g h : List Guarded) (l : Local) (kind : CallKind) → slice_index_or g pool_lock Nothing ≡ slice_index_or h pool_lock Nothing → MayMove g l kind → MayMove h l kind
run_fits g h l Alloc agree fits = subst IsPoolValue agree fits
run_fits g h l kind agree fits = subst (Puts l) agree fits

checked_fits : (g h : List Guarded) (l : Local) (s : CheckedSpot) (kind : CallKind) → AgreeAt (locks_at (InChecked s kind) l.cache) g h → CheckedFits g l s kind → CheckedFits h l s kind
checked_fits g h l DoChecked kind agree fits = subst (Does l kind) (agree (node_lock l.cache) (node_at (InChecked DoChecked kind) l.cache refl)) fits
checked_fits g h l MoveRun kind agree fits = run_fits g h l kind (agree pool_lock (pool_at (InChecked MoveRun kind) l.cache refl)) fits
checked_fits g h l AddSlab kind agree fits =
    let here = subst (λ x. IsCheckedValue (value_in x) × MayAdd (slabs_at (value_in x)) l) (agree (node_lock l.cache) (node_at (InChecked AddSlab kind) l.cache refl)) (fits.0, fits.1) in
    (here.0, here.1, subst (Puts l) (agree pool_lock (pool_at (InChecked AddSlab kind) l.cache refl)) fits.2)
checked_fits g h l s kind agree fits = fits

-- ---- any spot

fits_at : (g h : List Guarded) (l : Local) (s : Spot) → AgreeAt (locks_at s l.cache) g h → AtOnceFits g l s → AtOnceFits h l s
fits_at g h l (InAlloc s) agree fits = alloc_fits g h l s agree fits
fits_at g h l (InPutAway s away) agree fits = away_fits g h l s away agree fits
fits_at g h l (InDiscard s discard) agree fits = discard_fits g h l s discard agree fits
fits_at g h l (InFree s) agree fits = (fits.0, free_fits g h l s agree fits.1)
fits_at g h l (InMoveSet s move) agree fits = (fits.0, move_fits g h l s move agree fits.1)
fits_at g h l (InTrim s) agree fits = trim_fits g h l s agree fits
fits_at g h l (InChecked s kind) agree fits = checked_fits g h l s kind agree fits
fits_at g h l s agree fits = fits

pub at_once_fits_alike : (g h : List Guarded) (l : Local) → AgreeFor l g h → AtOnceFits g l l.spot → AtOnceFits h l l.spot
at_once_fits_alike g h l agree fits = fits_at g h l l.spot agree fits
