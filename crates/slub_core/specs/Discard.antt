-- Discarding an empty slab in hand, under the node lock: `discard_slab` of Linux 6.1.
use Rattle.std.specs.Prelude.{ℕ, ◌+◌, Some, None}
use Rattle.slub_page_pool.specs.FreeFrames.{FreeFrames}
use Rattle.slub_page_pool.specs.Block.{with_run}
use Rattle.slub_core.specs.declared.local.FrameRun.{FrameRun}
use Rattle.slub_core.specs.declared.step.Step.{Step}
use Rattle.slub_core.specs.declared.step.Answer.{Answer}
use Rattle.slub_core.specs.declared.step.Answer.TheVariants.{Done, Won}
use Rattle.slub_core.specs.declared.spot.Spot.{Spot}
use Rattle.slub_core.specs.declared.spot.Spot.TheVariants.{InPutAway, InDiscard, InFree, InMoveSet, InTrim}
use Rattle.slub_core.specs.declared.spot.Away.TheVariants.{ForInstall, ForSpent, ForSweep}
use Rattle.slub_core.specs.declared.spot.PutAwaySpot.TheVariants.{GiveAway}
use Rattle.slub_core.specs.declared.spot.Discard.{Discard}
use Rattle.slub_core.specs.declared.spot.Discard.TheVariants.{FromAway, FromFree, FromMove, FromTrim}
use Rattle.slub_core.specs.declared.spot.DiscardSpot.{DiscardSpot}
use Rattle.slub_core.specs.declared.spot.DiscardSpot.TheVariants.{Unmake, LockDiscard, PutRun, GiveDiscard}
use Rattle.slub_core.specs.declared.spot.FreeSpot.TheVariants.{GiveFree}
use Rattle.slub_core.specs.declared.spot.MoveSet.TheVariants.{ForFree, ForOffline}
use Rattle.slub_core.specs.declared.spot.MoveSetSpot.TheVariants.{ChooseFront}
use Rattle.slub_core.specs.declared.spot.TrimSpot.TheVariants.{ScanNode}
use Rattle.slub_core.specs.Setup.{Setup, pool_lock}
use Rattle.slub_object_layout.specs.Layout.{order_for}
use Rattle.slub_core.specs.Words.{no_slab_word}
use Rattle.slub_core.specs.World.{LockValue, pool_in}
use Rattle.slub_core.specs.Local.{Local, Turn, Change, hand_of, run_of, at, less_hand, goes, stays}
use Rattle.slub_core.specs.Ops.{store_slab, take_pool, give_pool, no_step}
use Rattle.slub_core.specs.Alloc.{pool_with}
use Rattle.slub_core.specs.Offline.{if_trimming}

-- 1 where the slab is one that a trim tells of (profile)
abbrev pub counts_for : Discard → ℕ
counts_for (FromAway ForInstall) = 0
counts_for (FromAway ForSpent) = 0
counts_for (FromAway (ForSweep sweep)) = if_trimming sweep 1
counts_for FromFree = 0
counts_for (FromMove ForFree) = 0
counts_for (FromMove (ForOffline sweep)) = if_trimming sweep 1
counts_for FromTrim = 1

-- the slab's frames (`folio_order` of `__free_slab`): their order is that of a slab of as many
-- objects
abbrev pub run_of_slab : Setup → Local → FrameRun
run_of_slab m l = record {
  frame = (hand_of l).frame;
  order = order_for (m.layout l.cache) l.slab_word.objects;
  objects = l.slab_word.objects;
}

-- where a discarded slab leads to: on in `deactivate_slab`, `__slab_free`, `__unfreeze_partials` or
-- `__kmem_cache_do_shrink`
abbrev pub way_of_discarded : Discard → Spot
way_of_discarded (FromAway away) = InPutAway GiveAway away
way_of_discarded FromFree = InFree GiveFree
way_of_discarded (FromMove move) = InMoveSet ChooseFront move
way_of_discarded FromTrim = InTrim ScanNode

-- ---- spot by spot

-- the step at each spot of a discard (`discard_slab`, `__free_slab`; that the node lock is kept is
-- profile)
abbrev pub discard_step : Local → DiscardSpot → Step
discard_step l Unmake = store_slab (hand_of l).frame no_slab_word
discard_step l LockDiscard = take_pool l
discard_step l PutRun = no_step
discard_step l GiveDiscard = give_pool l

-- where its answer leads (`discard_slab`, `__free_slab`)
abbrev pub discard_advance : Setup → Local → DiscardSpot → Discard → Answer → Turn
discard_advance m l Unmake discard Done =
    goes (record (less_hand l) {
      run = Some (run_of_slab m l);
      count = l.count + counts_for discard;
      spot = InDiscard LockDiscard discard;
    })
discard_advance m l LockDiscard discard Won = goes (at l (InDiscard PutRun discard))
discard_advance m l GiveDiscard discard Done = goes (at l (way_of_discarded discard))
discard_advance m l s discard a = goes l

-- the frames of a run come back to the pool (`__free_pages`)
abbrev pub with_put : FreeFrames → FrameRun → FreeFrames
with_put pool run = record pool { free = with_run pool.free run.frame run.order }

-- the run is put back under the pool's lock (`__free_pages` of `__free_slab`)
abbrev pub discard_at_once : (ℕ → LockValue) → Local → DiscardSpot → Discard → Change
discard_at_once value l PutRun discard =
    stays (pool_with value (with_put (pool_in (value pool_lock)) (run_of l)))
    (record l { run = None; spot = InDiscard GiveDiscard discard })
discard_at_once value l s discard = stays value l
