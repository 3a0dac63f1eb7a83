-- What a take of a run for a new slab leaves of the pool.
use Rattle.std.specs.Prelude.{Option, Some, None}
use Rattle.slub_object_layout.specs.declared.layout.Layout.{Layout}
use Rattle.slub_page_pool.specs.FreeFrames.{FreeFrames}
use Rattle.slub_core.specs.declared.local.FrameRun.{FrameRun}
use Rattle.slub_core.specs.Setup.{pool_after}
use Rattle.slub_core.specs.Alloc.{noted_dry}

-- the run is out, or the lack of one is counted
abbrev pub pool_left : FreeFrames → Layout → Option FrameRun → FreeFrames
pool_left pool layout None = noted_dry pool layout.min_order
pool_left pool layout (Some run) = pool_after pool run.order (Some run.frame)
