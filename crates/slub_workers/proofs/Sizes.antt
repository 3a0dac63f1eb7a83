-- A machine has two frames or more, and so all words that lie apart.
use Rattle.std.proofs.Common.{◌≤◌, List}
use Rattle.slub_core.specs.Local.{Local}
use Rattle.slub_core.specs.World.{world_from, world_of}
use Rattle.slub_core.specs.declared.guarded.Guarded.{Guarded}
use Rattle.slub_core.specs.Facts.{Facts}
use Rattle.slub_schedule.specs.Table.{WordTable}
use Rattle.slub_turns.specs.Ready.{IsReady}

pub many-frames : (facts : Facts) (table : WordTable) (guarded : List Guarded) (locals : List Local) → IsReady facts table guarded locals → 2 ≤ facts.frames
unfolding world_of world_from
many-frames facts table guarded locals ready = ready.may.coherent.coherent.fresh.setup.frames.0
