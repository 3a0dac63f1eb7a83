-- At which spots something is done at once.
use Rattle.std.specs.Prelude.{Bool, true, false}
use Rattle.slub_core.specs.declared.spot.Spot.{Spot}
use Rattle.slub_core.specs.declared.spot.Spot.TheVariants.{InAlloc, InPutAway, InDiscard, InFree, InMoveSet, InTrim, InChecked}
use Rattle.slub_core.specs.declared.spot.AllocSpot.TheVariants.{PopNode, TakeRun}
use Rattle.slub_core.specs.declared.spot.PutAwaySpot.TheVariants.{PutNode}
use Rattle.slub_core.specs.declared.spot.DiscardSpot.TheVariants.{PutRun}
use Rattle.slub_core.specs.declared.spot.FreeSpot.TheVariants.{TakeOff}
use Rattle.slub_core.specs.declared.spot.MoveSetSpot.TheVariants.{ChooseFront, PutTail}
use Rattle.slub_core.specs.declared.spot.TrimSpot.TheVariants.{ScanNode, DropScanned}
use Rattle.slub_core.specs.declared.spot.CheckedSpot.TheVariants.{DoChecked, MoveRun, AddSlab}

-- a list, a pool or a checked cache is changed there whose lock the worker has, and no step is made
abbrev pub is_at_once : Spot → Bool
is_at_once (InAlloc PopNode) = true
is_at_once (InAlloc TakeRun) = true
is_at_once (InPutAway PutNode away) = true
is_at_once (InDiscard PutRun discard) = true
is_at_once (InFree TakeOff) = true
is_at_once (InMoveSet ChooseFront move) = true
is_at_once (InMoveSet PutTail move) = true
is_at_once (InTrim ScanNode) = true
is_at_once (InTrim DropScanned) = true
is_at_once (InChecked DoChecked kind) = true
is_at_once (InChecked MoveRun kind) = true
is_at_once (InChecked AddSlab kind) = true
is_at_once _ = false
