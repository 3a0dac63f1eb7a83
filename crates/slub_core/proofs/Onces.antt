-- What is done at once at each spot that the law covers, spot by spot.
use Rattle.std.proofs.Common.{◌≡◌, Bool, List, ◌∷◌, refl}
use Rattle.slub_core.specs.declared.spot.Spot.{Spot}
use Rattle.slub_core.specs.declared.spot.Spot.TheVariants.{InAlloc, InPutAway, InDiscard, InFree, InMoveSet, InTrim, InChecked}
use Rattle.slub_core.specs.declared.spot.AllocSpot.TheVariants.{PopNode, TakeRun}
use Rattle.slub_core.specs.declared.spot.PutAwaySpot.TheVariants.{PutNode}
use Rattle.slub_core.specs.declared.spot.DiscardSpot.TheVariants.{PutRun}
use Rattle.slub_core.specs.declared.spot.FreeSpot.TheVariants.{TakeOff}
use Rattle.slub_core.specs.declared.spot.MoveSetSpot.TheVariants.{ChooseFront, PutTail}
use Rattle.slub_core.specs.declared.spot.TrimSpot.TheVariants.{ScanNode, DropScanned}
use Rattle.slub_core.specs.declared.spot.CheckedSpot.TheVariants.{DoChecked, MoveRun, AddSlab}
use Rattle.slub_core.specs.World.{World}
use Rattle.slub_core.specs.Local.{Worker}
use Rattle.slub_core.specs.Steps.{at_once}
use Rattle.slub_core.specs.Coherent.{Stands}
use Rattle.slub_core.proofs.UnderLock.{Makes}
use Rattle.slub_core.proofs.PopNode.{at_PopNode}
use Rattle.slub_core.proofs.NodePuts.{at_PutNode, at_PutTail, at_ChooseFront}
use Rattle.slub_core.proofs.NodeTakes.{at_TakeOff, at_ScanNode, at_DropScanned}
use Rattle.slub_core.proofs.PoolSpots.{at_TakeRun, at_PutRun, at_MoveRun}
use Rattle.slub_core.proofs.DoChecked.{at_DoChecked}
use Rattle.slub_core.proofs.AddSlab.{at_AddSlab}

pub makes : (w : World) (refused : Bool) (x : Worker) (others : List Worker) (spot : Spot) → x.local.spot ≡ spot → Stands w (x ∷ others)
    → Makes w others (at_once w.setup refused w.value x.local spot)
makes w refused x others (InAlloc PopNode) is s = at_PopNode w x others is s
makes w refused x others (InAlloc TakeRun) is s = at_TakeRun w x others is s
makes w refused x others (InPutAway PutNode away) is s = at_PutNode w x others away is s
makes w refused x others (InDiscard PutRun discard) is s = at_PutRun w x others discard is s
makes w refused x others (InFree TakeOff) is s = at_TakeOff w x others is s
makes w refused x others (InMoveSet ChooseFront move) is s = at_ChooseFront w x others move is s
makes w refused x others (InMoveSet PutTail move) is s = at_PutTail w x others move is s
makes w refused x others (InTrim ScanNode) is s = at_ScanNode w x others is s
makes w refused x others (InTrim DropScanned) is s = at_DropScanned w x others is s
makes w refused x others (InChecked DoChecked kind) is s = at_DoChecked w x others refused kind is s
makes w refused x others (InChecked MoveRun kind) is s = at_MoveRun w x others refused kind is s
makes w refused x others (InChecked AddSlab kind) is s = at_AddSlab w x others refused kind is s
makes w refused x others spot is s = (x, refl, s)
