-- What is done at once keeps the account, spot by spot.
use Rattle.std.proofs.Common.{Bool, List, refl, sym, ◌∙◌, subst}
use Rattle.slub_core.specs.declared.spot.Spot.{Spot}
use Rattle.slub_core.specs.declared.spot.Spot.TheVariants.{InAlloc, InPutAway, InDiscard, InFree, InMoveSet, InTrim, InChecked}
use Rattle.slub_core.specs.declared.spot.AllocSpot.TheVariants.{PopNode, TakeRun}
use Rattle.slub_core.specs.declared.spot.PutAwaySpot.TheVariants.{PutNode}
use Rattle.slub_core.specs.declared.spot.DiscardSpot.TheVariants.{PutRun}
use Rattle.slub_core.specs.declared.spot.FreeSpot.TheVariants.{TakeOff}
use Rattle.slub_core.specs.declared.spot.MoveSetSpot.TheVariants.{ChooseFront, PutTail}
use Rattle.slub_core.specs.declared.spot.TrimSpot.TheVariants.{ScanNode, DropScanned}
use Rattle.slub_core.specs.declared.spot.CheckedSpot.TheVariants.{DoChecked, MoveRun, AddSlab}
use Rattle.slub_core.specs.World.{World}
use Rattle.slub_core.specs.Local.{Local, Worker}
use Rattle.slub_core.specs.Steps.{at_once}
use Rattle.slub_core.proofs.Locks.{ComesTo}
use Rattle.slub_core.proofs.Accounts.{Accounts, Tells, TellsAt}
use Rattle.slub_core.proofs.TaleSpots.{accounted-as}
use Rattle.slub_core.proofs.TaleAtOnce.{tells_PopNode, tells_TakeRun, tells_PutNode, tells_PutRun, tells_TakeOff, tells_ChooseFront, tells_PutTail, tells_ScanNode, tells_DropScanned, tells_MoveRun}
use Rattle.slub_core.proofs.TaleDoChecked.{tells_DoChecked}
use Rattle.slub_core.proofs.TaleAddSlab.{tells_AddSlab}

pub makes_told : (spot : Spot) → TellsAt spot
makes_told (InAlloc PopNode) opening w refused x others is s ac = tells_PopNode opening w refused x others is s ac
makes_told (InAlloc TakeRun) opening w refused x others is s ac = tells_TakeRun opening w refused x others is s ac
makes_told (InPutAway PutNode away) opening w refused x others is s ac = tells_PutNode away opening w refused x others is s ac
makes_told (InDiscard PutRun discard) opening w refused x others is s ac = tells_PutRun discard opening w refused x others is s ac
makes_told (InFree TakeOff) opening w refused x others is s ac = tells_TakeOff opening w refused x others is s ac
makes_told (InMoveSet ChooseFront move) opening w refused x others is s ac = tells_ChooseFront move opening w refused x others is s ac
makes_told (InMoveSet PutTail move) opening w refused x others is s ac = tells_PutTail move opening w refused x others is s ac
makes_told (InTrim ScanNode) opening w refused x others is s ac = tells_ScanNode opening w refused x others is s ac
makes_told (InTrim DropScanned) opening w refused x others is s ac = tells_DropScanned opening w refused x others is s ac
makes_told (InChecked DoChecked kind) opening w refused x others is s ac = tells_DoChecked kind opening w refused x others is s ac
makes_told (InChecked MoveRun kind) opening w refused x others is s ac = tells_MoveRun kind opening w refused x others is s ac
makes_told (InChecked AddSlab kind) opening w refused x others is s ac = tells_AddSlab kind opening w refused x others is s ac
makes_told spot opening w refused x others is s ac = (x, refl, ac)

-- from where all stands with the worker at this local, and the account agrees
pub tells_once : (opening w : World) (refused : Bool) (others : List Worker) (l : Local) → ComesTo w others l → Accounts opening w others l → Tells opening w others (at_once w.setup refused w.value l l.spot)
tells_once opening w refused others l (z, e, s) (y, f, ac) =
    subst (λ l. Tells opening w others (at_once w.setup refused w.value l l.spot)) e
    (makes_told z.local.spot opening w refused z others refl s (accounted-as opening w y z others (e ∙ sym f) ac))
