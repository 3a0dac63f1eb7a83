-- The names of spots, as `slub_core::spot` has them.
use Rattle.std.specs.Prelude.{ℕ, List, codes}
use Rattle.slub_core.specs.declared.spot.Spot.{Spot}
use Rattle.slub_core.specs.declared.spot.Spot.TheVariants.{Between, InAlloc, InPutAway, InDiscard, InPutOnList, InFree, InMoveSet, InOffline, InTrim, WriteWord, ReadWord, InChecked}
use Rattle.slub_core.specs.declared.spot.AllocSpot.{AllocSpot}
use Rattle.slub_core.specs.declared.spot.AllocSpot.TheVariants as alloc
use Rattle.slub_core.specs.declared.spot.PutAwaySpot.{PutAwaySpot}
use Rattle.slub_core.specs.declared.spot.PutAwaySpot.TheVariants as away
use Rattle.slub_core.specs.declared.spot.DiscardSpot.{DiscardSpot}
use Rattle.slub_core.specs.declared.spot.DiscardSpot.TheVariants as discard
use Rattle.slub_core.specs.declared.spot.PutOnListSpot.{PutOnListSpot}
use Rattle.slub_core.specs.declared.spot.PutOnListSpot.TheVariants as put
use Rattle.slub_core.specs.declared.spot.FreeSpot.{FreeSpot}
use Rattle.slub_core.specs.declared.spot.FreeSpot.TheVariants as free
use Rattle.slub_core.specs.declared.spot.MoveSetSpot.{MoveSetSpot}
use Rattle.slub_core.specs.declared.spot.MoveSetSpot.TheVariants as move
use Rattle.slub_core.specs.declared.spot.OfflineSpot.{OfflineSpot}
use Rattle.slub_core.specs.declared.spot.OfflineSpot.TheVariants as offline
use Rattle.slub_core.specs.declared.spot.TrimSpot.{TrimSpot}
use Rattle.slub_core.specs.declared.spot.TrimSpot.TheVariants as trim
use Rattle.slub_core.specs.declared.spot.CheckedSpot.{CheckedSpot}
use Rattle.slub_core.specs.declared.spot.CheckedSpot.TheVariants as checked

abbrev pub alloc_name : AllocSpot → List ℕ
alloc_name alloc.LoadCpu = codes "LoadCpu"
alloc_name alloc.LoadNext = codes "LoadNext"
alloc_name alloc.Pop = codes "Pop"
alloc_name alloc.Detach = codes "Detach"
alloc_name alloc.LoadTaken = codes "LoadTaken"
alloc_name alloc.TakeAll = codes "TakeAll"
alloc_name alloc.MarkFull = codes "MarkFull"
alloc_name alloc.TakeList = codes "TakeList"
alloc_name alloc.FollowFront = codes "FollowFront"
alloc_name alloc.LoadKept = codes "LoadKept"
alloc_name alloc.FreezeKept = codes "FreezeKept"
alloc_name alloc.LockNode = codes "LockNode"
alloc_name alloc.PopNode = codes "PopNode"
alloc_name alloc.LoadPopped = codes "LoadPopped"
alloc_name alloc.FreezePopped = codes "FreezePopped"
alloc_name alloc.Unlist = codes "Unlist"
alloc_name alloc.GiveNode = codes "GiveNode"
alloc_name alloc.LockPool = codes "LockPool"
alloc_name alloc.TakeRun = codes "TakeRun"
alloc_name alloc.GivePool = codes "GivePool"
alloc_name alloc.GiveDry = codes "GiveDry"
alloc_name (alloc.LinkNew index) = codes "LinkNew"
alloc_name alloc.Make = codes "Make"
alloc_name alloc.LoadReady = codes "LoadReady"
alloc_name alloc.LoadAgain = codes "LoadAgain"
alloc_name alloc.DetachOther = codes "DetachOther"
alloc_name alloc.Install = codes "Install"

abbrev pub away_name : PutAwaySpot → List ℕ
away_name away.WalkChain = codes "WalkChain"
away_name away.LockAway = codes "LockAway"
away_name away.LoadAway = codes "LoadAway"
away_name away.LinkLast = codes "LinkLast"
away_name away.Unfreeze = codes "Unfreeze"
away_name away.PutNode = codes "PutNode"
away_name away.GiveAway = codes "GiveAway"

abbrev pub discard_name : DiscardSpot → List ℕ
discard_name discard.Unmake = codes "Unmake"
discard_name discard.LockDiscard = codes "LockDiscard"
discard_name discard.PutRun = codes "PutRun"
discard_name discard.GiveDiscard = codes "GiveDiscard"

abbrev pub put_name : PutOnListSpot → List ℕ
put_name put.LoadList = codes "LoadList"
put_name put.WalkString = codes "WalkString"
put_name put.LinkString = codes "LinkString"
put_name put.PushString = codes "PushString"

abbrev pub free_name : FreeSpot → List ℕ
free_name free.TakeBoard = codes "TakeBoard"
free_name free.LoadOwn = codes "LoadOwn"
free_name free.LinkOwn = codes "LinkOwn"
free_name free.Push = codes "Push"
free_name free.LoadSlab = codes "LoadSlab"
free_name free.LinkSlab = codes "LinkSlab"
free_name free.FreeSlab = codes "FreeSlab"
free_name free.LockFree = codes "LockFree"
free_name free.LoadLocked = codes "LoadLocked"
free_name free.GoBack = codes "GoBack"
free_name free.LinkLocked = codes "LinkLocked"
free_name free.FreeLocked = codes "FreeLocked"
free_name free.TakeOff = codes "TakeOff"
free_name free.GiveFree = codes "GiveFree"
free_name free.LoadCount = codes "LoadCount"
free_name free.TakeSet = codes "TakeSet"

abbrev pub move_name : MoveSetSpot → List ℕ
move_name move.LockMove = codes "LockMove"
move_name move.ChooseFront = codes "ChooseFront"
move_name move.FollowSet = codes "FollowSet"
move_name move.LoadMoved = codes "LoadMoved"
move_name move.ListSlab = codes "ListSlab"
move_name move.PutTail = codes "PutTail"
move_name move.GiveMove = codes "GiveMove"

abbrev pub offline_name : OfflineSpot → List ℕ
offline_name offline.LoadCurrent = codes "LoadCurrent"
offline_name offline.DetachCurrent = codes "DetachCurrent"
offline_name offline.TakeCurrent = codes "TakeCurrent"

abbrev pub trim_name : TrimSpot → List ℕ
trim_name trim.LockTrim = codes "LockTrim"
trim_name trim.ScanNode = codes "ScanNode"
trim_name trim.LoadScanned = codes "LoadScanned"
trim_name trim.DropScanned = codes "DropScanned"
trim_name trim.GiveTrim = codes "GiveTrim"

abbrev pub checked_name : CheckedSpot → List ℕ
checked_name checked.LockChecked = codes "LockChecked"
checked_name checked.DoChecked = codes "DoChecked"
checked_name checked.LockRun = codes "LockRun"
checked_name checked.MoveRun = codes "MoveRun"
checked_name checked.AddSlab = codes "AddSlab"
checked_name checked.GiveRun = codes "GiveRun"
checked_name checked.GiveChecked = codes "GiveChecked"

-- the name of a spot alone: what a slab is put away or discarded for isn't told
unfoldable pub spot_name : Spot → List ℕ
spot_name Between = codes "Between"
spot_name (InAlloc s) = alloc_name s
spot_name (InPutAway s for) = away_name s
spot_name (InDiscard s from) = discard_name s
spot_name (InPutOnList s for) = put_name s
spot_name (InFree s) = free_name s
spot_name (InMoveSet s for) = move_name s
spot_name (InOffline s sweep) = offline_name s
spot_name (InTrim s) = trim_name s
spot_name WriteWord = codes "WriteWord"
spot_name ReadWord = codes "ReadWord"
spot_name (InChecked s kind) = checked_name s
