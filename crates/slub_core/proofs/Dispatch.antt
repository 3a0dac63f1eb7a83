-- The step of each spot that the law covers, spot by spot.
use Rattle.std.proofs.Common.{refl, get_or}
use Rattle.slub_core.specs.declared.call.CallKind.{CallKind}
use Rattle.slub_core.specs.declared.spot.Spot.{Spot}
use Rattle.slub_core.specs.declared.spot.Spot.TheVariants.{Between, InAlloc, InPutAway, InDiscard, InPutOnList, InFree, InMoveSet, InOffline, InTrim, WriteWord, ReadWord, InChecked}
use Rattle.slub_core.specs.declared.spot.Away.{Away}
use Rattle.slub_core.specs.declared.spot.Discard.{Discard}
use Rattle.slub_core.specs.declared.spot.PutOnList.{PutOnList}
use Rattle.slub_core.specs.declared.spot.MoveSet.{MoveSet}
use Rattle.slub_core.specs.declared.spot.Sweep.{Sweep}
use Rattle.slub_core.specs.declared.spot.AllocSpot.{AllocSpot}
use Rattle.slub_core.specs.declared.spot.AllocSpot.TheVariants.{LoadCpu, LoadNext, Pop, Detach, LoadTaken, TakeAll, MarkFull, TakeList, FollowFront, LoadKept, FreezeKept, LockNode, LoadPopped, FreezePopped, Unlist, GiveNode, LockPool, GivePool, GiveDry, LinkNew, Make, LoadReady, LoadAgain, DetachOther, Install, PopNode, TakeRun}
use Rattle.slub_core.specs.declared.spot.PutAwaySpot.{PutAwaySpot}
use Rattle.slub_core.specs.declared.spot.PutAwaySpot.TheVariants.{WalkChain, LockAway, LoadAway, LinkLast, Unfreeze, GiveAway, PutNode}
use Rattle.slub_core.specs.declared.spot.DiscardSpot.{DiscardSpot}
use Rattle.slub_core.specs.declared.spot.DiscardSpot.TheVariants.{Unmake, LockDiscard, GiveDiscard, PutRun}
use Rattle.slub_core.specs.declared.spot.PutOnListSpot.{PutOnListSpot}
use Rattle.slub_core.specs.declared.spot.PutOnListSpot.TheVariants.{LoadList, WalkString, LinkString, PushString}
use Rattle.slub_core.specs.declared.spot.FreeSpot.{FreeSpot}
use Rattle.slub_core.specs.declared.spot.FreeSpot.TheVariants.{TakeBoard, LoadOwn, LinkOwn, Push, LoadSlab, LinkSlab, FreeSlab, LockFree, LoadLocked, GoBack, LinkLocked, FreeLocked, GiveFree, LoadCount, TakeSet, TakeOff}
use Rattle.slub_core.specs.declared.spot.MoveSetSpot.{MoveSetSpot}
use Rattle.slub_core.specs.declared.spot.MoveSetSpot.TheVariants.{LockMove, FollowSet, LoadMoved, ListSlab, GiveMove, ChooseFront, PutTail}
use Rattle.slub_core.specs.declared.spot.OfflineSpot.{OfflineSpot}
use Rattle.slub_core.specs.declared.spot.OfflineSpot.TheVariants.{LoadCurrent, DetachCurrent, TakeCurrent}
use Rattle.slub_core.specs.declared.spot.TrimSpot.{TrimSpot}
use Rattle.slub_core.specs.declared.spot.TrimSpot.TheVariants.{LockTrim, LoadScanned, GiveTrim, ScanNode, DropScanned}
use Rattle.slub_core.specs.declared.spot.CheckedSpot.{CheckedSpot}
use Rattle.slub_core.specs.declared.spot.CheckedSpot.TheVariants.{LockChecked, LockRun, GiveRun, GiveChecked, DoChecked, MoveRun, AddSlab}
use Rattle.slub_core.specs.declared.step.Place.TheVariants.{LockOf}
use Rattle.slub_core.specs.World.{world_from, world_of}
use Rattle.slub_core.specs.Steps.{advance_at}
use Rattle.slub_core.proofs.Leads.{AtSpot}
use Rattle.slub_core.proofs.WordSteps.{load}
use Rattle.slub_core.proofs.LeadsLocks.{leads_LockNode, leads_LockPool, leads_LockAway, leads_LockDiscard, leads_LockFree, leads_LockMove, leads_LockTrim, leads_LockChecked, leads_LockRun, leads_GiveNode, leads_GivePool, leads_GiveDry, leads_GiveAway, leads_GiveDiscard, leads_GoBack, leads_GiveFree, leads_GiveMove, leads_GiveTrim, leads_GiveRun, leads_GiveChecked}
use Rattle.slub_core.proofs.LeadsWords.{leads_LoadCpu, leads_LoadAgain, leads_LoadOwn, leads_LoadCurrent, leads_LoadNext, leads_ReadWord, leads_LoadSlab, leads_LoadLocked, leads_Unmake, leads_TakeBoard}
use Rattle.slub_core.proofs.LeadsCpu.{leads_Pop, leads_Push, leads_Detach, leads_DetachOther, leads_DetachCurrent, leads_Install}
use Rattle.slub_core.proofs.LeadsMemory.{leads_LoadReady, leads_WalkChain, leads_LinkOwn, leads_LinkSlab, leads_LinkLocked, leads_WriteWord, leads_LinkNew, leads_LinkLast}
use Rattle.slub_core.proofs.LeadsHands.{leads_LoadTaken, leads_LoadKept, leads_LoadPopped, leads_LoadAway, leads_LoadMoved, leads_LoadScanned}
use Rattle.slub_core.proofs.LeadsMake.{leads_Make}
use Rattle.slub_core.proofs.LeadsStrings.{leads_LoadList, leads_LoadCount, leads_FollowFront, leads_FollowSet, leads_WalkString}
use Rattle.slub_core.proofs.LeadsSlabs.{leads_TakeAll, leads_MarkFull, leads_FreezeKept, leads_FreezePopped, leads_Unlist, leads_FreeSlab, leads_FreeLocked, leads_Unfreeze, leads_ListSlab}
use Rattle.slub_core.proofs.LeadsLists.{leads_PushString, leads_TakeList, leads_TakeSet, leads_TakeCurrent, leads_LinkString}
use Rattle.slub_core.proofs.Accounts.{Reaches}
use Rattle.slub_core.proofs.TaleSteps.{quietly}
use Rattle.slub_core.proofs.TaleSpots.{unseen-same}
use Rattle.slub_core.specs.Words.{number_of}
use Rattle.slub_core.specs.declared.step.Answer.TheVariants.{Word}

-- ---- a spot that calls for no step

rests_Between : AtSpot (Between)
unfolding world_of world_from
rests_Between opening m value words x others t is s ac =
    let w = world_of m value words in
    load m value words (LockOf 0) (λ v a. Reaches opening v others (advance_at m value x.local (Between) a))
    ((x, refl, s), quietly opening w w value x others (Between) (Word (get_or words (number_of m (LockOf 0)) 0)) is ac (unseen-same w) refl refl)

rests_PopNode : AtSpot (InAlloc PopNode)
unfolding world_of world_from
rests_PopNode opening m value words x others t is s ac =
    let w = world_of m value words in
    load m value words (LockOf 0) (λ v a. Reaches opening v others (advance_at m value x.local (InAlloc PopNode) a))
    ((x, refl, s), quietly opening w w value x others (InAlloc PopNode) (Word (get_or words (number_of m (LockOf 0)) 0)) is ac (unseen-same w) refl refl)

rests_TakeRun : AtSpot (InAlloc TakeRun)
unfolding world_of world_from
rests_TakeRun opening m value words x others t is s ac =
    let w = world_of m value words in
    load m value words (LockOf 0) (λ v a. Reaches opening v others (advance_at m value x.local (InAlloc TakeRun) a))
    ((x, refl, s), quietly opening w w value x others (InAlloc TakeRun) (Word (get_or words (number_of m (LockOf 0)) 0)) is ac (unseen-same w) refl refl)

rests_PutNode : (away : Away) → AtSpot (InPutAway PutNode away)
unfolding world_of world_from
rests_PutNode away opening m value words x others t is s ac =
    let w = world_of m value words in
    load m value words (LockOf 0) (λ v a. Reaches opening v others (advance_at m value x.local (InPutAway PutNode away) a))
    ((x, refl, s), quietly opening w w value x others (InPutAway PutNode away) (Word (get_or words (number_of m (LockOf 0)) 0)) is ac (unseen-same w) refl refl)

rests_PutRun : (discard : Discard) → AtSpot (InDiscard PutRun discard)
unfolding world_of world_from
rests_PutRun discard opening m value words x others t is s ac =
    let w = world_of m value words in
    load m value words (LockOf 0) (λ v a. Reaches opening v others (advance_at m value x.local (InDiscard PutRun discard) a))
    ((x, refl, s), quietly opening w w value x others (InDiscard PutRun discard) (Word (get_or words (number_of m (LockOf 0)) 0)) is ac (unseen-same w) refl refl)

rests_TakeOff : AtSpot (InFree TakeOff)
unfolding world_of world_from
rests_TakeOff opening m value words x others t is s ac =
    let w = world_of m value words in
    load m value words (LockOf 0) (λ v a. Reaches opening v others (advance_at m value x.local (InFree TakeOff) a))
    ((x, refl, s), quietly opening w w value x others (InFree TakeOff) (Word (get_or words (number_of m (LockOf 0)) 0)) is ac (unseen-same w) refl refl)

rests_ChooseFront : (move : MoveSet) → AtSpot (InMoveSet ChooseFront move)
unfolding world_of world_from
rests_ChooseFront move opening m value words x others t is s ac =
    let w = world_of m value words in
    load m value words (LockOf 0) (λ v a. Reaches opening v others (advance_at m value x.local (InMoveSet ChooseFront move) a))
    ((x, refl, s), quietly opening w w value x others (InMoveSet ChooseFront move) (Word (get_or words (number_of m (LockOf 0)) 0)) is ac (unseen-same w) refl refl)

rests_PutTail : (move : MoveSet) → AtSpot (InMoveSet PutTail move)
unfolding world_of world_from
rests_PutTail move opening m value words x others t is s ac =
    let w = world_of m value words in
    load m value words (LockOf 0) (λ v a. Reaches opening v others (advance_at m value x.local (InMoveSet PutTail move) a))
    ((x, refl, s), quietly opening w w value x others (InMoveSet PutTail move) (Word (get_or words (number_of m (LockOf 0)) 0)) is ac (unseen-same w) refl refl)

rests_ScanNode : AtSpot (InTrim ScanNode)
unfolding world_of world_from
rests_ScanNode opening m value words x others t is s ac =
    let w = world_of m value words in
    load m value words (LockOf 0) (λ v a. Reaches opening v others (advance_at m value x.local (InTrim ScanNode) a))
    ((x, refl, s), quietly opening w w value x others (InTrim ScanNode) (Word (get_or words (number_of m (LockOf 0)) 0)) is ac (unseen-same w) refl refl)

rests_DropScanned : AtSpot (InTrim DropScanned)
unfolding world_of world_from
rests_DropScanned opening m value words x others t is s ac =
    let w = world_of m value words in
    load m value words (LockOf 0) (λ v a. Reaches opening v others (advance_at m value x.local (InTrim DropScanned) a))
    ((x, refl, s), quietly opening w w value x others (InTrim DropScanned) (Word (get_or words (number_of m (LockOf 0)) 0)) is ac (unseen-same w) refl refl)

rests_DoChecked : (kind : CallKind) → AtSpot (InChecked DoChecked kind)
unfolding world_of world_from
rests_DoChecked kind opening m value words x others t is s ac =
    let w = world_of m value words in
    load m value words (LockOf 0) (λ v a. Reaches opening v others (advance_at m value x.local (InChecked DoChecked kind) a))
    ((x, refl, s), quietly opening w w value x others (InChecked DoChecked kind) (Word (get_or words (number_of m (LockOf 0)) 0)) is ac (unseen-same w) refl refl)

rests_MoveRun : (kind : CallKind) → AtSpot (InChecked MoveRun kind)
unfolding world_of world_from
rests_MoveRun kind opening m value words x others t is s ac =
    let w = world_of m value words in
    load m value words (LockOf 0) (λ v a. Reaches opening v others (advance_at m value x.local (InChecked MoveRun kind) a))
    ((x, refl, s), quietly opening w w value x others (InChecked MoveRun kind) (Word (get_or words (number_of m (LockOf 0)) 0)) is ac (unseen-same w) refl refl)

rests_AddSlab : (kind : CallKind) → AtSpot (InChecked AddSlab kind)
unfolding world_of world_from
rests_AddSlab kind opening m value words x others t is s ac =
    let w = world_of m value words in
    load m value words (LockOf 0) (λ v a. Reaches opening v others (advance_at m value x.local (InChecked AddSlab kind) a))
    ((x, refl, s), quietly opening w w value x others (InChecked AddSlab kind) (Word (get_or words (number_of m (LockOf 0)) 0)) is ac (unseen-same w) refl refl)

-- ---- by path

leads_alloc : (s : AllocSpot) → AtSpot (InAlloc s)
leads_alloc LoadCpu = leads_LoadCpu
leads_alloc LoadNext = leads_LoadNext
leads_alloc Pop = leads_Pop
leads_alloc Detach = leads_Detach
leads_alloc LoadTaken = leads_LoadTaken
leads_alloc TakeAll = leads_TakeAll
leads_alloc MarkFull = leads_MarkFull
leads_alloc TakeList = leads_TakeList
leads_alloc FollowFront = leads_FollowFront
leads_alloc LoadKept = leads_LoadKept
leads_alloc FreezeKept = leads_FreezeKept
leads_alloc LockNode = leads_LockNode
leads_alloc LoadPopped = leads_LoadPopped
leads_alloc FreezePopped = leads_FreezePopped
leads_alloc Unlist = leads_Unlist
leads_alloc GiveNode = leads_GiveNode
leads_alloc LockPool = leads_LockPool
leads_alloc GivePool = leads_GivePool
leads_alloc GiveDry = leads_GiveDry
leads_alloc (LinkNew i) = leads_LinkNew i
leads_alloc Make = leads_Make
leads_alloc LoadReady = leads_LoadReady
leads_alloc LoadAgain = leads_LoadAgain
leads_alloc DetachOther = leads_DetachOther
leads_alloc Install = leads_Install
leads_alloc PopNode = rests_PopNode
leads_alloc TakeRun = rests_TakeRun

leads_put_away : (s : PutAwaySpot) (away : Away) → AtSpot (InPutAway s away)
leads_put_away WalkChain away = leads_WalkChain away
leads_put_away LockAway away = leads_LockAway away
leads_put_away LoadAway away = leads_LoadAway away
leads_put_away LinkLast away = leads_LinkLast away
leads_put_away Unfreeze away = leads_Unfreeze away
leads_put_away GiveAway away = leads_GiveAway away
leads_put_away PutNode away = rests_PutNode away

leads_discard : (s : DiscardSpot) (discard : Discard) → AtSpot (InDiscard s discard)
leads_discard Unmake discard = leads_Unmake discard
leads_discard LockDiscard discard = leads_LockDiscard discard
leads_discard GiveDiscard discard = leads_GiveDiscard discard
leads_discard PutRun discard = rests_PutRun discard

leads_put_on_list : (s : PutOnListSpot) (put : PutOnList) → AtSpot (InPutOnList s put)
leads_put_on_list LoadList put = leads_LoadList put
leads_put_on_list WalkString put = leads_WalkString put
leads_put_on_list LinkString put = leads_LinkString put
leads_put_on_list PushString put = leads_PushString put

leads_free : (s : FreeSpot) → AtSpot (InFree s)
leads_free TakeBoard = leads_TakeBoard
leads_free LoadOwn = leads_LoadOwn
leads_free LinkOwn = leads_LinkOwn
leads_free Push = leads_Push
leads_free LoadSlab = leads_LoadSlab
leads_free LinkSlab = leads_LinkSlab
leads_free FreeSlab = leads_FreeSlab
leads_free LockFree = leads_LockFree
leads_free LoadLocked = leads_LoadLocked
leads_free GoBack = leads_GoBack
leads_free LinkLocked = leads_LinkLocked
leads_free FreeLocked = leads_FreeLocked
leads_free GiveFree = leads_GiveFree
leads_free LoadCount = leads_LoadCount
leads_free TakeSet = leads_TakeSet
leads_free TakeOff = rests_TakeOff

leads_move_set : (s : MoveSetSpot) (move : MoveSet) → AtSpot (InMoveSet s move)
leads_move_set LockMove move = leads_LockMove move
leads_move_set FollowSet move = leads_FollowSet move
leads_move_set LoadMoved move = leads_LoadMoved move
leads_move_set ListSlab move = leads_ListSlab move
leads_move_set GiveMove move = leads_GiveMove move
leads_move_set ChooseFront move = rests_ChooseFront move
leads_move_set PutTail move = rests_PutTail move

leads_offline : (s : OfflineSpot) (sweep : Sweep) → AtSpot (InOffline s sweep)
leads_offline LoadCurrent sweep = leads_LoadCurrent sweep
leads_offline DetachCurrent sweep = leads_DetachCurrent sweep
leads_offline TakeCurrent sweep = leads_TakeCurrent sweep

leads_trim : (s : TrimSpot) → AtSpot (InTrim s)
leads_trim LockTrim = leads_LockTrim
leads_trim LoadScanned = leads_LoadScanned
leads_trim GiveTrim = leads_GiveTrim
leads_trim ScanNode = rests_ScanNode
leads_trim DropScanned = rests_DropScanned

leads_checked : (s : CheckedSpot) (kind : CallKind) → AtSpot (InChecked s kind)
leads_checked LockChecked kind = leads_LockChecked kind
leads_checked LockRun kind = leads_LockRun kind
leads_checked GiveRun kind = leads_GiveRun kind
leads_checked GiveChecked kind = leads_GiveChecked kind
leads_checked DoChecked kind = rests_DoChecked kind
leads_checked MoveRun kind = rests_MoveRun kind
leads_checked AddSlab kind = rests_AddSlab kind

pub leads : (spot : Spot) → AtSpot spot
leads Between = rests_Between
leads (InAlloc s) = leads_alloc s
leads (InPutAway s away) = leads_put_away s away
leads (InDiscard s discard) = leads_discard s discard
leads (InPutOnList s put) = leads_put_on_list s put
leads (InFree s) = leads_free s
leads (InMoveSet s move) = leads_move_set s move
leads (InOffline s sweep) = leads_offline s sweep
leads (InTrim s) = leads_trim s
leads (InChecked s kind) = leads_checked s kind
leads WriteWord = leads_WriteWord
leads ReadWord = leads_ReadWord
