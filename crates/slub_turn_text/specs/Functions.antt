-- The functions of `mm/slub.c`, one for each spot: the one that makes the step. What the kernel has not is
-- `profile`.
use Rattle.std.specs.Prelude.{ℕ, List, codes}
use Rattle.slub_core.specs.declared.spot.Spot.{Spot}
use Rattle.slub_core.specs.declared.spot.Spot.TheVariants.{Between, InAlloc, InPutAway, InDiscard, InPutOnList, InFree, InMoveSet, InOffline, InTrim, WriteWord, ReadWord, InChecked}
use Rattle.slub_core.specs.declared.spot.AllocSpot.{AllocSpot}
use Rattle.slub_core.specs.declared.spot.AllocSpot.TheVariants as alloc
use Rattle.slub_core.specs.declared.spot.PutAwaySpot.{PutAwaySpot}
use Rattle.slub_core.specs.declared.spot.PutAwaySpot.TheVariants as away
use Rattle.slub_core.specs.declared.spot.DiscardSpot.{DiscardSpot}
use Rattle.slub_core.specs.declared.spot.DiscardSpot.TheVariants as discard
use Rattle.slub_core.specs.declared.spot.PutOnListSpot.{PutOnListSpot}
use Rattle.slub_core.specs.declared.spot.PutOnListSpot.TheVariants as put
use Rattle.slub_core.specs.declared.spot.FreeSpot.{FreeSpot}
use Rattle.slub_core.specs.declared.spot.FreeSpot.TheVariants as free
use Rattle.slub_core.specs.declared.spot.MoveSetSpot.{MoveSetSpot}
use Rattle.slub_core.specs.declared.spot.MoveSetSpot.TheVariants as move
use Rattle.slub_core.specs.declared.spot.OfflineSpot.{OfflineSpot}
use Rattle.slub_core.specs.declared.spot.OfflineSpot.TheVariants as offline
use Rattle.slub_core.specs.declared.spot.TrimSpot.{TrimSpot}
use Rattle.slub_core.specs.declared.spot.TrimSpot.TheVariants as trim
use Rattle.slub_core.specs.declared.spot.CheckedSpot.{CheckedSpot}
use Rattle.slub_core.specs.declared.spot.CheckedSpot.TheVariants as checked
use Rattle.slub_core.specs.declared.call.CallKind.{CallKind}
use Rattle.slub_core.specs.declared.call.CallKind.TheVariants as kind

abbrev pub alloc_function : AllocSpot → List ℕ
alloc_function alloc.LoadCpu = codes "slab_alloc_node"
alloc_function alloc.LoadNext = codes "get_freepointer_safe"
alloc_function alloc.Pop = codes "slab_alloc_node"
alloc_function alloc.Detach = codes "___slab_alloc"
alloc_function alloc.LoadTaken = codes "get_freelist"
alloc_function alloc.TakeAll = codes "get_freelist"
alloc_function alloc.MarkFull = codes "get_freelist"
alloc_function alloc.TakeList = codes "___slab_alloc"
alloc_function alloc.FollowFront = codes "___slab_alloc"
alloc_function alloc.LoadKept = codes "get_freelist"
alloc_function alloc.FreezeKept = codes "get_freelist"
alloc_function alloc.LockNode = codes "get_partial_node"
alloc_function alloc.PopNode = codes "get_partial_node"
alloc_function alloc.LoadPopped = codes "acquire_slab"
alloc_function alloc.FreezePopped = codes "acquire_slab"
alloc_function alloc.Unlist = codes "acquire_slab"
alloc_function alloc.GiveNode = codes "get_partial_node"
alloc_function alloc.LockPool = codes "alloc_slab_page"
alloc_function alloc.TakeRun = codes "allocate_slab"
alloc_function alloc.GivePool = codes "alloc_slab_page"
alloc_function alloc.GiveDry = codes "alloc_slab_page"
alloc_function (alloc.LinkNew index) = codes "allocate_slab"
alloc_function alloc.Make = codes "new_slab"
alloc_function alloc.LoadReady = codes "get_freepointer"
alloc_function alloc.LoadAgain = codes "___slab_alloc"
alloc_function alloc.DetachOther = codes "deactivate_slab"
alloc_function alloc.Install = codes "___slab_alloc"

abbrev pub away_function : PutAwaySpot → List ℕ
away_function away.WalkChain = codes "deactivate_slab"
away_function away.LockAway = codes "deactivate_slab"
away_function away.LoadAway = codes "deactivate_slab"
away_function away.LinkLast = codes "set_freepointer"
away_function away.Unfreeze = codes "deactivate_slab"
away_function away.PutNode = codes "add_partial"
away_function away.GiveAway = codes "deactivate_slab"

abbrev pub discard_function : DiscardSpot → List ℕ
discard_function discard.Unmake = codes "free_slab"
discard_function discard.LockDiscard = codes "__free_slab"
discard_function discard.PutRun = codes "__free_pages"
discard_function discard.GiveDiscard = codes "__free_slab"

abbrev pub put_function : PutOnListSpot → List ℕ
put_function put.LoadList = codes "put_cpu_partial"
put_function put.WalkString = codes "put_cpu_partial"
put_function put.LinkString = codes "put_cpu_partial"
put_function put.PushString = codes "put_cpu_partial"

abbrev pub free_function : FreeSpot → List ℕ
free_function free.TakeBoard = codes "profile"
free_function free.LoadOwn = codes "do_slab_free"
free_function free.LinkOwn = codes "set_freepointer"
free_function free.Push = codes "do_slab_free"
free_function free.LoadSlab = codes "__slab_free"
free_function free.LinkSlab = codes "set_freepointer"
free_function free.FreeSlab = codes "__slab_free"
free_function free.LockFree = codes "__slab_free"
free_function free.LoadLocked = codes "__slab_free"
free_function free.GoBack = codes "__slab_free"
free_function free.LinkLocked = codes "set_freepointer"
free_function free.FreeLocked = codes "__slab_free"
free_function free.TakeOff = codes "remove_partial"
free_function free.GiveFree = codes "__slab_free"
free_function free.LoadCount = codes "put_cpu_partial"
free_function free.TakeSet = codes "put_cpu_partial"

abbrev pub move_function : MoveSetSpot → List ℕ
move_function move.LockMove = codes "__unfreeze_partials"
move_function move.ChooseFront = codes "__unfreeze_partials"
move_function move.FollowSet = codes "__unfreeze_partials"
move_function move.LoadMoved = codes "__unfreeze_partials"
move_function move.ListSlab = codes "__unfreeze_partials"
move_function move.PutTail = codes "add_partial"
move_function move.GiveMove = codes "__unfreeze_partials"

abbrev pub offline_function : OfflineSpot → List ℕ
offline_function offline.LoadCurrent = codes "__flush_cpu_slab"
offline_function offline.DetachCurrent = codes "flush_slab"
offline_function offline.TakeCurrent = codes "unfreeze_partials"

abbrev pub trim_function : TrimSpot → List ℕ
trim_function trim.LockTrim = codes "__kmem_cache_do_shrink"
trim_function trim.ScanNode = codes "__kmem_cache_do_shrink"
trim_function trim.LoadScanned = codes "__kmem_cache_do_shrink"
trim_function trim.DropScanned = codes "__kmem_cache_do_shrink"
trim_function trim.GiveTrim = codes "__kmem_cache_do_shrink"

-- the call itself, under the node lock, by its kind
abbrev pub call_function : CallKind → List ℕ
call_function kind.Alloc = codes "alloc_single_from_partial"
call_function kind.Free = codes "free_debug_processing"
call_function kind.Write = codes "profile"
call_function kind.Read = codes "profile"
call_function kind.Poke = codes "profile"
call_function kind.Trim = codes "profile"
call_function kind.Flush = codes "profile"

-- the pool's lock, for the run of a new slab or of one that goes
abbrev pub run_lock_function : CallKind → List ℕ
run_lock_function kind.Alloc = codes "alloc_slab_page"
run_lock_function kind.Free = codes "__free_slab"
run_lock_function kind.Write = codes "__free_slab"
run_lock_function kind.Read = codes "__free_slab"
run_lock_function kind.Poke = codes "__free_slab"
run_lock_function kind.Trim = codes "__free_slab"
run_lock_function kind.Flush = codes "__free_slab"

-- that run
abbrev pub run_function : CallKind → List ℕ
run_function kind.Alloc = codes "allocate_slab"
run_function kind.Free = codes "__free_pages"
run_function kind.Write = codes "__free_pages"
run_function kind.Read = codes "__free_pages"
run_function kind.Poke = codes "__free_pages"
run_function kind.Trim = codes "__free_pages"
run_function kind.Flush = codes "__free_pages"

abbrev pub checked_function : CheckedSpot → CallKind → List ℕ
checked_function checked.LockChecked kind = call_function kind
checked_function checked.DoChecked kind = call_function kind
checked_function checked.LockRun kind = run_lock_function kind
checked_function checked.MoveRun kind = run_function kind
checked_function checked.AddSlab kind = codes "alloc_single_from_new_slab"
checked_function checked.GiveRun kind = run_lock_function kind
checked_function checked.GiveChecked kind = call_function kind

unfoldable pub function_of : Spot → List ℕ
function_of Between = codes "profile"
function_of (InAlloc s) = alloc_function s
function_of (InPutAway s for) = away_function s
function_of (InDiscard s from) = discard_function s
function_of (InPutOnList s for) = put_function s
function_of (InFree s) = free_function s
function_of (InMoveSet s for) = move_function s
function_of (InOffline s sweep) = offline_function s
function_of (InTrim s) = trim_function s
function_of WriteWord = codes "profile"
function_of ReadWord = codes "profile"
function_of (InChecked s kind) = checked_function s kind
