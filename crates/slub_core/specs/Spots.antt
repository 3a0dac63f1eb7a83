-- The table of spots: which locks a worker has at each, what it has in hand, what it has noted and
-- may rely on.
use Rattle.std.specs.Prelude.{ℕ, zero, suc, ◌-◌, Bool, true, false, List, [], ◌∷◌, Option, Some, None}
use Rattle.slub_core.specs.declared.spot.Spot.{Spot}
use Rattle.slub_core.specs.declared.spot.Spot.TheVariants.{Between, InAlloc, InPutAway, InDiscard, InPutOnList, InFree, InMoveSet, InOffline, InTrim, WriteWord, ReadWord, InChecked}
use Rattle.slub_core.specs.declared.spot.AllocSpot.TheVariants.{LoadNext, Pop, Detach, LoadTaken, TakeAll, MarkFull, FollowFront, LoadKept, FreezeKept, PopNode, LoadPopped, FreezePopped, Unlist, GiveNode, TakeRun, GivePool, GiveDry, LinkNew, Make, LoadReady, LoadAgain, DetachOther, Install}
use Rattle.slub_core.specs.declared.spot.Away.{Away}
use Rattle.slub_core.specs.declared.spot.Away.TheVariants.{ForInstall, ForSpent, ForSweep}
use Rattle.slub_core.specs.declared.spot.PutAwaySpot.TheVariants.{WalkChain, LockAway, LoadAway, LinkLast, Unfreeze, PutNode, GiveAway}
use Rattle.slub_core.specs.declared.spot.Discard.{Discard}
use Rattle.slub_core.specs.declared.spot.Discard.TheVariants.{FromAway, FromFree, FromMove, FromTrim}
use Rattle.slub_core.specs.declared.spot.DiscardSpot.TheVariants.{Unmake, LockDiscard, PutRun, GiveDiscard}
use Rattle.slub_core.specs.declared.spot.PutOnList.{PutOnList}
use Rattle.slub_core.specs.declared.spot.PutOnList.TheVariants.{OfRest, OfNode, OfFree}
use Rattle.slub_core.specs.declared.spot.PutOnListSpot.TheVariants.{WalkString, LinkString, PushString}
use Rattle.slub_core.specs.declared.spot.FreeSpot.TheVariants.{TakeBoard, LoadOwn, LinkOwn, Push, LoadSlab, LinkSlab, FreeSlab, LockFree, LoadLocked, GoBack, LinkLocked, FreeLocked, TakeOff, GiveFree, LoadCount, TakeSet}
use Rattle.slub_core.specs.declared.spot.MoveSet.{MoveSet}
use Rattle.slub_core.specs.declared.spot.MoveSet.TheVariants.{ForFree, ForOffline}
use Rattle.slub_core.specs.declared.spot.MoveSetSpot.TheVariants.{LockMove, ChooseFront, FollowSet, LoadMoved, ListSlab, PutTail, GiveMove}
use Rattle.slub_core.specs.declared.spot.Sweep.{Sweep}
use Rattle.slub_core.specs.declared.spot.Sweep.TheVariants.{Trimming, Flushing}
use Rattle.slub_core.specs.declared.spot.OfflineSpot.TheVariants.{DetachCurrent}
use Rattle.slub_core.specs.declared.spot.TrimSpot.TheVariants.{ScanNode, LoadScanned, DropScanned, GiveTrim}
use Rattle.slub_core.specs.declared.spot.CheckedSpot.TheVariants.{LockChecked, DoChecked, LockRun, MoveRun, AddSlab, GiveRun, GiveChecked}
use Rattle.slub_core.specs.declared.call.CallKind.{CallKind}
use Rattle.slub_core.specs.declared.call.CallKind.TheVariants.{Alloc, Free, Write, Read, Poke, Trim, Flush}

-- ---- locks

-- the worker has the node lock of its call's cache (`n->list_lock`)
abbrev pub has_node : Spot → Bool
has_node (InAlloc PopNode) = true
has_node (InAlloc LoadPopped) = true
has_node (InAlloc FreezePopped) = true
has_node (InAlloc Unlist) = true
has_node (InAlloc GiveNode) = true
has_node (InPutAway LoadAway away) = true
has_node (InPutAway LinkLast away) = true
has_node (InPutAway Unfreeze away) = true
has_node (InPutAway PutNode away) = true
has_node (InPutAway GiveAway away) = true
has_node (InDiscard s discard) = true
has_node (InPutOnList s OfNode) = true
has_node (InFree LoadLocked) = true
has_node (InFree GoBack) = true
has_node (InFree LinkLocked) = true
has_node (InFree FreeLocked) = true
has_node (InFree TakeOff) = true
has_node (InFree GiveFree) = true
has_node (InMoveSet ChooseFront move) = true
has_node (InMoveSet FollowSet move) = true
has_node (InMoveSet LoadMoved move) = true
has_node (InMoveSet ListSlab move) = true
has_node (InMoveSet PutTail move) = true
has_node (InMoveSet GiveMove move) = true
has_node (InTrim ScanNode) = true
has_node (InTrim LoadScanned) = true
has_node (InTrim DropScanned) = true
has_node (InTrim GiveTrim) = true
has_node (InChecked DoChecked kind) = true
has_node (InChecked LockRun kind) = true
has_node (InChecked MoveRun kind) = true
has_node (InChecked AddSlab kind) = true
has_node (InChecked GiveRun kind) = true
has_node (InChecked GiveChecked kind) = true
has_node _ = false

-- the worker has the pool's lock, which is taken after a node lock (`zone->lock`)
abbrev pub has_pool : Spot → Bool
has_pool (InAlloc TakeRun) = true
has_pool (InAlloc GivePool) = true
has_pool (InAlloc GiveDry) = true
has_pool (InDiscard PutRun discard) = true
has_pool (InDiscard GiveDiscard discard) = true
has_pool (InChecked MoveRun kind) = true
has_pool (InChecked AddSlab kind) = true
has_pool (InChecked GiveRun kind) = true
has_pool _ = false

-- ---- slabs in hand

-- what a slab in hand is to the worker (profile; the kernel has a local variable `slab` of
-- `___slab_alloc`, `deactivate_slab`, `__slab_free` and `__unfreeze_partials`)
pub data Role : Type 0 where
  -- off a CPU whose freelist was empty: frozen, with no chain in hand
  Taken : Role
  -- to be installed: frozen, with a chain in hand, of which the first object was not loaded yet, or
  -- was
  Ready : Role
  Loaded : Role
  -- to be put away: frozen, with a chain in hand, which may be empty
  Leaving : Role
  -- the same before the end of its chain is stored, which is done again before each try: where it
  -- leads isn't relied on
  Untied : Role
  -- off the node list: marked as listed still, with a free object
  Popped : Role
  -- off a string, or freed into: unfrozen and unmarked, with a free object
  Kept : Role
  -- to be listed or discarded: unfrozen, with a free object
  Loose : Role

-- a slab that is ready, where there is one slab or more (`object` of `get_partial_node`)
abbrev pub ready_of : ℕ → List Role
ready_of zero = []
ready_of (suc n) = Ready ∷ []

-- what a worker keeps beside the slab that it puts away: the one that is to be installed
-- (`retry_load_slab:` of `___slab_alloc`)
abbrev pub beside_away : Away → List Role
beside_away ForInstall = Loaded ∷ []
beside_away ForSpent = []
beside_away (ForSweep sweep) = []

-- beside those that it moves: the freed one (`put_cpu_partial`; the kernel has pushed it already)
abbrev pub beside_move : MoveSet → List Role
beside_move ForFree = Kept ∷ []
beside_move (ForOffline sweep) = []

-- beside one that it discards, by what it discards it in (`deactivate_slab`, `__unfreeze_partials`)
abbrev pub beside_discard : Discard → List Role
beside_discard (FromAway away) = beside_away away
beside_discard FromFree = []
beside_discard (FromMove move) = beside_move move
beside_discard FromTrim = []

-- a slab beside the string that is put on a CPU's list (`___slab_alloc`, `get_partial_node`,
-- `__slab_free`)
abbrev pub beside_put : PutOnList → List Role
beside_put OfRest = Kept ∷ []
beside_put OfNode = Ready ∷ []
beside_put OfFree = []

-- the roles of the slabs in hand, the one that the worker works on first (profile). Only while it
-- asks the node list for slabs (`get_partial_node`) it may have one more or not: n is how many it
-- has
abbrev pub roles : Spot → ℕ → List Role
roles (InAlloc LoadTaken) n = Taken ∷ []
roles (InAlloc TakeAll) n = Taken ∷ []
roles (InAlloc MarkFull) n = Taken ∷ []
roles (InAlloc LoadKept) n = Kept ∷ []
roles (InAlloc FreezeKept) n = Kept ∷ []
roles (InAlloc PopNode) n = ready_of n
roles (InAlloc LoadPopped) n = Popped ∷ ready_of (n - 1)
roles (InAlloc FreezePopped) n = Popped ∷ []
roles (InAlloc Unlist) n = Popped ∷ Ready ∷ []
roles (InAlloc GiveNode) n = ready_of n
roles (InAlloc LoadReady) n = Ready ∷ []
roles (InAlloc LoadAgain) n = Loaded ∷ []
roles (InAlloc DetachOther) n = Loaded ∷ []
roles (InAlloc Install) n = Loaded ∷ []
roles (InPutAway WalkChain away) n = Leaving ∷ beside_away away
roles (InPutAway LockAway away) n = Leaving ∷ beside_away away
roles (InPutAway LoadAway away) n = Untied ∷ beside_away away
roles (InPutAway LinkLast away) n = Untied ∷ beside_away away
roles (InPutAway Unfreeze away) n = Leaving ∷ beside_away away
roles (InPutAway PutNode away) n = Loose ∷ beside_away away
roles (InPutAway GiveAway away) n = beside_away away
roles (InDiscard Unmake discard) n = Loose ∷ beside_discard discard
roles (InDiscard LockDiscard discard) n = beside_discard discard
roles (InDiscard PutRun discard) n = beside_discard discard
roles (InDiscard GiveDiscard discard) n = beside_discard discard
roles (InPutOnList s put) n = beside_put put
roles (InFree LoadCount) n = Kept ∷ []
roles (InFree TakeSet) n = Kept ∷ []
roles (InMoveSet LoadMoved move) n = Kept ∷ beside_move move
roles (InMoveSet ListSlab move) n = Kept ∷ beside_move move
roles (InMoveSet PutTail move) n = Loose ∷ beside_move move
roles (InMoveSet LockMove move) n = beside_move move
roles (InMoveSet ChooseFront move) n = beside_move move
roles (InMoveSet FollowSet move) n = beside_move move
roles (InMoveSet GiveMove move) n = beside_move move
roles _ n = []

-- the slab that the worker works on is marked as listed, though it is on no list (profile)
abbrev pub is_marked : Spot → Bool
is_marked (InAlloc LoadPopped) = true
is_marked (InAlloc FreezePopped) = true
is_marked (InAlloc Unlist) = true
is_marked (InPutAway PutNode away) = true
is_marked (InDiscard Unmake FromFree) = true
is_marked (InDiscard Unmake FromTrim) = true
is_marked (InMoveSet PutTail move) = true
is_marked _ = false

-- of a chain in hand the end is stored: it leads to the slab's own head (`deactivate_slab`)
abbrev pub is_linked : Spot → Bool
is_linked (InPutAway Unfreeze away) = true
is_linked _ = false

-- the chain in hand is to be walked on (stage one of `deactivate_slab`)
abbrev pub is_walking : Spot → Bool
is_walking (InPutAway WalkChain away) = true
is_walking _ = false

-- it was walked to its end, where it isn't empty (stage two of `deactivate_slab`)
abbrev pub is_walked : Spot → Bool
is_walked (InPutAway LockAway away) = true
is_walked (InPutAway LoadAway away) = true
is_walked (InPutAway LinkLast away) = true
is_walked (InPutAway Unfreeze away) = true
is_walked _ = false

-- a slab without an object in use is about to be discarded (`discard_slab`)
abbrev pub is_emptied : Spot → Bool
is_emptied (InDiscard Unmake discard) = true
is_emptied _ = false

-- ---- strings and runs in hand

-- how many slabs a string in hand has at least, where there is to be one (profile)
abbrev pub least_string : Spot → ℕ
least_string (InAlloc FollowFront) = 2
least_string (InPutOnList s put) = 1
least_string (InMoveSet LockMove move) = 1
least_string (InMoveSet FollowSet move) = 2
least_string _ = 0

-- a string may be in hand (`partial_slab` of `__unfreeze_partials`; of an allocation profile)
abbrev pub may_string : Spot → Bool
may_string (InAlloc FollowFront) = true
may_string (InPutOnList s put) = true
may_string (InMoveSet LockMove move) = true
may_string (InMoveSet ChooseFront move) = true
may_string (InMoveSet FollowSet move) = true
may_string (InMoveSet LoadMoved move) = true
may_string (InMoveSet ListSlab move) = true
may_string (InMoveSet PutTail move) = true
may_string (InDiscard s (FromMove move)) = true
may_string _ = false

-- the last slab of the string in hand leads to nothing, as that of a list does
-- (`__unfreeze_partials`)
abbrev pub ends_string : Spot → Bool
ends_string (InAlloc FollowFront) = true
ends_string (InMoveSet s move) = true
ends_string (InDiscard s (FromMove move)) = true
ends_string _ = false

-- a run is in hand; at any other spot none is (`allocate_slab`, `__free_slab`)
abbrev pub has_run : Spot → Bool
has_run (InAlloc GivePool) = true
has_run (InAlloc (LinkNew i)) = true
has_run (InAlloc Make) = true
has_run (InDiscard LockDiscard discard) = true
has_run (InDiscard PutRun discard) = true
has_run (InChecked LockRun Alloc) = false
has_run (InChecked LockRun kind) = true
has_run (InChecked MoveRun Alloc) = false
has_run (InChecked MoveRun kind) = true
has_run (InChecked AddSlab kind) = true
has_run _ = false

-- how many free pointers of a run in hand were stored, of so many objects (`allocate_slab`)
abbrev pub stored_in : Spot → ℕ → ℕ
stored_in (InAlloc (LinkNew i)) objects = i
stored_in (InAlloc Make) objects = objects
stored_in _ objects = 0

-- the next free pointer of it is to be stored (`allocate_slab`)
abbrev pub links_new : Spot → Bool
links_new (InAlloc (LinkNew i)) = true
links_new _ = false

-- ---- notes

-- a noted CPU word is relied on: where its transaction id stands, nothing has changed
-- (`this_cpu_cmpxchg_double` of `slab_alloc_node` and `do_slab_free`; at the other spots profile)
abbrev pub notes_cpu : Spot → Bool
notes_cpu (InAlloc LoadNext) = true
notes_cpu (InAlloc Pop) = true
notes_cpu (InAlloc Detach) = true
notes_cpu (InAlloc DetachOther) = true
notes_cpu (InAlloc Install) = true
notes_cpu (InFree LinkOwn) = true
notes_cpu (InFree Push) = true
notes_cpu (InOffline DetachCurrent sweep) = true
notes_cpu _ = false

-- and its transaction id isn't spent (profile)
abbrev pub is_fresh : Spot → Bool
is_fresh (InAlloc LoadNext) = true
is_fresh (InAlloc Pop) = true
is_fresh (InAlloc Detach) = true
is_fresh (InAlloc DetachOther) = true
is_fresh (InAlloc Install) = true
is_fresh (InFree LinkOwn) = true
is_fresh (InFree Push) = true
is_fresh _ = false

-- it has an object to take (`slab_alloc_node`)
abbrev pub takes_head : Spot → Bool
takes_head (InAlloc LoadNext) = true
takes_head (InAlloc Pop) = true
takes_head _ = false

-- it has a slab to take off (`___slab_alloc`, `flush_slab`)
abbrev pub detaches : Spot → Bool
detaches (InAlloc Detach) = true
detaches (InAlloc DetachOther) = true
detaches (InOffline DetachCurrent sweep) = true
detaches _ = false

-- and that slab has no object on the CPU freelist (`___slab_alloc`)
abbrev pub detaches_empty : Spot → Bool
detaches_empty (InAlloc Detach) = true
detaches_empty _ = false

-- it has neither (`load_freelist:` of `___slab_alloc`)
abbrev pub installs : Spot → Bool
installs (InAlloc Install) = true
installs _ = false

-- the noted next is that of the noted head (`get_freepointer_safe` of `slab_alloc_node`)
abbrev pub notes_next : Spot → Bool
notes_next (InAlloc Pop) = true
notes_next _ = false

-- the noted CPU word is of the slab of the object that is freed (`do_slab_free`)
abbrev pub pushes : Spot → Bool
pushes (InFree LinkOwn) = true
pushes (InFree Push) = true
pushes _ = false

-- the noted slab word has a free object (`get_freelist`)
abbrev pub notes_some : Spot → Bool
notes_some (InAlloc TakeAll) = true
notes_some _ = false

-- or has none (`get_freelist`)
abbrev pub notes_none : Spot → Bool
notes_none (InAlloc MarkFull) = true
notes_none _ = false

-- as many objects are in use as the chain in hand has, at least (`free_delta` of `deactivate_slab`)
abbrev pub notes_away : Spot → Bool
notes_away (InPutAway LinkLast away) = true
notes_away (InPutAway Unfreeze away) = true
notes_away _ = false

-- the chain in hand isn't empty (`freelist_tail` of `deactivate_slab`)
abbrev pub links_last : Spot → Bool
links_last (InPutAway LinkLast away) = true
links_last _ = false

-- the noted slab word is of the slab of the object that is freed, which is in use: without the node
-- lock (`__slab_free`)
abbrev pub frees_open : Spot → Bool
frees_open (InFree LinkSlab) = true
frees_open (InFree FreeSlab) = true
frees_open _ = false

-- the same with the node lock (`__slab_free`)
abbrev pub frees_locked : Spot → Bool
frees_locked (InFree LinkLocked) = true
frees_locked (InFree FreeLocked) = true
frees_locked _ = false

-- the slab of the freed object is empty: it was the last one of a listed slab (`!new.inuse` of
-- `__slab_free`)
abbrev pub has_freed_last : Spot → Bool
has_freed_last (InFree TakeOff) = true
has_freed_last _ = false

-- the noted slab word is unfrozen and unmarked, with a free object (profile: in
-- `__unfreeze_partials` it is frozen)
abbrev pub notes_kept : Spot → Bool
notes_kept (InMoveSet ListSlab move) = true
notes_kept _ = false

-- the noted slab of the node list has no object in use (`__kmem_cache_do_shrink`)
abbrev pub notes_scanned : Spot → Bool
notes_scanned (InTrim DropScanned) = true
notes_scanned _ = false

-- the noted list word is that which the string is put before (`put_cpu_partial`)
abbrev pub notes_list : Spot → Bool
notes_list (InPutOnList WalkString put) = true
notes_list (InPutOnList LinkString put) = true
notes_list (InPutOnList PushString put) = true
notes_list _ = false

-- the walk along the string is to go on (profile)
abbrev pub walks_string : Spot → Bool
walks_string (InPutOnList WalkString put) = true
walks_string _ = false

-- it has come to its end (`slab->next = oldslab` of `put_cpu_partial`)
abbrev pub links_string : Spot → Bool
links_string (InPutOnList LinkString put) = true
links_string _ = false

-- or needn't go on (`put_cpu_partial`)
abbrev pub pushes_string : Spot → Bool
pushes_string (InPutOnList PushString put) = true
pushes_string _ = false

-- the scan of a trim is under way (`__kmem_cache_do_shrink`)
abbrev pub scans : Spot → Bool
scans (InTrim ScanNode) = true
scans (InTrim LoadScanned) = true
scans (InTrim DropScanned) = true
scans (InDiscard s FromTrim) = true
scans _ = false

-- and has a slab before it (`__kmem_cache_do_shrink`)
abbrev pub scans_next : Spot → Bool
scans_next (InTrim LoadScanned) = true
scans_next (InTrim DropScanned) = true
scans_next _ = false

-- ---- the object of the call

-- the head of the CPU's freelist is stored in the object (`do_slab_free`)
abbrev pub links_cpu : Spot → Bool
links_cpu (InFree Push) = true
links_cpu _ = false

-- or the head of the slab's (`__slab_free`)
abbrev pub links_slab : Spot → Bool
links_slab (InFree FreeSlab) = true
links_slab (InFree FreeLocked) = true
links_slab _ = false

-- an object of an unchecked cache is held, and is being freed: a free pointer may stand in it
-- (`do_slab_free`, `__slab_free`)
abbrev pub frees : Spot → Bool
frees (InFree LoadOwn) = true
frees (InFree LinkOwn) = true
frees (InFree Push) = true
frees (InFree LoadSlab) = true
frees (InFree LinkSlab) = true
frees (InFree FreeSlab) = true
frees (InFree LockFree) = true
frees (InFree LoadLocked) = true
frees (InFree GoBack) = true
frees (InFree LinkLocked) = true
frees (InFree FreeLocked) = true
frees _ = false

-- the same, of an object of an unchecked or of a checked cache (`free_debug_processing`)
abbrev pub is_freeing : Spot → Bool
is_freeing (InChecked LockChecked Free) = true
is_freeing (InChecked DoChecked Free) = true
is_freeing s = frees s

-- it is held, and written or read (profile)
abbrev pub uses : Spot → Bool
uses WriteWord = true
uses ReadWord = true
uses _ = false

-- the word that is written or read lies in the object (profile)
abbrev pub uses_word : Spot → Bool
uses_word WriteWord = true
uses_word ReadWord = true
uses_word (InChecked LockChecked Write) = true
uses_word (InChecked LockChecked Read) = true
uses_word (InChecked DoChecked Write) = true
uses_word (InChecked DoChecked Read) = true
uses_word _ = false

-- a call of this kind is of an object that is held (profile)
abbrev pub keeps_kind : CallKind → Bool
keeps_kind Free = true
keeps_kind Write = true
keeps_kind Read = true
keeps_kind _ = false

-- an object of a checked cache is held, and freed (`free_debug_processing`), written or read
-- (profile)
abbrev pub keeps : Spot → Bool
keeps (InChecked LockChecked kind) = keeps_kind kind
keeps (InChecked DoChecked kind) = keeps_kind kind
keeps _ = false

-- it is known, and poked (profile)
abbrev pub pokes : Spot → Bool
pokes (InChecked LockChecked Poke) = true
pokes (InChecked DoChecked Poke) = true
pokes _ = false

-- it is to be taken from the board, where it has a number from 1 on (profile)
abbrev pub takes_board : Spot → Bool
takes_board (InFree TakeBoard) = true
takes_board _ = false

-- it isn't held, since it is to be given (`slab_alloc_node`) or to be taken from the board
-- (profile)
abbrev pub awaits : Spot → Bool
awaits (InAlloc GiveDry) = false
awaits (InAlloc s) = true
awaits (InPutAway s ForInstall) = true
awaits (InDiscard s (FromAway ForInstall)) = true
awaits (InPutOnList s OfRest) = true
awaits (InPutOnList s OfNode) = true
awaits (InFree TakeBoard) = true
awaits (InChecked LockChecked Alloc) = true
awaits (InChecked DoChecked Alloc) = true
awaits (InChecked LockRun Alloc) = true
awaits (InChecked MoveRun Alloc) = true
awaits (InChecked AddSlab kind) = true
awaits _ = false

-- ---- the call

-- its cache is live and checked (`kmem_cache_debug`)
abbrev pub in_checked : Spot → Bool
in_checked (InChecked s kind) = true
in_checked _ = false

-- its cache is live and unchecked; where its object isn't known yet it is neither (profile)
abbrev pub in_plain : Spot → Bool
in_plain Between = false
in_plain (InFree TakeBoard) = false
in_plain (InChecked s kind) = false
in_plain _ = true

-- what a sweep is part of: a trim (`flush_all`) or a flush (`slub_cpu_dead`)
abbrev pub of_sweep : Sweep → Option CallKind
of_sweep Trimming = Some Trim
of_sweep Flushing = Some Flush

-- what putting a slab away is part of, while that call has no reply yet (`___slab_alloc`,
-- `__flush_cpu_slab`)
abbrev pub of_away : Away → Option CallKind
of_away ForInstall = Some Alloc
of_away ForSpent = None
of_away (ForSweep sweep) = of_sweep sweep

-- the same of a string that is moved (`put_cpu_partial`, `unfreeze_partials`)
abbrev pub of_move : MoveSet → Option CallKind
of_move ForFree = None
of_move (ForOffline sweep) = of_sweep sweep

-- and of a slab that is discarded (`discard_slab`)
abbrev pub of_discard : Discard → Option CallKind
of_discard (FromAway away) = of_away away
of_discard FromFree = None
of_discard (FromMove move) = of_move move
of_discard FromTrim = Some Trim

-- the kind of the call that has no reply yet (profile)
abbrev pub doing : Spot → Option CallKind
doing Between = None
doing (InAlloc GiveDry) = None
doing (InAlloc s) = Some Alloc
doing (InPutAway s away) = of_away away
doing (InDiscard s discard) = of_discard discard
doing (InPutOnList s OfFree) = None
doing (InPutOnList s put) = Some Alloc
doing (InFree TakeOff) = None
doing (InFree GiveFree) = None
doing (InFree LoadCount) = None
doing (InFree TakeSet) = None
doing (InFree s) = Some Free
doing (InMoveSet s move) = of_move move
doing (InOffline s sweep) = of_sweep sweep
doing (InTrim s) = Some Trim
doing WriteWord = Some Write
doing ReadWord = Some Read
doing (InChecked LockChecked kind) = Some kind
doing (InChecked DoChecked kind) = Some kind
doing (InChecked LockRun Alloc) = Some Alloc
doing (InChecked MoveRun Alloc) = Some Alloc
doing (InChecked AddSlab kind) = Some Alloc
doing (InChecked s kind) = None
