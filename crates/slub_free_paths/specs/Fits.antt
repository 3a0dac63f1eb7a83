-- `do_slab_free`, `__slab_free`, `deactivate_slab` and their kin: where the numbers of a step fit
-- into their words, and what a change under a lock finds there.
use Rattle.std.specs.Prelude.{◌≤◌, ℕ, ◌≡◌, ◌+◌, ◌<◌, ◌^◌, List, length}
use Rattle.slub_common.specs.Times.{times}
use Rattle.slub_page_pool.specs.Block.{CanPut}
use Rattle.slub_core.specs.declared.spot.FreeSpot.{FreeSpot}
use Rattle.slub_core.specs.declared.spot.FreeSpot.TheVariants.{Push, FreeSlab, FreeLocked, TakeOff}
use Rattle.slub_core.specs.declared.spot.PutOnList.{PutOnList}
use Rattle.slub_core.specs.declared.spot.PutOnListSpot.{PutOnListSpot}
use Rattle.slub_core.specs.declared.spot.PutOnListSpot.TheVariants.{WalkString, PushString}
use Rattle.slub_core.specs.declared.spot.PutAwaySpot.{PutAwaySpot}
use Rattle.slub_core.specs.declared.spot.PutAwaySpot.TheVariants.{WalkChain, PutNode}
use Rattle.slub_core.specs.declared.spot.Discard.{Discard}
use Rattle.slub_core.specs.declared.spot.DiscardSpot.{DiscardSpot}
use Rattle.slub_core.specs.declared.spot.DiscardSpot.TheVariants.{Unmake, PutRun}
use Rattle.slub_core.specs.declared.spot.MoveSetSpot.{MoveSetSpot}
use Rattle.slub_core.specs.declared.spot.MoveSetSpot.TheVariants.{ChooseFront, FollowSet, PutTail}
use Rattle.slub_core.specs.Setup.{pool_lock}
use Rattle.slub_core.specs.World.{pool_in}
use Rattle.slub_core.specs.Local.{Local, here, hand_of, string_of, run_of, call_of}
use Rattle.slub_core.specs.Alloc.{node_of}
use Rattle.slub_core.specs.PutOnList.{puts}
use Rattle.slub_core.specs.Discard.{counts_for}
use Rattle.slub_core.specs.declared.guarded.Guarded.{Guarded}
use Rattle.slub_core.specs.declared.call.CallKind.{CallKind}
use Rattle.slub_core.specs.Calls.{call_kind, call_word}
use Rattle.slub_core.specs.Values.{values_of, HasRoomAt, HasPool}
use Rattle.slub_core.specs.Ways.{HasTid}

-- a push has room for one step of the transaction id, and what is put before a freelist has an
-- index that leaves room for one more
abbrev pub FreeFits : ℕ → Local → FreeSpot → Type 0
FreeFits step l Push = HasTid step l × ((here l).index < 65535)
FreeFits step l FreeSlab = (here l).index < 65535
FreeFits step l FreeLocked = (here l).index < 65535
FreeFits step l _ = Unit {0}

-- a walk along a string comes to one slab more, and what an allocation has put there is counted
abbrev pub PutOnListFits : Local → PutOnListSpot → PutOnList → Type 0
PutOnListFits l WalkString put = (string_of l).place < 65535
PutOnListFits l PushString put = l.put + puts put < 2 ^ 32
PutOnListFits l _ put = Unit {0}

-- a walk along a chain comes to one object more
abbrev pub PutAwayFits : Local → PutAwaySpot → Type 0
PutAwayFits l WalkChain = (hand_of l).length < 65535
PutAwayFits l _ = Unit {0}

-- a slab that a trim tells of is counted
abbrev pub DiscardFits : Local → DiscardSpot → Discard → Type 0
DiscardFits l Unmake discard = l.count + counts_for discard < 2 ^ 32
DiscardFits l _ discard = Unit {0}

-- there is room for one slab more in hand
abbrev pub MoveSetFits : Local → MoveSetSpot → Type 0
MoveSetFits l ChooseFront = length l.hands < 2
MoveSetFits l FollowSet = length l.hands < 2
MoveSetFits l _ = Unit {0}

-- the call is of this kind, and its word is one of the words that a slab can have
abbrev pub UseFits : Local → CallKind → Type 0
UseFits l kind = (call_kind (call_of l) ≡ kind) × (call_word (call_of l) ≤ 4095)

-- the run in hand can come back to the pool, which stands behind its lock
abbrev pub PutsRun : List Guarded → Local → DiscardSpot → Type 0
PutsRun guarded l PutRun =
    HasPool guarded
    × CanPut (pool_in (values_of guarded pool_lock)) (run_of l).frame (run_of l).order
PutsRun guarded l _ = Unit {0}

-- the node list has room for one slab more
abbrev pub PutsAway : List Guarded → Local → PutAwaySpot → Type 0
PutsAway guarded l PutNode = HasRoomAt guarded l.cache
PutsAway guarded l _ = Unit {0}

abbrev pub PutsTail : List Guarded → Local → MoveSetSpot → Type 0
PutsTail guarded l PutTail = HasRoomAt guarded l.cache
PutsTail guarded l _ = Unit {0}

-- the slab of the freed object stands on the node list, once
abbrev pub TakesOff : List Guarded → Local → FreeSpot → Type 0
TakesOff guarded l TakeOff = times (here l).frame (node_of (values_of guarded) l) ≡ 1
TakesOff guarded l _ = Unit {0}
