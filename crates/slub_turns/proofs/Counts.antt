-- What is counted at each spot: slabs that an allocation puts on the CPU's partial list, and what a trim or a flush is to tell.
use Rattle.std.proofs.Common.{◌+◌, ◌^◌, ◌<◌, ◌≤◌, arith}
use Rattle.slub_core.specs.declared.spot.Spot.{Spot}
use Rattle.slub_core.specs.declared.spot.Spot.TheVariants.{InDiscard, InPutOnList, InOffline}
use Rattle.slub_core.specs.declared.spot.Away.{Away}
use Rattle.slub_core.specs.declared.spot.Away.TheVariants.{ForInstall, ForSpent, ForSweep}
use Rattle.slub_core.specs.declared.spot.PutOnList.{PutOnList}
use Rattle.slub_core.specs.declared.spot.PutOnList.TheVariants.{OfRest, OfNode, OfFree}
use Rattle.slub_core.specs.declared.spot.PutOnListSpot.TheVariants.{PushString}
use Rattle.slub_core.specs.declared.spot.Discard.{Discard}
use Rattle.slub_core.specs.declared.spot.Discard.TheVariants.{FromAway, FromFree, FromMove, FromTrim}
use Rattle.slub_core.specs.declared.spot.DiscardSpot.TheVariants.{Unmake}
use Rattle.slub_core.specs.declared.spot.MoveSet.{MoveSet}
use Rattle.slub_core.specs.declared.spot.MoveSet.TheVariants.{ForFree, ForOffline}
use Rattle.slub_core.specs.declared.spot.Sweep.{Sweep}
use Rattle.slub_core.specs.declared.spot.Sweep.TheVariants.{Trimming, Flushing}
use Rattle.slub_core.specs.declared.spot.OfflineSpot.TheVariants.{DetachCurrent, TakeCurrent}
use Rattle.slub_core.specs.Local.{Local}
use Rattle.slub_core.specs.PutOnList.{puts}
use Rattle.slub_core.specs.Offline.{if_trimming}
use Rattle.slub_core.specs.Discard.{counts_for}
use Rattle.slub_turns.specs.Fits.{LeavesRoom}

-- what is counted next has room
abbrev pub CountsFit : Local → Spot → Type 0
CountsFit l (InPutOnList PushString put) = l.put + puts put < 2 ^ 32
CountsFit l (InDiscard Unmake discard) = l.count + counts_for discard < 2 ^ 32
CountsFit l (InOffline DetachCurrent sweep) = l.count + 1 < 2 ^ 32
CountsFit l (InOffline TakeCurrent sweep) = l.count + 2 ^ 16 ≤ 2 ^ 32
CountsFit l _ = Unit {0}

-- it is one slab at most
puts-one : (put : PutOnList) → puts put ≤ 1
puts-one OfRest = omega arith
puts-one OfNode = omega arith
puts-one OfFree = omega arith

trimming-one : (sweep : Sweep) → if_trimming sweep 1 ≤ 1
trimming-one Trimming = omega arith
trimming-one Flushing = omega arith

away-one : (away : Away) → counts_for (FromAway away) ≤ 1
away-one ForInstall = omega arith
away-one ForSpent = omega arith
away-one (ForSweep sweep) = trimming-one sweep

move-one : (move : MoveSet) → counts_for (FromMove move) ≤ 1
move-one ForFree = omega arith
move-one (ForOffline sweep) = trimming-one sweep

counts-one : (discard : Discard) → counts_for discard ≤ 1
counts-one (FromAway away) = away-one away
counts-one FromFree = omega arith
counts-one (FromMove move) = move-one move
counts-one FromTrim = omega arith

pub counts-fit : (l : Local) (spot : Spot) → LeavesRoom l → CountsFit l spot
counts-fit l (InPutOnList PushString put) room = let p = room.put in let one = puts-one put in omega arith
counts-fit l (InDiscard Unmake discard) room = let c = room.count in let one = counts-one discard in omega arith
counts-fit l (InOffline DetachCurrent sweep) room = let c = room.count in omega arith
counts-fit l (InOffline TakeCurrent sweep) room = room.count
counts-fit l _ room = tt
