-- `slab_alloc_node`, `___slab_alloc`: what a spot of an allocation asks of the worker: that its
-- numbers fit into their words, and that it has a hand free.
use Rattle.std.specs.Prelude.{ℕ, ◌+◌, ◌^◌, ◌<◌, List, length}
use Rattle.slub_core.specs.declared.spot.AllocSpot.{AllocSpot}
use Rattle.slub_core.specs.declared.spot.AllocSpot.TheVariants.{Pop, Detach, TakeList, FollowFront, PopNode, TakeRun, Make, LoadReady, DetachOther, Install}
use Rattle.slub_core.specs.Local.{Local, hand_of}
use Rattle.slub_core.specs.declared.guarded.Guarded.{Guarded}
use Rattle.slub_core.specs.Values.{HasPool}
use Rattle.slub_core.specs.Ways.{HasTid}

-- no more than one slab is in hand
abbrev pub HasHand : Local → Type 0
HasHand l = length l.hands < 2

-- where each change adds `step` to a transaction id
abbrev pub AllocFits : ℕ → Local → AllocSpot → Type 0
AllocFits step l Pop = HasTid step l
AllocFits step l Detach = HasTid step l × HasHand l
AllocFits step l TakeList = HasHand l
AllocFits step l FollowFront = HasHand l
AllocFits step l Make = HasHand l
AllocFits step l LoadReady = (hand_of l).length + 1 < 2 ^ 16
AllocFits step l DetachOther = HasTid step l × HasHand l
AllocFits step l Install = HasTid step l
AllocFits step l _ = Unit {0}

-- what is done at once at a spot has a hand free and finds the pool
abbrev pub AtOnceFits : List Guarded → Local → AllocSpot → Type 0
AtOnceFits values l PopNode = HasHand l
AtOnceFits values l TakeRun = HasPool values
AtOnceFits values l _ = Unit {0}
