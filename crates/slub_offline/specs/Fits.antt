-- `__flush_cpu_slab`, `__kmem_cache_do_shrink`: where the numbers of a step fit into their words,
-- and what a change under the node lock finds there.
use Rattle.std.specs.Prelude.{◌≡◌, ℕ, ◌+◌, ◌<◌, ◌≤◌, ◌^◌, length}
use Rattle.slub_common.specs.Times.{times}
use Rattle.slub_core.specs.declared.spot.OfflineSpot.{OfflineSpot}
use Rattle.slub_core.specs.declared.spot.OfflineSpot.TheVariants.{DetachCurrent, TakeCurrent}
use Rattle.slub_core.specs.declared.spot.TrimSpot.{TrimSpot}
use Rattle.slub_core.specs.declared.spot.TrimSpot.TheVariants.{ScanNode, LoadScanned, DropScanned}
use Rattle.slub_core.specs.Setup.{node_lock}
use Rattle.slub_core.specs.World.{LockValue, Nothing, Node, Checked, Pool}
use Rattle.slub_core.specs.Local.{Local}
use Rattle.slub_core.specs.Alloc.{node_of}
use Rattle.slub_core.specs.Offline.{scanned_slab}
use Rattle.slub_core.specs.Ways.{HasTid}

-- a detach has room for one step of the transaction id
abbrev pub OfflineFits : ℕ → Local → OfflineSpot → Type 0
OfflineFits step l DetachCurrent = HasTid step l
OfflineFits step l _ = Unit {0}

-- there is room for one slab more in hand, and what a flush tells leaves room for those of a list
abbrev pub OfflineRoom : Local → OfflineSpot → Type 0
OfflineRoom l DetachCurrent = (length l.hands < 2) × (l.count + 1 < 2 ^ 32)
OfflineRoom l TakeCurrent = l.count + 2 ^ 16 ≤ 2 ^ 32
OfflineRoom l _ = Unit {0}

-- a scan comes by one slab more of a node list
abbrev pub TrimFits : Local → TrimSpot → Type 0
TrimFits l LoadScanned = length l.scanned < 4096
TrimFits l _ = Unit {0}

-- it is a node list
abbrev pub IsNodeList : LockValue → Type 0
IsNodeList Nothing = ⊥
IsNodeList (Node frames) = Unit {0}
IsNodeList (Checked slabs) = ⊥
IsNodeList (Pool pool) = ⊥

-- the scan has come by no more slabs than the node list has; the slab that it has come to stands
-- there once, and there is room for it in hand
abbrev pub MayScan : (ℕ → LockValue) → Local → TrimSpot → Type 0
MayScan value l ScanNode = IsNodeList (value (node_lock l.cache))
    × (length l.scanned ≤ length (node_of value l))
MayScan value l DropScanned = (length l.scanned < length (node_of value l))
    × (times (scanned_slab value l) (node_of value l) ≡ 1) × (length l.hands < 2)
MayScan value l _ = Unit {0}
