-- What the three functions find, as it is proved.
use Rattle.std.specs.Prelude.{◌≡◌, ℕ, ◌≤◌, List, length}
use Rattle.slub_page_pool.specs.FreeFrames.{FreeFrames, IsPool}
use Rattle.slub_page_pool.specs.Block.{Takes}
use Rattle.slub_red_zone.specs.State.{CheckedState}
use Rattle.slub_red_zone.specs.Sound.{IsSound}
use Rattle.slub_red_zone.specs.Steps.{Gives}
use Rattle.slub_node_partial.specs.Promotion.{IsPromoted}
use Rattle.slub_core.specs.Setup.{pool_after}
use Rattle.slub_core.specs.Takes.{take_of}
use Rattle.slub_core.specs.Gifts.{gave_of, give_of}
use Rattle.slub_core.specs.Orders.{promote_of}

abbrev pub PoolsGive : Type 0
PoolsGive = (pool : FreeFrames) (order : ℕ) → IsPool pool → order ≤ 10
    → Takes pool order (take_of pool order) (pool_after pool order (take_of pool order))

abbrev pub CheckedCachesGive : Type 0
CheckedCachesGive = (s : CheckedState) → IsSound s → Gives s (gave_of s) (give_of s)

abbrev pub ListsArePromoted : Type 0
ListsArePromoted = (frames counts : List ℕ) → length counts ≡ length frames
    → IsPromoted frames counts (promote_of frames counts)
