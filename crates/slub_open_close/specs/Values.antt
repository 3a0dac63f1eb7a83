-- What the locks of the caches guard, of the lists and checked slabs by cache number.
use Rattle.std.specs.Prelude.{◌≡◌, ℕ, ◌<◌, ◌≤◌, cond, not, ◌&&◌, true, false, Bool, List, [], length, slice_index_or, vec_capacity, Option, None, is_some}
use Rattle.slub_cache_create.specs.Table.{Table, cache_of}
use Rattle.slub_red_zone.specs.State.{CheckedState}
use Rattle.slub_core.specs.World.{LockValue}
use Rattle.slub_law_opening.specs.Opening.{node_value}
use Rattle.slub_open_close.specs.declared.opened.KeptNode.{KeptNode}
use Rattle.slub_open_close.specs.declared.opened.KeptNode.TheVariants.{Whole, Counts}

abbrev pub value_at : Table → List (List ℕ) → List (Option CheckedState) → ℕ → LockValue
value_at table nodes checked cache =
    node_value (is_some (cache_of table cache)) (slice_index_or checked cache None)
    (slice_index_or nodes cache [])

-- the lock of the cache guards its node list
abbrev pub has_node : Table → List (Option CheckedState) → ℕ → Bool
has_node table checked cache =
    is_some (cache_of table cache) && not (is_some (slice_index_or checked cache None))

-- the room of the node list behind it; 0 where there is none
abbrev pub room_at : Table → List (Option CheckedState) → ℕ → ℕ
room_at table checked cache = cond (has_node table checked cache) 4095 0

-- of a node list behind its lock the room for its counts is left, else the list
abbrev pub IsKeptOf : Bool → List ℕ → KeptNode → Type 0
IsKeptOf has frames (Whole node) = (has ≡ false) × (node ≡ frames)
IsKeptOf has frames (Counts counts) = (has ≡ true) × (4095 ≤ vec_capacity counts)

-- by cache number
abbrev pub AreKept : Table → List (List ℕ) → List (Option CheckedState) → List KeptNode → Type 0
AreKept table nodes checked kept =
    (cache : ℕ) (otherwise : KeptNode) → cache < length kept
    → IsKeptOf (has_node table checked cache) (slice_index_or nodes cache [])
    (slice_index_or kept cache otherwise)
