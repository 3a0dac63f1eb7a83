-- What the locks guard, by the number of the lock.
use Rattle.std.specs.Prelude.{ℕ, ◌<◌, List, length, map, slice_index_or}
use Rattle.slub_core.specs.Setup.{node_lock, pool_lock}
use Rattle.slub_core.specs.World.{LockValue}
use Rattle.slub_core.specs.World as value
use Rattle.slub_core.specs.declared.guarded.Guarded.{Guarded}
use Rattle.slub_core.specs.declared.guarded.Guarded.TheVariants.{Nothing, Node, Checked, Pool}

abbrev pub value_in : Guarded → LockValue
value_in Nothing = value.Nothing
value_in (Node list) = value.Node list.frames
value_in (Checked slabs) = value.Checked slabs
value_in (Pool pool) = value.Pool pool

-- nothing, where there is no such lock
abbrev pub values_of : List Guarded → ℕ → LockValue
values_of guarded n = value_in (slice_index_or guarded n Nothing)

-- for how many slabs there is room in a node list
abbrev pub room_in : Guarded → ℕ
room_in Nothing = 0
room_in (Node list) = list.room
room_in (Checked slabs) = 0
room_in (Pool pool) = 0

-- for how many slabs there is room in each node list
abbrev pub rooms_of : List Guarded → List ℕ
rooms_of guarded = map room_in guarded

-- there is room for one slab more
abbrev pub HasRoom : Guarded → Type 0
HasRoom Nothing = ⊥
HasRoom (Node list) = length list.frames < list.room
HasRoom (Checked slabs) = ⊥
HasRoom (Pool pool) = ⊥

-- on the node list of a cache
abbrev pub HasRoomAt : List Guarded → ℕ → Type 0
HasRoomAt guarded cache = HasRoom (slice_index_or guarded (node_lock cache) Nothing)

-- it is the pool
abbrev pub IsPoolValue : Guarded → Type 0
IsPoolValue Nothing = ⊥
IsPoolValue (Node list) = ⊥
IsPoolValue (Checked slabs) = ⊥
IsPoolValue (Pool pool) = Unit {0}

-- the pool stands behind its lock
abbrev pub HasPool : List Guarded → Type 0
HasPool guarded = IsPoolValue (slice_index_or guarded pool_lock Nothing)
