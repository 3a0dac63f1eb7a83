-- What a lock guards, and what was kept of its cache's node list, put together again.
use Rattle.std.specs.Prelude.{◌≡◌, ◌≤◌, [], vec_capacity}
use Rattle.slub_core.specs.declared.guarded.Guarded.{Guarded}
use Rattle.slub_core.specs.declared.guarded.Guarded.TheVariants.{Nothing, Node, Checked, Pool}
use Rattle.slub_open_close.specs.declared.opened.KeptNode.{KeptNode}
use Rattle.slub_open_close.specs.declared.opened.KeptNode.TheVariants.{Whole, Counts}

-- a list goes back to the room for its counts; where the lock guards none, the list that was kept
-- is empty
abbrev pub Joins : Guarded → KeptNode → Type 0
Joins Nothing (Whole node) = node ≡ []
Joins Nothing (Counts counts) = ⊥
Joins (Node list) (Whole node) = ⊥
Joins (Node list) (Counts counts) = (list.room ≡ 4095) × (4095 ≤ vec_capacity counts)
Joins (Checked slabs) (Whole node) = node ≡ []
Joins (Checked slabs) (Counts counts) = ⊥
Joins (Pool pool) kept = ⊥
