-- Which locks a worker has, and what a step does to them.
use Rattle.std.specs.Prelude.{ℕ, ◌==◌, cond, List, [], ◌∷◌, ◌++◌, map, slice_index_or, slice_set}
use Rattle.slub_core.specs.declared.step.Place.{Place}
use Rattle.slub_core.specs.declared.step.Place.TheVariants.{LockOf}
use Rattle.slub_core.specs.declared.step.Op.{Op}
use Rattle.slub_core.specs.declared.step.Op.TheVariants.{Load, Store, Swap, Exchange}
use Rattle.slub_core.specs.declared.step.Step.{Step}
use Rattle.slub_core.specs.Setup.{node_lock, pool_lock}
use Rattle.slub_core.specs.Spots.{has_node, has_pool}
use Rattle.slub_core.specs.Local.{Local}
use Rattle.slub_core.specs.declared.guarded.Guarded.{Guarded}
use Rattle.slub_core.specs.declared.guarded.Guarded.TheVariants.{Nothing}

-- ---- the locks of a worker

-- the locks that it has, the one that it took last first: the pool's lock is taken after a node's
abbrev pub locks_of : Local → List ℕ
locks_of l =
    cond (has_pool l.spot) (pool_lock ∷ []) []
    ++ cond (has_node l.spot) (node_lock l.cache ∷ []) []

-- ---- what a step does to a lock

pub data Move : Type 0 where
  -- no lock is taken or given back
  Stays : Move
  Takes : (lock : ℕ) → Move
  Gives : (lock : ℕ) → Move

abbrev pub move_by : ℕ → Op → ℕ → Move
move_by lock Load found = Stays
move_by lock (Store value) found = Gives lock
move_by lock (Swap value) found = Stays
move_by lock (Exchange from to) found = cond (found == from) (Takes lock) Stays

abbrev pub move_at : Place → Op → ℕ → Move
move_at (LockOf lock) op found = move_by lock op found
move_at _ op found = Stays

-- of a step that finds this in its word
abbrev pub move_of : Step → ℕ → Move
move_of step found = move_at step.place step.op found

-- ---- what the locks guard that a worker has, by the number of the lock

-- there is no value of a lock that it hasn't
abbrev pub values_moved : Move → Guarded → List Guarded → List Guarded
values_moved Stays value values = values
values_moved (Takes lock) value values = slice_set values lock value
values_moved (Gives lock) value values = slice_set values lock Nothing

-- what it gives back with a lock
abbrev pub value_given : ℕ → List Guarded → Guarded
value_given lock values = slice_index_or values lock Nothing

-- the slots that its seat holds, the one taken last first; what they guard is in its hand
abbrev pub slots_out : List ℕ → List (ℕ × Guarded)
slots_out locks = map (λ lock. (lock, Nothing)) locks
