-- How often an act changes a CPU word at most.
use Rattle.std.specs.Prelude.{ℕ, ◌≤◌, Bool}
use Rattle.slub_lists.specs.State.{State}
use Rattle.slub_calls.specs.Changes.{changes_of_alloc, changes_of_free}

-- an allocation twice
abbrev pub AllocationsChangeTwice : Type 0
AllocationsChangeTwice =
    (s : State) (cache cpu : ℕ) (given : Bool) → changes_of_alloc s cache cpu given ≤ 2

-- a free once
abbrev pub FreesChangeOnce : Type 0
FreesChangeOnce = (s : State) (cpu worker object : ℕ) → changes_of_free s cpu worker object ≤ 1
