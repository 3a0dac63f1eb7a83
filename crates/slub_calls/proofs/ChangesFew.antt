-- A call changes its CPU word twice at most.
use Rattle.std.proofs.Common.{ℕ, ◌+◌, ◌≤◌, ◌&&◌, eqb, cond, Bool, true, false, length, Option, Some, None, arith}
use Rattle.std.specs.Prelude.{is_some}
use Rattle.std.specs.Option.{option_map_or}
use Rattle.slub_lists.specs.declared.lists.Held.{Held}
use Rattle.slub_lists.specs.State.{State}
use Rattle.slub_lists.specs.Alloc.{checked_of, lists_of}
use Rattle.slub_lists.specs.Coherent.{held_under}
use Rattle.slub_lists.specs.Free.{is_current, is_freeable}
use Rattle.slub_core.specs.World.{one_if}
use Rattle.slub_calls.specs.Changes.{changes_of_alloc, changes_of_free, changes_of_held}

one_few : (z : Bool) → one_if z ≤ 1
one_few true = omega arith
one_few false = omega arith

-- an allocation does so twice at most
pub alloc_few : (s : State) (k cpu : ℕ) (given : Bool) → changes_of_alloc s k cpu given ≤ 2
alloc_few s k cpu given = by (is_some (checked_of s k))
  where
    by : (z : Bool) → cond {A = ℕ} z 0 (one_if (eqb (length (lists_of s k cpu).free) 0 && is_some (lists_of s k cpu).current) + one_if given) ≤ 2
    by true = omega arith
    by false = omega (arith, one_few (eqb (length (lists_of s k cpu).free) 0 && is_some (lists_of s k cpu).current), one_few given)

-- and a free once
pub free_few : (s : State) (cpu worker object : ℕ) → changes_of_free s cpu worker object ≤ 1
free_few s cpu worker object = of_named (held_under s object)
  where
    of_held : (held : Held) (z : Bool) → cond {A = ℕ} z 0 (one_if (is_freeable worker held.worker && is_current held.frame (lists_of s held.cache cpu).current)) ≤ 1
    of_held held true = omega arith
    of_held held false = one_few (is_freeable worker held.worker && is_current held.frame (lists_of s held.cache cpu).current)

    of_named : (o : Option Held) → option_map_or (changes_of_held s cpu worker) o 0 ≤ 1
    of_named None = omega arith
    of_named (Some held) = of_held held (is_some (checked_of s held.cache))
