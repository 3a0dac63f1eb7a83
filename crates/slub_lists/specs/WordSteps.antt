-- Profile, for proofs and private clauses: what the steps of a write, a read and a poke hand to one
-- another.
use Rattle.std.specs.Prelude.{◌≡◌, ℕ, ℤ, Some, Result}
use Rattle.slub_red_zone.specs.Objects.{KeepsObjects}
use Rattle.slub_red_zone.specs.State.{CheckedState}
use Rattle.slub_red_zone.specs.Steps.{Pokes, with_word as slab_word}
use Rattle.slub_red_zone.specs.declared.checked.OutOfSlot.{OutOfSlot}
use Rattle.slub_red_zone.specs.declared.checked.Slot.{Slot}
use Rattle.slub_lists.specs.declared.lists.Held.{Held}
use Rattle.slub_lists.specs.State.{State}
use Rattle.slub_lists.specs.CheckedSteps.{Swaps}
use Rattle.slub_lists.specs.Coherent.{KeepsOthers, held_under}

-- a number on the board names this object
pub record IsHeld (s : State) (held : Held) : Type 0 where
  pub object : ℕ
  pub here : held_under s object ≡ Some held

-- whichever number is written about, the others keep what they name
abbrev pub KeepsAll : State → State → Type 0
KeepsAll s after = (object : ℕ) → KeepsOthers s object after

-- a word of an object is written in its slab
pub record WritesIn (s : State) (cache : ℕ) (slot : Slot) (word value : ℕ)
    (after : State) : Type 0 where
  pub slabs : CheckedState
  pub rest : CheckedState
  pub swaps : Swaps s cache slabs rest after
  pub written : rest ≡ slab_word slabs slot word value
  pub objects : KeepsObjects slabs rest

-- a byte of a slot is written in its slab
pub record PokesIn (s : State) (cache : ℕ) (slot : Slot) (offset : ℤ) (byte : ℕ)
    (answer : Result (Unit {0}) OutOfSlot) (after : State) : Type 0 where
  pub slabs : CheckedState
  pub rest : CheckedState
  pub swaps : Swaps s cache slabs rest after
  pub pokes : Pokes slabs slot offset byte answer rest
  pub objects : KeepsObjects slabs rest
