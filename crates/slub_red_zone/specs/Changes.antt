-- Which bytes of the objects' slots each call changes.
use Rattle.std.specs.Prelude.{◌≡◌, ◌≢◌, ◌⊎◌, ℕ, ◌+◌, ◌*◌, ◌<◌, ◌≤◌, slice_index, slice_set, Result, Ok, Err, ℤ, nat_abs}
use Rattle.slub_trace.specs.declared.damage.Damage.{Damage}
use Rattle.slub_red_zone.specs.declared.checked.CheckedGive.{CheckedGive}
use Rattle.slub_red_zone.specs.declared.checked.CheckedGive.TheVariants.{Given, Empty}
use Rattle.slub_red_zone.specs.declared.checked.OutOfSlot.{OutOfSlot}
use Rattle.slub_red_zone.specs.declared.checked.Slot.{Slot}
use Rattle.slub_red_zone.specs.State.{CheckedState, slab_of, objects_in, bytes_of}
use Rattle.slub_red_zone.specs.Zones.{red_active, red_inactive, written}
use Rattle.slub_red_zone.specs.Steps.{place_of}
use Rattle.slub_red_zone.specs.Bytes.{IsWritten}

-- there is this object
abbrev pub IsObject : CheckedState → Slot → Type 0
IsObject s slot = slot.index < objects_in (slab_of s slot.frame)

-- every object's slot has the bytes that it had
abbrev pub KeepsBytes : CheckedState → CheckedState → Type 0
KeepsBytes old new = (slot : Slot) → IsObject old slot → bytes_of new slot ≡ bytes_of old slot

-- every other object's
abbrev pub KeepsOtherBytes : CheckedState → Slot → CheckedState → Type 0
KeepsOtherBytes old slot new =
    (other : Slot) → other ≢ slot → IsObject old other → bytes_of new other ≡ bytes_of old other

-- the parts of the object's slot are written, with this byte in its red zones, and no other byte is
pub record SetsUp (old : CheckedState) (slot : Slot) (byte : ℕ) (new : CheckedState) : Type 0 where
  pub this : IsWritten (bytes_of old slot) (written old.layout old.flags byte) (bytes_of new slot)
  pub others : KeepsOtherBytes old slot new

-- the object that is given is set up as used
abbrev pub GivesBytes : CheckedState → CheckedGive → CheckedState → Type 0
GivesBytes old (Given slot) new = SetsUp old slot red_active new
GivesBytes old Empty new = KeepsBytes old new

-- the object that is taken back is set up as free
abbrev pub TakesBytes : CheckedState → Slot → Result (Unit {0}) Damage → CheckedState → Type 0
TakesBytes old slot (Ok _) new = SetsUp old slot red_inactive new
TakesBytes old slot (Err _) new = KeepsBytes old new

-- one byte of the slot is another
pub record PokesByte (old : CheckedState) (slot : Slot) (offset : ℤ) (byte : ℕ) (new : CheckedState)
    : Type 0 where
  pub this :
      let place = nat_abs (place_of old.layout offset) in
      bytes_of new slot ≡ slice_set (bytes_of old slot) place byte
  pub others : KeepsOtherBytes old slot new

abbrev pub PokesBytes : CheckedState → Slot → ℤ → ℕ → Result (Unit {0}) OutOfSlot → CheckedState
    → Type 0
PokesBytes old slot offset byte (Ok _) new = PokesByte old slot offset byte new
PokesBytes old slot offset byte (Err _) new = KeepsBytes old new

-- the place of a slot is none of those of a word of its object
abbrev pub IsOffWord : CheckedState → ℕ → ℕ → Type 0
IsOffWord s word place =
    let from = s.layout.left_pad + 8 * word in (place < from) ⊎ (from + 8 ≤ place)

-- no byte is written but those of the word
pub record WritesWord (old : CheckedState) (slot : Slot) (word : ℕ) (new : CheckedState)
    : Type 0 where
  pub this : (place : ℕ) → IsOffWord old word place
      → slice_index (bytes_of new slot) place ≡ slice_index (bytes_of old slot) place
  pub others : KeepsOtherBytes old slot new
