-- Slots byte by byte: what is whole, what is written, and what is told.
use Rattle.std.specs.Prelude.{◌≡◌, ◌≢◌, ℕ, ◌<◌, ◌≤◌, List, length, slice_index, All, Any, Contains, pos}
use Rattle.slub_object_layout.specs.declared.layout.Layout.{Layout}
use Rattle.slub_trace.specs.declared.damage.Damage.{Damage}
use Rattle.slub_red_zone.specs.declared.zones.Part.{Part}
use Rattle.slub_red_zone.specs.Steps.{place_of}

-- this place of a slot is one of the part's
abbrev pub IsIn : Part → ℕ → Type 0
IsIn part place = (part.from ≤ place) × (place < part.to)

-- it is one of some part's
abbrev pub IsInSome : List Part → ℕ → Type 0
IsInSome parts place = Any (λ part. IsIn part place) parts

-- every byte of the part is the wanted one
abbrev pub IsWhole : List ℕ → Part → Type 0
IsWhole slot part = (place : ℕ) → IsIn part place → slice_index slot place ≡ part.wanted

-- every byte of each of these parts is
abbrev pub AreWhole : List ℕ → List Part → Type 0
AreWhole slot parts = All (IsWhole slot) parts

-- each of these parts is whole, and every other byte is as it was
pub record IsWritten (old : List ℕ) (parts : List Part) (new : List ℕ) : Type 0 where
  pub whole : AreWhole new parts
  pub others : (place : ℕ) → ¬ IsInSome parts place → slice_index new place ≡ slice_index old place
  pub as_long : length new ≡ length old

-- the damage is a byte of one of these parts, as it stands in the slot, and it isn't the wanted one
pub record Tells (layout : Layout) (slot : List ℕ) (parts : List Part) (damage : Damage)
    : Type 0 where
  pub part : Part
  pub place : ℕ
  pub of_these : Contains parts part
  pub inside : IsIn part place
  pub zone : damage.zone ≡ part.zone
  pub offset : place_of layout damage.offset ≡ pos place
  pub found : damage.found ≡ slice_index slot place
  pub wanted : damage.wanted ≡ part.wanted
  pub other : damage.found ≢ damage.wanted
