-- What a checked cache gives: the first free object of the first slab, but slabs whose first free
-- object is damaged are set aside before.
use Rattle.std.specs.Prelude.{ℕ, List, [], ◌∷◌, slice_index, Option, Some, None}
use Rattle.slub_trace.specs.declared.damage.Damage.{Damage}
use Rattle.slub_red_zone.specs.declared.checked.CheckedGive.{CheckedGive}
use Rattle.slub_red_zone.specs.declared.checked.CheckedGive.TheVariants.{Given, Empty}
use Rattle.slub_red_zone.specs.declared.checked.Slot.{Slot}
use Rattle.slub_red_zone.specs.State.{CheckedState, slab_of}
use Rattle.slub_red_zone.specs.Steps.{damage_of_free, with_given, with_damaged}

-- the answer, and the slabs after it
pub record Gift : Type 0 where
  pub answer : CheckedGive
  pub after : CheckedState

-- the first free object of a slab
abbrev pub first_free : CheckedState → ℕ → Slot
first_free s frame = record { frame = frame; index = slice_index (slab_of s frame).free 0 }

abbrev pub or_next : Gift → (Damage → Gift) → Option Damage → Gift
or_next gift more None = gift
or_next gift more (Some damage) = more damage

-- of these slabs
abbrev pub gift_from : List ℕ → CheckedState → Gift
gift_from [] s = record { answer = Empty; after = s }
gift_from (frame ∷ frames) s =
    let slot = first_free s frame in
    or_next (record { answer = Given slot; after = with_given s slot })
    (λ damage. gift_from frames (with_damaged s slot damage)) (damage_of_free s slot)

abbrev pub gift_of : CheckedState → Gift
gift_of s = gift_from s.listed s

abbrev pub gave_of : CheckedState → CheckedGive
gave_of s = (gift_of s).answer

abbrev pub give_of : CheckedState → CheckedState
give_of s = (gift_of s).after
