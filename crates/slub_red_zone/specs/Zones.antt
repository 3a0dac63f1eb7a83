-- The checked bytes of a slot, and the first that is damaged: the table above `check_pad_bytes`,
-- `check_object` and `init_object` of Linux 6.1.
use Rattle.std.specs.Prelude.{ℕ, ◌+◌, ◌-◌, List, [], ◌∷◌, ◌++◌, take, drop, replicate, fold, position, slice_index, slice_range, Option, None, option_map, not, ◌==◌, if◌then◌else◌, pos, ◌-ℤ◌}
use Rattle.std.specs.Option.{option_or}
use Rattle.slub_object_layout.specs.declared.layout.Flags.{Flags}
use Rattle.slub_object_layout.specs.declared.layout.Layout.{Layout}
use Rattle.slub_trace.specs.declared.damage.Damage.{Damage}
use Rattle.slub_red_zone.specs.declared.zones.Part.{Part}
use Rattle.slub_trace.specs.declared.damage.Zone.TheVariants.{Left, Right, Poison, End, Padding}

-- ---- the bytes (`include/linux/poison.h`)

-- in the red zones of a free object: 0xbb (`SLUB_RED_INACTIVE`)
abbrev pub red_inactive : ℕ
red_inactive = 187

-- in the red zones of a used object: 0xcc (`SLUB_RED_ACTIVE`)
abbrev pub red_active : ℕ
red_active = 204

-- in the padding: 0x5a (`POISON_INUSE`)
abbrev pub padding_byte : ℕ
padding_byte = 90

-- in a free object: 0x6b (`POISON_FREE`)
abbrev pub poison_byte : ℕ
poison_byte = 107

-- its last byte: 0xa5 (`POISON_END`)
abbrev pub poison_end : ℕ
poison_end = 165

-- ---- the parts of a slot: places count from its first byte, the object begins at place left_pad

-- the red zone before the object
abbrev pub left_zone : Layout → ℕ → Part
left_zone layout byte = record { zone = Left; from = 0; to = layout.left_pad; wanted = byte }

-- the red zone behind the object
abbrev pub right_zone : Layout → ℕ → Part
right_zone layout byte = record {
  zone = Right;
  from = layout.left_pad + layout.object_size;
  to = layout.left_pad + layout.inuse;
  wanted = byte;
}

-- the object's bytes but the last
abbrev pub poison_but_end : Layout → Part
poison_but_end layout = record {
  zone = Poison;
  from = layout.left_pad;
  to = layout.left_pad + layout.object_size - 1;
  wanted = poison_byte;
}

-- the object's last byte
abbrev pub poison_last : Layout → Part
poison_last layout = record {
  zone = End;
  from = layout.left_pad + layout.object_size - 1;
  to = layout.left_pad + layout.object_size;
  wanted = poison_end;
}

-- what is left of the slot behind the free pointer (`check_pad_bytes`)
abbrev pub padding_part : Layout → Part
padding_part layout = record {
  zone = Padding;
  from = layout.left_pad + layout.offset + 8;
  to = layout.size;
  wanted = padding_byte;
}

-- the red zones, where Z is set
abbrev pub red_zones : Layout → Flags → ℕ → List Part
red_zones layout flags byte =
    if flags.zones then (left_zone layout byte ∷ right_zone layout byte ∷ []) else []

-- the poison with its end, where P is set
abbrev pub poison : Layout → Flags → List Part
poison layout flags = if flags.poison then (poison_but_end layout ∷ poison_last layout ∷ []) else []

-- the padding, where P is set
abbrev pub padding : Layout → Flags → List Part
padding layout flags = if flags.poison then (padding_part layout ∷ []) else []

-- what is examined before an object is given, in this order (profile: the padding as well)
abbrev pub examined_free : Layout → Flags → List Part
examined_free layout flags =
    red_zones layout flags red_inactive ++ poison layout flags ++ padding layout flags

-- what is examined before an object is taken back, in this order (profile: the padding as well)
abbrev pub examined_used : Layout → Flags → List Part
examined_used layout flags = red_zones layout flags red_active ++ padding layout flags

-- what is written when an object is set up, with this byte in its red zones
abbrev pub written : Layout → Flags → ℕ → List Part
written layout flags byte = red_zones layout flags byte ++ poison layout flags

-- ---- the first damage

-- the damage at a place of a slot
abbrev pub damage_at : Layout → List ℕ → Part → ℕ → Damage
damage_at layout slot part place = record {
  zone = part.zone;
  offset = pos place -ℤ pos layout.left_pad;
  found = slice_index slot place;
  wanted = part.wanted;
}

-- the first byte of a part that isn't the wanted one
abbrev pub damage_in : Layout → List ℕ → Part → Option Damage
damage_in layout slot part =
    let first = position (λ byte. not (byte == part.wanted)) (slice_range slot part.from part.to) in
    option_map (λ at. damage_at layout slot part (part.from + at)) first

-- the first damage in these parts, in their order (`check_bytes_and_report`)
abbrev pub first_damage : Layout → List ℕ → List Part → Option Damage
first_damage layout slot [] = None
first_damage layout slot (part ∷ parts) =
    option_or (damage_in layout slot part) (first_damage layout slot parts)

-- what keeps a free object from being given, where F is set (`alloc_debug_processing`)
abbrev pub damage_when_given : Layout → Flags → List ℕ → Option Damage
damage_when_given layout flags slot =
    if flags.checks then first_damage layout slot (examined_free layout flags) else None

-- what keeps a used object from being taken back, where F is set (`free_debug_processing`)
abbrev pub damage_when_taken : Layout → Flags → List ℕ → Option Damage
damage_when_taken layout flags slot =
    if flags.checks then first_damage layout slot (examined_used layout flags) else None

-- ---- setting up

-- the slot with this part's byte in each of the part's places
abbrev pub with_part : List ℕ → Part → List ℕ
with_part slot part =
    take part.from slot ++ replicate (part.to - part.from) part.wanted ++ drop part.to slot

-- the slot of an object that is set up with this byte in its red zones; all other bytes stay
-- (`init_object`)
unfoldable pub set_up : Layout → Flags → ℕ → List ℕ → List ℕ
set_up layout flags byte slot = fold with_part slot (written layout flags byte)

-- the bytes of a slot of a new slab, before its object is set up (profile: 0 where P isn't set)
abbrev pub fill_byte : Flags → ℕ
fill_byte flags = if flags.poison then padding_byte else 0

-- the slot of an object of a new slab (`setup_slab_debug`, `setup_object_debug`)
abbrev pub new_slot : Layout → Flags → List ℕ
new_slot layout flags = set_up layout flags red_inactive (replicate layout.size (fill_byte flags))
