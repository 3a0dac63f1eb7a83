-- What each call does to the slabs of a checked cache.
use Rattle.std.specs.Prelude.{if◌then◌else◌, ◌≡◌, ℕ, ◌+◌, ◌*◌, ◌≤◌, ◌++◌, not, ◌==◌, List, [], ◌∷◌, length, map, take, drop, replicate, filter, Option, None, Some, Result, Ok, Err, slice_set, slice_range, ℤ, pos, ◌+ℤ◌, ◌≤ℤ◌, ◌<ℤ◌, nat_abs}
use Rattle.std.specs.Int.{w64, from_le_bytes, to_le_bytes}
use Rattle.std.specs.List.{range_with_len, concat}
use Rattle.slub_object_layout.specs.declared.layout.Flags.{Flags}
use Rattle.slub_object_layout.specs.declared.layout.Layout.{Layout}
use Rattle.slub_object_layout.specs.Layout.{address_of}
use Rattle.slub_trace.specs.declared.damage.Damage.{Damage}
use Rattle.slub_trace.specs.declared.damage.Report.{Report}
use Rattle.slub_red_zone.specs.declared.slab.ObjectState.{ObjectState}
use Rattle.slub_red_zone.specs.declared.slab.ObjectState.TheVariants.{Free, Used, Aside}
use Rattle.slub_red_zone.specs.declared.checked.CheckedGive.{CheckedGive}
use Rattle.slub_red_zone.specs.declared.checked.CheckedGive.TheVariants.{Given, Empty}
use Rattle.slub_red_zone.specs.declared.checked.OutOfSlot.{OutOfSlot}
use Rattle.slub_red_zone.specs.declared.checked.Run.{Run}
use Rattle.slub_red_zone.specs.declared.checked.Slot.{Slot}
use Rattle.slub_common.specs.declared.no_memory.NoMemory.{NoMemory}
use Rattle.slub_red_zone.specs.Zones.{red_inactive, red_active, damage_when_given, damage_when_taken, set_up, new_slot}
use Rattle.slub_red_zone.specs.State.{SlabState, CheckedState, slab_of, slot_of, bytes_of, with_slab, with_slot, objects_in}

-- ---- the opening

-- a machine has 4096 frames at most (profile), and none of them has a slab
unfoldable pub no_slabs : List (Option SlabState)
no_slabs = replicate 4096 None

-- there is no slab, and nothing was found
abbrev pub opening : Layout → Flags → ℕ → CheckedState
opening layout flags cache = record {
  layout = layout;
  flags = flags;
  cache = cache;
  slabs = no_slabs;
  listed = [];
  reports = [];
}

-- ---- giving

-- an object is set up as used, and is the front of its slab's free objects no more
abbrev pub slab_with_given : Layout → Flags → SlabState → ℕ → SlabState
slab_with_given layout flags slab index = record slab {
  bytes =
      let slot = slot_of layout slab.bytes index in
      with_slot layout slab.bytes index (set_up layout flags red_active slot);
  states = slice_set slab.states index Used;
  free = drop 1 slab.free;
}

-- a free object is set aside, any other stays what it is
abbrev pub set_aside : ObjectState → ObjectState
set_aside Free = Aside
set_aside Used = Used
set_aside Aside = Aside

-- every free object is set aside (`alloc_debug_processing`)
abbrev pub slab_set_aside : SlabState → SlabState
slab_set_aside slab = record slab { states = map set_aside slab.states; free = [] }

-- the list without its front where the front slab has no free object left
abbrev pub relisted : List ℕ → SlabState → List ℕ
relisted listed slab = if length slab.free == 0 then drop 1 listed else listed

-- the front slab's first free object is given
abbrev pub with_given : CheckedState → Slot → CheckedState
with_given s slot =
    let slab = slab_with_given s.layout s.flags (slab_of s slot.frame) slot.index in
    record (with_slab s slot.frame slab) { listed = relisted s.listed slab }

-- what is told of a damaged object
abbrev pub report_of : CheckedState → Slot → Damage → Report
report_of s slot damage =
    let address = address_of slot.frame slot.index s.layout in
    record { cache = s.cache; address = address; damage = damage }

-- the front slab's first free object is reported, all its free objects are set aside for good, and
-- it is listed no more (profile: the damaged bytes stay)
abbrev pub with_damaged : CheckedState → Slot → Damage → CheckedState
with_damaged s slot damage =
    record (with_slab s slot.frame (slab_set_aside (slab_of s slot.frame))) {
      listed = drop 1 s.listed;
      reports = s.reports ++ report_of s slot damage ∷ [];
    }

-- the first free object of the first listed slab
pub record IsNext (s : CheckedState) (slot : Slot) : Type 0 where
  pub listed : s.listed ≡ slot.frame ∷ drop 1 s.listed
  pub free : (slab_of s slot.frame).free ≡ slot.index ∷ drop 1 (slab_of s slot.frame).free

-- the damage for which the object of a slot can't be given
abbrev pub damage_of_free : CheckedState → Slot → Option Damage
damage_of_free s slot = damage_when_given s.layout s.flags (bytes_of s slot)

-- one object is given, after each slab whose first free object was found damaged before it
-- (`alloc_single_from_partial`)
pub data Gives : CheckedState → CheckedGive → CheckedState → Type 0 where
  nothing_listed : (s : CheckedState) → s.listed ≡ [] → Gives s Empty s
  next_is_whole : (s : CheckedState) (slot : Slot) → IsNext s slot → damage_of_free s slot ≡ None
      → Gives s (Given slot) (with_given s slot)
  next_is_damaged : (s : CheckedState) (slot : Slot) (damage : Damage) (answer : CheckedGive)
      (after : CheckedState) → IsNext s slot → damage_of_free s slot ≡ Some damage
      → Gives (with_damaged s slot damage) answer after → Gives s answer after

-- ---- taking back

-- an object is set up as free, and is the front of its slab's free objects
abbrev pub slab_with_taken : Layout → Flags → SlabState → ℕ → SlabState
slab_with_taken layout flags slab index = record slab {
  bytes =
      let slot = slot_of layout slab.bytes index in
      with_slot layout slab.bytes index (set_up layout flags red_inactive slot);
  states = slice_set slab.states index Free;
  free = index ∷ slab.free;
}

-- the list with a slab at its end that had no free object
abbrev pub listed_with : List ℕ → ℕ → SlabState → List ℕ
listed_with listed frame slab = if length slab.free == 0 then listed ++ frame ∷ [] else listed

-- a used object is taken back
abbrev pub with_taken : CheckedState → Slot → CheckedState
with_taken s slot =
    let slab = slab_of s slot.frame in
    record (with_slab s slot.frame (slab_with_taken s.layout s.flags slab slot.index)) {
      listed = listed_with s.listed slot.frame slab;
    }

-- the damage for which the object of a slot can't be taken back
abbrev pub damage_of_used : CheckedState → Slot → Option Damage
damage_of_used s slot = damage_when_taken s.layout s.flags (bytes_of s slot)

-- a used object is taken back, or its damage is told and nothing changes (`free_debug_processing`)
abbrev pub TakesBack : CheckedState → Slot → Result (Unit {0}) Damage → CheckedState → Type 0
TakesBack s slot (Ok _) after = (damage_of_used s slot ≡ None) × (after ≡ with_taken s slot)
TakesBack s slot (Err damage) after = (damage_of_used s slot ≡ Some damage) × (after ≡ s)

-- ---- single bytes and words (profile)

-- the place in the slot of the byte at an offset from the object's address
abbrev pub place_of : Layout → ℤ → ℤ
place_of layout offset = pos layout.left_pad +ℤ offset

-- the byte at an offset lies in the object's slot
abbrev pub IsOffset : Layout → ℤ → Type 0
IsOffset layout offset =
    (pos 0 ≤ℤ place_of layout offset) × (place_of layout offset <ℤ pos layout.size)

-- one byte of a slot is written
abbrev pub with_byte : CheckedState → Slot → ℤ → ℕ → CheckedState
with_byte s slot offset byte =
    let slab = slab_of s slot.frame in
    let at = slot.index * s.layout.size + nat_abs (place_of s.layout offset) in
    with_slab s slot.frame (record slab { bytes = slice_set slab.bytes at byte })

-- a byte of the slot is written, or the offset lies outside and nothing changes (profile)
abbrev pub Pokes : CheckedState → Slot → ℤ → ℕ → Result (Unit {0}) OutOfSlot → CheckedState → Type 0
Pokes s slot offset byte (Ok _) after =
    IsOffset s.layout offset × (after ≡ with_byte s slot offset byte)
Pokes s slot offset byte (Err _) after = (¬ IsOffset s.layout offset) × (after ≡ s)

-- where a word of an object begins among the bytes of its slab
abbrev pub word_place : Layout → ℕ → ℕ → ℕ
word_place layout index word = index * layout.size + layout.left_pad + 8 * word

-- eight bytes of an object, little endian
abbrev pub word_of : CheckedState → Slot → ℕ → ℕ
word_of s slot word =
    let at = word_place s.layout slot.index word in
    from_le_bytes w64 (slice_range (slab_of s slot.frame).bytes at (at + 8))

-- one word of an object is written
abbrev pub with_word : CheckedState → Slot → ℕ → ℕ → CheckedState
with_word s slot word value =
    let slab = slab_of s slot.frame in
    let at = word_place s.layout slot.index word in
    with_slab s slot.frame (record slab {
      bytes = take at slab.bytes ++ to_le_bytes w64 value ++ drop (at + 8) slab.bytes;
    })

-- how many objects of each listed slab are free
abbrev pub free_counts : CheckedState → List ℕ
free_counts s = map (λ frame. length (slab_of s frame).free) s.listed

-- ---- slabs that come and go

-- a new slab: every object set up as free, in rising order (`setup_object_debug`)
abbrev pub new_slab : Layout → Flags → ℕ → ℕ → SlabState
new_slab layout flags order objects = record {
  order = order;
  bytes = concat (replicate objects (new_slot layout flags));
  states = replicate objects Free;
  free = range_with_len 0 objects;
}

-- it stands at the head of the listed slabs
abbrev pub with_new_slab : CheckedState → Run → ℕ → CheckedState
with_new_slab s run objects =
    let slab = new_slab s.layout s.flags run.order objects in
    record (with_slab s run.frame slab) { listed = run.frame ∷ s.listed }

-- the first object of a run's slab
abbrev pub first_of : Run → Slot
first_of run = record { frame = run.frame; index = 0 }

-- a new slab is added and its first object is given, or nothing changes
-- (`alloc_single_from_new_slab`)
abbrev pub GivesNew : CheckedState → Run → ℕ → Result Slot NoMemory → CheckedState → Type 0
GivesNew s run objects (Ok slot) after =
    (slot ≡ first_of run) × (after ≡ with_given (with_new_slab s run objects) slot)
GivesNew s run objects (Err _) after = after ≡ s

-- all objects of the slab are free, and so many slabs are listed
pub record IsSpare (s : CheckedState) (frame limit : ℕ) : Type 0 where
  pub all_free : length (slab_of s frame).free ≡ objects_in (slab_of s frame)
  pub enough : limit ≤ length s.listed

-- a slab is there no more
abbrev pub without_slab : CheckedState → ℕ → CheckedState
without_slab s frame = record s {
  slabs = slice_set s.slabs frame None;
  listed = filter (λ other. not (other == frame)) s.listed;
}

-- a slab with no object in use is taken out, its run is the answer; any other stays
-- (`free_debug_processing`)
abbrev pub TakesEmpty : CheckedState → ℕ → ℕ → Option Run → CheckedState → Type 0
TakesEmpty s frame limit None after = (¬ IsSpare s frame limit) × (after ≡ s)
TakesEmpty s frame limit (Some run) after =
    IsSpare s frame limit × (run ≡ record { frame = frame; order = (slab_of s frame).order })
    × (after ≡ without_slab s frame)
