-- Profile: words and bytes of objects, that is writes, reads and pokes.
use Rattle.std.specs.Prelude.{◌≡◌, ℕ, ◌+◌, ◌*◌, ◌/◌, ◌==◌, ℤ, nat_le, nat_lt, if◌then◌else◌, Bool, false, Option, Some, None, MatchBool, MatchOption, slice_set, slice_index_or}
use Rattle.std.specs.Option.{option_and_then, option_or, option_map_or}
use Rattle.slub_object_layout.specs.declared.layout.Layout.{Layout}
use Rattle.slub_object_layout.specs.Layout.{address_of}
use Rattle.slub_red_zone.specs.State.{CheckedState, objects_in, slab_of as checked_slab}
use Rattle.slub_red_zone.specs.Steps.{IsOffset, with_byte, with_word as slab_word, word_of as slab_word_of}
use Rattle.slub_lists.specs.declared.lists.Held.{Held}
use Rattle.slub_trace.specs.declared.reply.Reply.{Reply}
use Rattle.slub_trace.specs.declared.reply.Reply.TheVariants.{NotHeld, Wrote, Value, OutOfObject, Poked, OutOfSlot, NotChecked}
use Rattle.slub_lists.specs.State.{State}
use Rattle.slub_lists.specs.Alloc.{cache_of, checked_of}
use Rattle.slub_lists.specs.Checked.{slot_of_held, with_checked}

-- ---- who knows an object

abbrev pub is_worker : ℕ → Option ℕ → Bool
is_worker worker None = false
is_worker worker (Some holder) = holder == worker

-- the object, where it is this worker's
abbrev pub own : ℕ → Held → Option Held
own worker held = if is_worker worker held.worker then Some held else None

-- the object that a worker holds under a number
abbrev pub held_by : State → ℕ → ℕ → Option Held
held_by s worker object = option_and_then (own worker) (slice_index_or s.board object None)

-- the object that it freed under a number in this round
abbrev pub freed_by : State → ℕ → ℕ → Option Held
freed_by s worker object = option_and_then (own worker) (slice_index_or s.gone object None)

-- a worker knows an object that it holds, or that it freed in this round
abbrev pub known_to : State → ℕ → ℕ → Option Held
known_to s worker object = option_or (held_by s worker object) (freed_by s worker object)

-- ---- words

-- the word, of eight bytes, lies in the object
abbrev pub is_word : Layout → ℕ → Bool
is_word layout word = nat_le (8 * (word + 1)) layout.object_size

-- where a word of an object is among the words of the frames
abbrev pub word_at : Layout → Held → ℕ → ℕ
word_at layout held word = address_of held.frame held.index layout / 8 + word

-- an object's word is its holder's; of a checked cache it is eight bytes of the slab
abbrev pub with_word : State → Layout → Held → ℕ → ℕ → State
with_word s layout held word value =
    option_map_or
    (λ slabs. with_checked s held.cache (slab_word slabs (slot_of_held held) word value))
    (checked_of s held.cache)
    (record s { memory = slice_set s.memory (word_at layout held word) value })

abbrev pub word_of : State → Layout → Held → ℕ → ℕ
word_of s layout held word =
    option_map_or (λ slabs. slab_word_of slabs (slot_of_held held) word) (checked_of s held.cache)
    (slice_index_or s.memory (word_at layout held word) 0)

-- a word is written of an object that the worker holds
abbrev pub WritesHeld : State → Layout → Held → ℕ → ℕ → Reply → State → Type 0
WritesHeld s layout held word value reply after =
    MatchBool (is_word layout word) ((reply ≡ Wrote) × (after ≡ with_word s layout held word value))
    ((reply ≡ OutOfObject) × (after ≡ s))

-- a write answers that the number isn't held, exactly where the worker doesn't hold it
abbrev pub Writes : State → ℕ → ℕ → ℕ → ℕ → Reply → State → Type 0
Writes s worker object word value reply after =
    MatchOption (held_by s worker object) ((reply ≡ NotHeld) × (after ≡ s)) (λ held.
    MatchOption (cache_of s held.cache) ⊥
    (λ live. WritesHeld s live.layout held word value reply after))

-- a word is read of an object that the worker holds
abbrev pub ReadsHeld : State → Layout → Held → ℕ → Reply → Type 0
ReadsHeld s layout held word reply =
    MatchBool (is_word layout word) (reply ≡ Value (word_of s layout held word))
    (reply ≡ OutOfObject)

-- a read answers like a write, and changes nothing
abbrev pub Reads : State → ℕ → ℕ → ℕ → Reply → Type 0
Reads s worker object word reply =
    MatchOption (held_by s worker object) (reply ≡ NotHeld)
    (λ held. MatchOption (cache_of s held.cache) ⊥
    (λ live. ReadsHeld s live.layout held word reply))

-- ---- pokes

-- one byte is written in the slot of an object, given or freed, whose slab is still there
abbrev pub PokesSlot : State → CheckedState → Held → ℤ → ℕ → Reply → State → Type 0
PokesSlot s slabs held offset byte reply after =
    MatchBool (nat_lt held.index (objects_in (checked_slab slabs held.frame)))
    ((reply ≡ Poked)
    × (after ≡ with_checked s held.cache (with_byte slabs (slot_of_held held) offset byte)))
    ((reply ≡ NotHeld) × (after ≡ s))

-- the offset is tried before the slab
pub data PokesChecked (s : State) (slabs : CheckedState) (held : Held) (offset : ℤ) (byte : ℕ)
    (reply : Reply) (after : State) : Type 0 where
  outside : ¬ IsOffset slabs.layout offset → reply ≡ OutOfSlot → after ≡ s
      → PokesChecked s slabs held offset byte reply after
  inside : IsOffset slabs.layout offset → PokesSlot s slabs held offset byte reply after
      → PokesChecked s slabs held offset byte reply after

-- in this order: the worker doesn't know the object, its cache isn't checked, the byte is outside
-- its slot, its slab is gone
abbrev pub Pokes : State → ℕ → ℕ → ℤ → ℕ → Reply → State → Type 0
Pokes s worker object offset byte reply after =
    MatchOption (known_to s worker object) ((reply ≡ NotHeld) × (after ≡ s)) (λ held.
    MatchOption (checked_of s held.cache) ((reply ≡ NotChecked) × (after ≡ s))
    (λ slabs. PokesChecked s slabs held offset byte reply after))
