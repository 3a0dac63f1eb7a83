-- The events of a round, as a trace has them.
use Rattle.std.specs.Prelude.{ℕ, ℤ, List, ◌∷◌, [], ◌++◌, codes, slice_index_or}
use Rattle.std.specs.Fmt.{decimal, signed_decimal}
use Rattle.slub_trace.specs.declared.event.Act.TheVariants.{Alloc, Free, Write, Read, Poke, Trim, Flush}
use Rattle.slub_trace.specs.declared.event.Act.{Act}
use Rattle.slub_trace.specs.declared.event.Event.{Event}
use Rattle.slub_slabinfo_text.specs.Texts.{hex_byte}

-- `alloc W CPU NAME OBJ`
abbrev pub alloc_words : Event → List ℕ → ℕ → List ℕ
alloc_words event name object =
    codes "alloc " ++ decimal event.worker ++ 32 ∷ decimal event.cpu ++ 32 ∷ name
    ++ 32 ∷ decimal object

-- `free W CPU OBJ`
abbrev pub free_words : Event → ℕ → List ℕ
free_words event object =
    codes "free " ++ decimal event.worker ++ 32 ∷ decimal event.cpu ++ 32 ∷ decimal object

-- `write W OBJ WORD VALUE`
abbrev pub write_words : ℕ → ℕ → ℕ → ℕ → List ℕ
write_words worker object word value =
    codes "write " ++ decimal worker ++ 32 ∷ decimal object ++ 32 ∷ decimal word
    ++ 32 ∷ decimal value

-- `read W OBJ WORD`
abbrev pub read_words : ℕ → ℕ → ℕ → List ℕ
read_words worker object word =
    codes "read " ++ decimal worker ++ 32 ∷ decimal object ++ 32 ∷ decimal word

-- `poke W OBJ OFFSET BYTE`
abbrev pub poke_words : ℕ → ℕ → ℤ → ℕ → List ℕ
poke_words worker object offset byte =
    codes "poke " ++ decimal worker ++ 32 ∷ decimal object ++ 32 ∷ signed_decimal offset
    ++ 32 ∷ hex_byte byte

-- what a line of a trace says of an event
abbrev pub act_words : List (List ℕ) → Event → Act → List ℕ
act_words names event (Alloc cache object) =
    alloc_words event (slice_index_or names cache []) object
act_words names event (Free object) = free_words event object
act_words names event (Write word object value) = write_words event.worker object word value
act_words names event (Read word object) = read_words event.worker object word
act_words names event (Poke object offset byte) = poke_words event.worker object offset byte
act_words names event (Trim cache) =
    codes "trim " ++ decimal event.worker ++ 32 ∷ slice_index_or names cache []
act_words names event Flush = codes "flush " ++ decimal event.worker ++ 32 ∷ decimal event.cpu

abbrev pub event_words : List (List ℕ) → Event → List ℕ
event_words names event = act_words names event event.act

abbrev pub event_line : List (List ℕ) → Event → List ℕ
event_line names event = codes "  " ++ event_words names event ++ 10 ∷ []
