-- The events of a round with their replies, and what they tell of an object number.
use Rattle.std.specs.Prelude.{◌≡◌, ◌≢◌, ℕ, ◌+◌, ◌*◌, ◌&&◌, ◌||◌, ◌==◌, not, if◌then◌else◌, Bool, true, false, List, ◌∷◌, ◌++◌, count_by, Option, Some, None, slice_index, pos, All}
use Rattle.std.specs.Int.{to_le_bytes, w64}
use Rattle.std.specs.List.{filter, fold}
use Rattle.std.specs.Ordering.{int_eq}
use Rattle.slub_trace.specs.declared.event.Act.{Act}
use Rattle.slub_trace.specs.declared.event.Act.TheVariants.{Alloc, Free, Write, Poke}
use Rattle.slub_trace.specs.declared.event.Event.{Event}
use Rattle.slub_trace.specs.declared.reply.Reply.{Reply}
use Rattle.slub_trace.specs.declared.reply.Reply.TheVariants as reply
use Rattle.slub_trace.specs.Kinds.{is_freed, is_given}
use Rattle.slub_slabinfo_text.specs.Lawful.{is_by}

-- an event with its reply
abbrev pub Answered : Type 0
Answered = Event × Reply

-- ---- one event

-- the act allocates this object
abbrev pub is_alloc_of : ℕ → Act → Bool
is_alloc_of object (Alloc place other) = other == object
is_alloc_of object _ = false

-- the act frees this object
abbrev pub is_free_of : ℕ → Act → Bool
is_free_of object (Free other) = other == object
is_free_of object _ = false

-- an object was found damaged
abbrev pub is_corrupt : Reply → Bool
is_corrupt (reply.Corrupt damage) = true
is_corrupt _ = false

-- the event was to allocate this object, and it was given
abbrev pub gave : ℕ → Answered → Bool
gave object one = is_alloc_of object one.0.act && is_given one.1

-- the event was to free this object, and it was freed
abbrev pub did_free : ℕ → Answered → Bool
did_free object one = is_free_of object one.0.act && is_freed one.1

-- the event was to free this object, and it was found damaged: its worker holds it
abbrev pub found_bad : ℕ → Answered → Bool
found_bad object one = is_free_of object one.0.act && is_corrupt one.1

-- ---- many events

-- how often an object was given
abbrev pub times_given : ℕ → List Answered → ℕ
times_given object answers = count_by (gave object) answers

-- how often it was freed
abbrev pub times_freed : ℕ → List Answered → ℕ
times_freed object answers = count_by (did_free object) answers

-- how often a free of it found it there: it was freed or found damaged
abbrev pub times_taken : ℕ → List Answered → ℕ
times_taken object answers = count_by (λ one. did_free object one || found_bad object one) answers

-- ---- one worker

-- the events of a worker, in their order
abbrev pub of_worker : ℕ → List Answered → List Answered
of_worker worker answers = filter (is_by worker) answers

-- an event of a worker; `own` are the events of the same worker before it
pub record IsAfter (answers : List Answered) (worker : ℕ) (own : List Answered)
    (one : Answered) : Type 0 where
  pub later : List Answered
  pub split : of_worker worker answers ≡ own ++ one ∷ later

-- a worker holds an object that it was given or found damaged, until it frees it
abbrev pub holds_after : ℕ → Bool → Answered → Bool
holds_after object held one =
    gave object one || found_bad object one || (held && not (did_free object one))

-- the worker to which these events were answered holds the object
abbrev pub holding : ℕ → List Answered → Bool
holding object own = fold (holds_after object) false own

-- what an act that was done writes in a word of an object, or else what stood there
abbrev pub written_by : ℕ → ℕ → Option ℕ → Act → Option ℕ
written_by object word last (Write place other value) =
    if (other == object) && (place == word) then Some value else last
written_by object word last _ = last

-- what was written last in a word of an object since it was given, after one more event
abbrev pub written_after : ℕ → ℕ → Option ℕ → Answered → Option ℕ
written_after object word last (event, reply.Wrote) = written_by object word last event.act
written_after object word last (event, reply.Given address) =
    if is_alloc_of object event.act then None else last
written_after object word last _ = last

-- what the worker to which these events were answered wrote last in a word of an object
abbrev pub last_written : ℕ → ℕ → List Answered → Option ℕ
last_written object word own = fold (written_after object word) None own

-- ---- bytes of words

-- what a write that was done puts in a byte of a word of an object, or else what stood there
abbrev pub byte_by_write : ℕ → ℕ → ℕ → Option ℕ → Act → Option ℕ
byte_by_write object word place last (Write at other value) =
    if (other == object) && (at == word) then Some (slice_index (to_le_bytes w64 value) place)
    else last
byte_by_write object word place last _ = last

-- what a poke that was done does
abbrev pub byte_by_poke : ℕ → ℕ → ℕ → Option ℕ → Act → Option ℕ
byte_by_poke object word place last (Poke other offset byte) =
    if (other == object) && int_eq offset (pos (8 * word + place)) then Some byte else last
byte_by_poke object word place last _ = last

-- what was put last in a byte of a word of an object since it was given, after one more event
abbrev pub put_after : ℕ → ℕ → ℕ → Option ℕ → Answered → Option ℕ
put_after object word place last (event, reply.Wrote) =
    byte_by_write object word place last event.act
put_after object word place last (event, reply.Poked) =
    byte_by_poke object word place last event.act
put_after object word place last (event, reply.Given address) =
    if is_alloc_of object event.act then None else last
put_after object word place last _ = last

-- what the worker to which these events were answered put last in a byte of a word of an object
abbrev pub last_put : ℕ → ℕ → ℕ → List Answered → Option ℕ
last_put object word place own = fold (put_after object word place) None own

-- none of them is a poke that was done
abbrev pub AreUnpoked : List Answered → Type 0
AreUnpoked answers = All (λ one. one.1 ≢ reply.Poked) answers
