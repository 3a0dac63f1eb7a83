-- What a recording, and what is asked for, settle of a conversion.
use Rattle.std.specs.Prelude.{◌≡◌, ℕ, ◌≢◌, ⊤, List, ◌∷◌, ◌++◌, length, replicate, flat_map}
use Rattle.slub_recording.specs.declared.recording.Recording.{Recording}
use Rattle.slub_recorded.specs.declared.convert.ConvertFault.{ConvertFault}
use Rattle.slub_recorded.specs.declared.convert.ConvertFault.TheVariants.{NoMemory, TooManyCpus, NoSuchGroup, TooManyObjects, TooLong}
use Rattle.slub_recorded.specs.declared.convert.Options.{Options}
use Rattle.slub_recorded.specs.declared.told.Note.{Note}
use Rattle.slub_recorded.specs.declared.tunes.Tune.{Tune}
use Rattle.slub_recorded.specs.Converted.{IsConverted, IsFault, IsWritten, caches}
use Rattle.slub_recorded.specs.Lines.{IsTraceOf}
use Rattle.slub_recorded.specs.Members.{AreGrouped, Member}
use Rattle.slub_recorded.specs.Told.{note_text}
use Rattle.slub_recorded.specs.Tunes.{head_text, version_of}
use Rattle.slub_trace_reader.specs.declared.line.Line.{Line}
use Rattle.slub_trace_reader.specs.declared.line.Line.TheVariants.{Passed, Slubtrace}

-- ---- groups

-- the law: on so many CPUs the caches of a recording make one grouping: which of them are in one, in
-- which order, with which frames, and in which group each is
abbrev pub GroupsAreUnique : Type 0
GroupsAreUnique =
    (recording : Recording) (cpus : ℕ) (members others : List Member)
    → AreGrouped cpus (caches recording) members → AreGrouped cpus (caches recording) others
    → members ≡ others

-- ---- faults and traces

-- whether the fault has a cause is settled by the recording and by what is asked for. Not so want of
-- memory, which may come of any conversion, and the length of a text, which depends on its comments
abbrev pub IsSettled : ConvertFault → Type 0
IsSettled NoMemory = ⊥
IsSettled (TooManyCpus cpus) = ⊤
IsSettled (NoSuchGroup group groups) = ⊤
IsSettled (TooManyObjects objects) = ⊤
IsSettled (TooLong bytes) = ⊥

-- the law: where there is a trace, no such fault has a cause
abbrev pub FaultsExcludeTraces : Type 0
FaultsExcludeTraces =
    (recording : Recording) (options : Options) (tunes : List Tune) (notes : List Note)
    (text : List ℕ) (why : ConvertFault)
    → IsConverted recording options tunes notes text → IsSettled why
    → ¬ IsFault recording options tunes why

-- ---- faults

-- the fault, whatever the length that it tells of a text
abbrev pub unmeasured : ConvertFault → ConvertFault
unmeasured NoMemory = NoMemory
unmeasured (TooManyCpus cpus) = TooManyCpus cpus
unmeasured (NoSuchGroup group groups) = NoSuchGroup group groups
unmeasured (TooManyObjects objects) = TooManyObjects objects
unmeasured (TooLong bytes) = TooLong 0

-- the law: two faults of one conversion that have a cause, and aren't want of memory, are of one kind
-- and tell the same numbers, but for the length of a text
abbrev pub FaultsExcludeEachOther : Type 0
FaultsExcludeEachOther =
    (recording : Recording) (options : Options) (tunes : List Tune) (why other : ConvertFault)
    → IsFault recording options tunes why → IsFault recording options tunes other
    → why ≢ NoMemory → other ≢ NoMemory → unmeasured why ≡ unmeasured other

-- ---- traces and texts

-- the lines of a trace: a comment for each note, between the first line and these
abbrev pub lines_with : List Tune → List Note → List Line → List Line
lines_with tunes notes below =
    Slubtrace (version_of tunes) ∷ (replicate (length notes) Passed ++ below)

-- the texts spell traces of the same lines, but for the comments
pub record SpellAlike (tunes : List Tune) (notes others : List Note) (text other : List ℕ)
    : Type 0 where
  pub below : List Line
  pub text_spells : IsTraceOf text (lines_with tunes notes below)
  pub other_spells : IsTraceOf other (lines_with tunes others below)

-- the law: so do two traces of one conversion
abbrev pub TracesDifferInComments : Type 0
TracesDifferInComments =
    (recording : Recording) (options : Options) (tunes : List Tune) (notes others : List Note)
    (text other : List ℕ)
    → IsConverted recording options tunes notes text
    → IsConverted recording options tunes others other
    → SpellAlike tunes notes others text other

-- the texts have the same first line and the same lines below the comments. Between those, the one
-- tells these notes, and the other one those
pub record DifferInComments (tunes : List Tune) (notes others : List Note) (text other : List ℕ)
    : Type 0 where
  pub body : List ℕ
  pub text_is : text ≡ head_text tunes ++ flat_map note_text notes ++ body
  pub other_is : other ≡ head_text tunes ++ flat_map note_text others ++ body

-- the law: so do two texts of one conversion, however long
abbrev pub TextsDifferInComments : Type 0
TextsDifferInComments =
    (recording : Recording) (options : Options) (tunes : List Tune) (notes others : List Note)
    (text other : List ℕ)
    → IsWritten recording options tunes notes text
    → IsWritten recording options tunes others other
    → DifferInComments tunes notes others text other
