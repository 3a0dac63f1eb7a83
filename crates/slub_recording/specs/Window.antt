-- For private clauses: what comes of the bytes of a window, whatever the source gives behind them.
use Rattle.std.specs.Prelude.{◌≡◌, ◌⊎◌, ℕ, ◌+◌, ◌≤◌, List, ◌++◌, length, Option, Result, Ok, Err}
use Rattle.std.specs.Io.KnownBytes.{Consumes, IsAtEnd}
use Rattle.slub_edges.specs.declared.reading.ReadAllFault.{ReadAllFault}
use Rattle.slub_edges.specs.Edges.{Rose}
use Rattle.slub_edges.specs.Window.{IsOver, StopsRead}
use Rattle.slub_recording.specs.declared.fault.RecordingFault.{RecordingFault}
use Rattle.slub_recording.specs.declared.fault.RecordingFault.TheVariants.{ReadFault, TooLong, TraceDat, PerfData, BadLine, NoKmemEvent, NoMemory}
use Rattle.slub_recording.specs.declared.recording.Recording.{Recording}
use Rattle.slub_recording.specs.Recording.{Above, Recorded, start}
use Rattle.slub_recording.specs.State.{IsAnswer, IsFault, read_below}
use Rattle.slub_recording.specs.Texts.{fault_of_source}

-- lines stand in front of the bytes: what is read of those and of what follows is what is read, below
-- the lines, of the rest and of that
pub record Leads (a : Above) (bytes rest : List ℕ) (b : Above) : Type 0 where
  pub front : List ℕ
  pub whole : bytes ≡ front ++ rest
  pub reads : (more : List ℕ) → read_below a (bytes ++ more) ≡ read_below b (rest ++ more)

-- whatever follows the bytes, a fault is what is read of all, or want of memory
abbrev pub Refuses : (List ℕ → Result Recorded RecordingFault) → List ℕ → RecordingFault → Type 0
Refuses reads bytes fault = (more : List ℕ) → IsFault (reads (bytes ++ more)) fault

-- behind the first bytes the source gave more; all of them are counted, and lead to what these lines
-- say, with the rest behind
pub record Stands (first : List ℕ) (told left : Option (List ℕ)) (rest : List ℕ) (count : ℕ)
    (a : Above) : Type 0 where
  pub more : List ℕ
  pub read : Consumes told left more
  pub counted : count ≡ length first + length more
  pub leads : Leads start (first ++ more) rest a

-- behind the first bytes the source was read to its end, without a fault, and this is the answer of
-- all its bytes
pub record EndsOn (reads : List ℕ → Result Recorded RecordingFault) (first : List ℕ)
    (told left : Option (List ℕ)) (old new : ℕ) (answer : Result Recording RecordingFault)
    : Type 0 where
  pub more : List ℕ
  pub read : Consumes told left more
  pub at_end : IsAtEnd left
  pub within : length first + length more ≤ 268435456
  pub still : new ≡ old
  pub answers : IsAnswer (reads (first ++ more)) answer

-- what comes of reading on behind the first bytes
abbrev pub ReadsOn : (List ℕ → Result Recorded RecordingFault) → List ℕ → Option (List ℕ)
    → Option (List ℕ) → ℕ → ℕ → Result Recording RecordingFault → Type 0
ReadsOn reads first told left old new (Ok recording) =
    EndsOn reads first told left old new (Ok recording)
ReadsOn reads first told left old new (Err ReadFault) = Rose old new
ReadsOn reads first told left old new (Err TooLong) =
    IsOver 268435456 told left (length first) × (new ≡ old)
ReadsOn reads first told left old new (Err TraceDat) =
    EndsOn reads first told left old new (Err TraceDat)
ReadsOn reads first told left old new (Err PerfData) =
    EndsOn reads first told left old new (Err PerfData)
ReadsOn reads first told left old new (Err (BadLine line why)) =
    EndsOn reads first told left old new (Err (BadLine line why))
ReadsOn reads first told left old new (Err NoKmemEvent) =
    EndsOn reads first told left old new (Err NoKmemEvent)
ReadsOn reads first told left old new (Err NoMemory) = new ≡ old

-- the source was read to its end behind so many bytes, without a fault
pub record IsPassed (told left : Option (List ℕ)) (before old new : ℕ) : Type 0 where
  pub more : List ℕ
  pub read : Consumes told left more
  pub at_end : IsAtEnd left
  pub within : before + length more ≤ 268435456
  pub still : new ≡ old

-- behind a fault the rest was read, or why it wasn't is the fault
abbrev pub Passes : RecordingFault → Option (List ℕ) → Option (List ℕ) → ℕ → ℕ → ℕ
    → RecordingFault → Type 0
Passes fault told left before old new answer =
    ((answer ≡ fault) × IsPassed told left before old new)
    ⊎ ((other : ReadAllFault) × (answer ≡ fault_of_source other)
    × StopsRead 268435456 told left before old new other)
