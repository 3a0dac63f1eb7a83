-- What comes of reading a recording.
use Rattle.std.specs.Prelude.{◌≡◌, ℕ, ◌<◌, ◌≤◌, List, length, Option, IfSome, Result, Ok, Err}
use Rattle.std.specs.Io.KnownBytes.{IsAtEnd}
use Rattle.slub_edges.specs.Edges.{Rose}
use Rattle.slub_recording.specs.declared.fault.RecordingFault.{RecordingFault}
use Rattle.slub_recording.specs.declared.fault.RecordingFault.TheVariants.{ReadFault, TooLong, TraceDat, PerfData, BadLine, NoKmemEvent, NoMemory}
use Rattle.slub_recording.specs.declared.recording.Recording.{Recording}
use Rattle.slub_recording.specs.Recording.{Recorded, recorded, reading}

-- bytes, those that the source tells where it tells them, are read as this, and are not too many
pub record Spells (told : Option (List ℕ)) (read : Result Recorded RecordingFault) : Type 0 where
  pub bytes : List ℕ
  pub all_told : IfSome told (λ all. all ≡ bytes)
  pub within : length bytes ≤ 268435456
  pub spells : reading bytes ≡ read

-- the bytes are too many
abbrev pub IsTooLong : List ℕ → Type 0
IsTooLong bytes = 268435456 < length bytes

-- the source was read to its end, without a fault, and its bytes are read as this
abbrev pub ReadsAs : Option (List ℕ) → Option (List ℕ) → ℕ → ℕ → Result Recorded RecordingFault
    → Type 0
ReadsAs told left old new read = Spells told read × IsAtEnd left × (new ≡ old)

-- what comes of reading a source: told and left are the bytes to come before and after, old and
-- new the counts of faults; no read failed but at ReadFault
abbrev pub Reads : Option (List ℕ) → Option (List ℕ) → ℕ → ℕ → Result Recording RecordingFault
    → Type 0
Reads told left old new (Ok recording) = ReadsAs told left old new (Ok (recorded recording))
Reads told left old new (Err TraceDat) = ReadsAs told left old new (Err TraceDat)
Reads told left old new (Err PerfData) = ReadsAs told left old new (Err PerfData)
Reads told left old new (Err (BadLine line why)) =
    ReadsAs told left old new (Err (BadLine line why))
Reads told left old new (Err NoKmemEvent) = ReadsAs told left old new (Err NoKmemEvent)
Reads told left old new (Err TooLong) = IfSome told IsTooLong × (new ≡ old)
Reads told left old new (Err ReadFault) = Rose old new
Reads told left old new (Err NoMemory) = new ≡ old
